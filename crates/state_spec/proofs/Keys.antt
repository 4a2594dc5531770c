-- Ids and paths are in a total order, which tells any two of them apart. Keys beside other values.
use Rattle.std.proofs.Common.{◌≡◌, ◌&&◌, List, [], ◌∷◌, map, refl, ap}
use Rattle.std.specs.FinMap.{is_sorted, IsAntisymmetric, nat_cmp-IsAntisymmetric, slice_cmp-IsAntisymmetric}
use Rattle.std.specs.FinMap.Entries.{below_all}
use Rattle.std.specs.Ordering.{is_lt}
use Rattle.std.specs.declared.cmp.Ordering.{Ordering}
use Rattle.std.specs.Cmp.{IsTotalOrder}
use Rattle.std.specs.Cmp.Lexicographic.{lists_total, nat_list_cmp_total}
use Rattle.format_spec.specs.Bytes.{bytes_cmp, path_cmp}

pub ids_total : IsTotalOrder bytes_cmp
ids_total = nat_list_cmp_total

pub ids_apart : IsAntisymmetric bytes_cmp
ids_apart = slice_cmp-IsAntisymmetric nat_cmp-IsAntisymmetric

pub paths_total : IsTotalOrder path_cmp
paths_total = lists_total ids_total

pub paths_apart : IsAntisymmetric path_cmp
paths_apart = slice_cmp-IsAntisymmetric ids_apart

-- ---- keys beside other values are in order as before

module _ {K X Y : Type 0} (R : K → K → Ordering) (f : X → Y) where
  abbrev pub over : K × X → K × Y
  over e = (e.0, f e.1)

  below_all-over : (k : K) (es : List (K × X)) → below_all R k (map over es) ≡ below_all R k es
  below_all-over k [] = refl
  below_all-over k (e ∷ es) = ap (λ b. is_lt (R k e.0) && b) (below_all-over k es)

  pub is_sorted-over : (es : List (K × X)) → is_sorted R (map over es) ≡ is_sorted R es
  is_sorted-over [] = refl
  is_sorted-over (e ∷ es) = λ i. below_all-over e.0 es i && is_sorted-over es i
