-- How many bytes are read of a published height.
use Rattle.std.proofs.Common.{◌≡◌, ℕ, ◌+◌, ◌*◌, ◌<◌, ◌==◌, List, [], ◌∷◌, length, map, sum_by, take, get_or, inl, inr, refl, sym, ap, subst, ◌∙◌, arith}
use Rattle.std.proofs.lemmas.Bool.{cases_Bool, eqb-true}
use Rattle.std.proofs.lemmas.List.Sums.{sum_by-cons, sum_by_more, sum_by-take-le}
use Rattle.format_spec.specs.Bytes.{Bytes}
use Rattle.format_spec.specs.declared.limits.TheConstants.{PAGE_SIZE}
use Rattle.state_spec.specs.Files.{memories_in}
use Rattle.sys_state.specs.System.{part_of}
use Rattle.disk_model.specs.View.{DiskView}
use Rattle.disk_model.specs.OnlyReads.{OnlyReads, reads_only_then, reads_only_more}
use Rattle.height_store.specs.Store.{StoredHeight}
use Rattle.height_store.specs.Known.{bytes_of}
use Rattle.state_spec.specs.Memory.{pages_holding}

-- all pages hold a byte of a whole memory
pub all_held : (most pages len : ℕ) → most ≡ pages → len ≡ most * PAGE_SIZE → PAGE_SIZE * pages_holding 0 len ≡ pages * PAGE_SIZE
all_held most pages len is long = elim (cases_Bool (len == 0)) [
  | inl none ↦ rw none (omega (arith, eqb-true len 0 none, is, long))
  | inr some ↦ rw some (omega (arith, is, long))
]

abbrev sizes : ℕ → ℕ
sizes count = count * PAGE_SIZE

-- one memory more
pub reads_next : (pages : List ℕ) (i count : ℕ) (old mid new : DiskView) → i < length pages → count ≡ get_or pages i count → OnlyReads (sum_by sizes (take i pages)) old mid → OnlyReads (count * PAGE_SIZE) mid new
    → OnlyReads (sum_by sizes (take (i + 1) pages)) old new
reads_next pages i count old mid new lt here first second =
    let e : sum_by sizes (take i pages) + count * PAGE_SIZE ≡ sum_by sizes (take (i + 1) pages) = ap (λ (n : ℕ). sum_by sizes (take i pages) + n * PAGE_SIZE) here ∙ sym (sum_by_more sizes pages i count lt) in
    subst (λ (n : ℕ). OnlyReads n old new) e (reads_only_then (sum_by sizes (take i pages)) (count * PAGE_SIZE) old mid new first second)

all_sizes : (ms : List (Bytes × ℕ)) → sum_by sizes (map (λ m. m.1) ms) ≡ sum_by (λ (m : Bytes × ℕ). m.1 * PAGE_SIZE) ms
all_sizes [] = refl
all_sizes (m ∷ ms) = omega (arith, all_sizes ms, sum_by-cons sizes m.1 (map (λ (x : Bytes × ℕ). x.1) ms), sum_by-cons (λ (x : Bytes × ℕ). x.1 * PAGE_SIZE) m ms)

-- the first memories have no more bytes than all
pub reads_within : (h : StoredHeight) (pages : List ℕ) → pages ≡ map (λ m. m.1) (memories_in (part_of h.system)) → (i : ℕ) (old new : DiskView) → OnlyReads (sum_by sizes (take i pages)) old new → OnlyReads (bytes_of h) old new
reads_within h pages are i old new reads_only =
    let all : sum_by sizes pages ≡ bytes_of h = ap (sum_by sizes) are ∙ all_sizes (memories_in (part_of h.system)) in
    reads_only_more _ (bytes_of h) old new (omega (arith, sum_by-take-le sizes pages i, all)) reads_only
