-- Ranges, and the runs of their pages.
use Rattle.std.proofs.Common.{◌≡◌, ℕ, zero, suc, ◌+◌, ◌<◌, ◌≤◌, true, ◌&&◌, nat_le, ◌==◌, List, [], ◌∷◌, ◌++◌, length, refl, sym, ◌∙◌, ap, subst, arith, length-append}
use Rattle.std.specs.List.{range_with_len, AllByRecursion, list_all}
use Rattle.std.specs.Ordering.{nat_cmp, is_lt}
use Rattle.std.proofs.lemmas.Bool.{and_parts, and_from, leb-true, le-leb, eqb-true, eq-eqb, ne_eqb}
use Rattle.std.proofs.lemmas.Bool.Decides.{nat_tests}
use Rattle.std.proofs.lemmas.List.FromFn.{length-range_with_len}
use Rattle.format_spec.specs.Bytes.{ascending}
use Rattle.page_spec.specs.PageFile.{runs_of, before_runs}
use Rattle.page_file.specs.declared.range.Range.{Range}
use Rattle.page_file.specs.Ranges.{numbers_in, runs_in, are_ranges, AreRanges}

-- ---- the test and the facts

pub facts : (m l p : ℕ) (rs : List Range) → are_ranges m l p rs ≡ true → AreRanges m l p rs
facts m l p [] h = tt
facts m l p (r ∷ rs) h =
    let a = and_parts (nat_le l r.first && nat_le 1 r.length && nat_le (r.first + r.length) m && r.place == p) (are_ranges m (r.first + r.length + 1) (p + r.length) rs) h in
    let b = and_parts (nat_le l r.first && nat_le 1 r.length && nat_le (r.first + r.length) m) (r.place == p) a.0 in
    let c = and_parts (nat_le l r.first && nat_le 1 r.length) (nat_le (r.first + r.length) m) b.0 in
    let d = and_parts (nat_le l r.first) (nat_le 1 r.length) c.0 in
    (leb-true _ _ d.0, leb-true _ _ d.1, leb-true _ _ c.1, eqb-true _ _ b.1, facts m (r.first + r.length + 1) (p + r.length) rs a.1)

pub test : (m l p : ℕ) (rs : List Range) → AreRanges m l p rs → are_ranges m l p rs ≡ true
test m l p [] h = refl
test m l p (r ∷ rs) h =
    and_from _ _ (and_from _ _ (and_from _ _ (and_from _ _ (le-leb _ _ h.0) (le-leb _ _ h.1)) (le-leb _ _ h.2)) (eq-eqb _ _ h.3)) (test m (r.first + r.length + 1) (p + r.length) rs h.4)

-- ---- ranges give the runs of their pages

-- the first of these runs begins above this page
abbrev Above : ℕ → List (ℕ × ℕ) → Type 0
Above e [] = Unit {0}
Above e (r ∷ rs) = e < r.0

run_alone : (a : ℕ) (rs : List (ℕ × ℕ)) → Above (a + 1) rs → before_runs a rs ≡ (a, 1) ∷ rs
run_alone a [] above = refl
run_alone a (r ∷ rs) above = rw (ne_eqb r.0 (a + 1) (λ e. omega (arith, e, above))) refl

runs_front : (k a : ℕ) (ns : List ℕ) (rs : List (ℕ × ℕ)) → runs_of ns ≡ rs → Above (a + suc k) rs → runs_of (range_with_len a (suc k) ++ ns) ≡ (a, suc k) ∷ rs
runs_front zero a ns rs is above = ap (before_runs a) is ∙ run_alone a rs above
runs_front (suc k) a ns rs is above =
    ap (before_runs a) (runs_front k (a + 1) ns rs is (subst (λ e. Above e rs) (omega arith) above))
    ∙ rw (eq-eqb (a + 1) (a + 1) refl) (ap (λ (n : ℕ). (a, n) ∷ rs) (omega arith))

above_of : (m l p : ℕ) (rs : List Range) → AreRanges m l p rs → (e : ℕ) → e < l → Above e (runs_in rs)
above_of m l p [] h e lt = tt
above_of m l p (r ∷ rs) h e lt = omega (arith, h.0)

pub runs_of_numbers : (m l p : ℕ) (rs : List Range) → AreRanges m l p rs → runs_of (numbers_in rs) ≡ runs_in rs
runs_of_numbers m l p [] h = refl
runs_of_numbers m l p (r ∷ rs) h = front r.length refl (runs_of_numbers m (r.first + r.length + 1) (p + r.length) rs h.4)
  where
    front : (n : ℕ) → r.length ≡ n → runs_of (numbers_in rs) ≡ runs_in rs → runs_of (range_with_len r.first r.length ++ numbers_in rs) ≡ (r.first, r.length) ∷ runs_in rs
    front zero is rest = absurd (omega (arith, h.1, is))
    front (suc k) is rest = subst (λ n. runs_of (range_with_len r.first n ++ numbers_in rs) ≡ (r.first, n) ∷ runs_in rs) (sym is)
        (runs_front k r.first (numbers_in rs) (runs_in rs) rest (above_of m _ _ rs h.4 (r.first + suc k) (omega (arith, is))))

-- ---- their pages ascend within the memory

-- each is this number at least
abbrev From : ℕ → List ℕ → Type 0
From l ns = AllByRecursion (λ n. l ≤ n) ns

from_more : (k l : ℕ) (ns : List ℕ) → k ≤ l → From l ns → From k ns
from_more k l [] le from = tt
from_more k l (n ∷ ns) le from = (omega (arith, from.0), from_more k l ns le from.1)

from_append : (l : ℕ) (ms ns : List ℕ) → From l ms → From l ns → From l (ms ++ ns)
from_append l [] ns h k = k
from_append l (m ∷ ms) ns h k = (h.0, from_append l ms ns h.1 k)

from_range : (k a : ℕ) (n : ℕ) → k ≤ a → From k (range_with_len a n)
from_range k a zero le = tt
from_range k a (suc n) le = (le, from_range k (a + 1) n (omega arith))

pub numbers_from : (m l p : ℕ) (rs : List Range) → AreRanges m l p rs → From l (numbers_in rs)
numbers_from m l p [] h = tt
numbers_from m l p (r ∷ rs) h =
    from_append l (range_with_len r.first r.length) (numbers_in rs) (from_range l r.first r.length h.0)
    (from_more l (r.first + r.length + 1) (numbers_in rs) (omega (arith, h.0)) (numbers_from m (r.first + r.length + 1) (p + r.length) rs h.4))

below_append : (m : ℕ) (ks ns : List ℕ) → AllByRecursion (λ n. n < m) ks → AllByRecursion (λ n. n < m) ns → AllByRecursion (λ n. n < m) (ks ++ ns)
below_append m [] ns h k = k
below_append m (x ∷ ks) ns h k = (h.0, below_append m ks ns h.1 k)

below_range : (m a n : ℕ) → a + n ≤ m → AllByRecursion (λ n. n < m) (range_with_len a n)
below_range m a zero le = tt
below_range m a (suc n) le = (omega arith, below_range m (a + 1) n (omega arith))

pub numbers_within : (m l p : ℕ) (rs : List Range) → AreRanges m l p rs → AllByRecursion (λ n. n < m) (numbers_in rs)
numbers_within m l p [] h = tt
numbers_within m l p (r ∷ rs) h = below_append m (range_with_len r.first r.length) (numbers_in rs) (below_range m r.first r.length h.2) (numbers_within m (r.first + r.length + 1) (p + r.length) rs h.4)

after : (a : ℕ) (ns : List ℕ) → From (a + 1) ns → list_all (λ j. is_lt (nat_cmp a j)) ns ≡ true
after a [] from = refl
after a (n ∷ ns) from = let lt : a < n = omega (arith, from.0) in and_from _ _ (grind (arith, nat_tests)) (after a ns from.1)

ascends_front : (a n : ℕ) (ns : List ℕ) → From (a + n) ns → ascending nat_cmp ns ≡ true → ascending nat_cmp (range_with_len a n ++ ns) ≡ true
ascends_front a zero ns from h = h
ascends_front a (suc n) ns from h = and_from _ _
    (after a (range_with_len (a + 1) n ++ ns) (from_append (a + 1) (range_with_len (a + 1) n) ns (from_range (a + 1) (a + 1) n (omega arith)) (from_more (a + 1) (a + suc n) ns (omega arith) from)))
    (ascends_front (a + 1) n ns (from_more (a + 1 + n) (a + suc n) ns (omega arith) from) h)

pub numbers_ascend : (m l p : ℕ) (rs : List Range) → AreRanges m l p rs → ascending nat_cmp (numbers_in rs) ≡ true
numbers_ascend m l p [] h = refl
numbers_ascend m l p (r ∷ rs) h = let rest = numbers_from m (r.first + r.length + 1) (p + r.length) rs h.4 in
    ascends_front r.first r.length (numbers_in rs) (from_more (r.first + r.length) (r.first + r.length + 1) (numbers_in rs) (omega arith) rest) (numbers_ascend m (r.first + r.length + 1) (p + r.length) rs h.4)

-- ---- counts

pub ranges_le_numbers : (m l p : ℕ) (rs : List Range) → AreRanges m l p rs → length rs ≤ length (numbers_in rs)
ranges_le_numbers m l p [] h = omega arith
ranges_le_numbers m l p (r ∷ rs) h = omega (arith, h.1, length-append (range_with_len r.first r.length) (numbers_in rs), length-range_with_len r.first r.length, ranges_le_numbers m (r.first + r.length + 1) (p + r.length) rs h.4)

-- with the pages before a least one
pub numbers_le_memory : (m l p : ℕ) (rs : List Range) → AreRanges m l p rs → l ≤ m → l + length (numbers_in rs) ≤ m
numbers_le_memory m l p [] h le = omega arith
numbers_le_memory m l p (r ∷ []) h le = omega (arith, h.0, h.2, length-append (range_with_len r.first r.length) [], length-range_with_len r.first r.length)
numbers_le_memory m l p (r ∷ q ∷ rs) h le =
    omega (
      arith,
      h.0,
      h.2,
      h.4.0,
      h.4.1,
      h.4.2,
      length-append (range_with_len r.first r.length) (numbers_in (q ∷ rs)),
      length-range_with_len r.first r.length,
      numbers_le_memory m (r.first + r.length + 1) (p + r.length) (q ∷ rs) h.4 (omega (arith, h.4.0, h.4.1, h.4.2)),
    )
