-- Sums that stay, and sums of all bytes.
use Rattle.std.proofs.Common.{◌≡◌, ◌≢◌, ◌⊎◌, ℕ, zero, suc, ◌+◌, ◌-◌, ◌*◌, ◌/◌, ◌%◌, ◌<◌, ◌≤◌, ◌==◌, ◌&&◌, ◌||◌, not, nat_lt, Bool, true, false, cond, min, List, [], ◌∷◌, ◌++◌, length, map, take, drop, get_or, Option, Some, None, refl, sym, ap, ◌∙◌, arith, inl, inr, take-add}
use Rattle.std.specs.Prelude.{nat_le}
use Rattle.std.specs.List.{range_with_len, filter, list_any}
use Rattle.std.proofs.lemmas.Bool.{cases_lt, cases_eq, cases_Bool, eq-eqb, ne_eqb, ltb-false}
use Rattle.std.proofs.lemmas.List.{take_all, drop-drop, length-map, length-drop, get_or-map}
use Rattle.std.proofs.lemmas.List.FromFn.{get_or-map-range_with_len, length-map-range_with_len}
use Rattle.format_spec.specs.Bytes.{Bytes, parts, part_count, page_at}
use Rattle.format_spec.proofs.Parts.{parts_length}
use Rattle.state_spec.specs.Manifest.{sum_of, chunk_hashes}
use Rattle.page_spec.specs.Layers.{has_page, is_stale, stale}
use Rattle.manifest_incr.specs.Tables.{Sums, chunk_at, sum_after, sums_after, refreshed, HasRest}
use Rattle.manifest_incr.proofs.Lists.{map_same, filtered}
use Rattle.manifest_incr.proofs.Choosing.{fresh_is}

-- ---- the sums of all bytes

fused : (f : Bytes → Option Bytes) (g : ℕ → Bytes) (a n : ℕ) → map f (map g (range_with_len a n)) ≡ map (λ i. f (g i)) (range_with_len a n)
fused f g a zero = refl
fused f g a (suc n) = ap (λ (t : Sums). f (g a) ∷ t) (fused f g (a + 1) n)

pub hashes_are : (version : ℕ) (bytes : Bytes) → chunk_hashes version bytes ≡ map (λ i. sum_of version (chunk_at bytes i)) (range_with_len 0 (part_count 1048576 (length bytes)))
unfolding parts
hashes_are version bytes = fused (sum_of version) (chunk_at bytes) 0 (part_count 1048576 (length bytes))

chosen : (b : Bool) (now old : Option Bytes) → (b ≡ false → old ≡ now) → cond b now old ≡ now
chosen true now old same = refl
chosen false now old same = same refl

pub all_sums : (version : ℕ) (stale : List ℕ) (sums : Sums) (bytes : Bytes) → HasRest version stale sums bytes → refreshed version stale sums bytes ≡ chunk_hashes version bytes
unfolding refreshed
all_sums version stale sums bytes rest =
    map_same (sum_after version stale sums bytes) (λ i. sum_of version (chunk_at bytes i)) 0 (part_count 1048576 (length bytes))
    (λ i le lt. chosen (has_page i stale) (sum_of version (chunk_at bytes i)) (get_or sums i None) (λ none. (rest i (omega (arith, lt)) none).1))
    ∙ sym (hashes_are version bytes)

-- ---- chunks of the same pages

step_at : (k a : ℕ) (s : Bytes) → take 4096 (drop (a * 4096) s) ++ take (k * 4096) (drop ((a + 1) * 4096) s) ≡ take (suc k * 4096) (drop (a * 4096) s)
step_at k a s =
    let at : (a + 1) * 4096 ≡ a * 4096 + 4096 = omega arith in
    let more : 4096 + k * 4096 ≡ suc k * 4096 = omega arith in
    let d : drop ((a + 1) * 4096) s ≡ drop 4096 (drop (a * 4096) s) = ap (λ (m : ℕ). drop m s) at ∙ sym (drop-drop 4096 (a * 4096) s) in
    ap (λ (x : Bytes). take 4096 (drop (a * 4096) s) ++ take (k * 4096) x) d ∙ sym (take-add 4096 (k * 4096) (drop (a * 4096) s)) ∙ ap (λ (m : ℕ). take m (drop (a * 4096) s)) more

pages_same : (x y : Bytes) (k a : ℕ) → ((page : ℕ) → a ≤ page → page < a + k → page_at x page ≡ page_at y page) → take (k * 4096) (drop (a * 4096) x) ≡ take (k * 4096) (drop (a * 4096) y)
pages_same x y zero a same = let z : 0 ≡ 0 * 4096 = omega arith in ap (λ (m : ℕ). take m (drop (a * 4096) x)) (sym z) ∙ ap (λ (m : ℕ). take m (drop (a * 4096) y)) z
pages_same x y (suc k) a same =
    sym (step_at k a x)
    ∙ ap (λ (p : Bytes). p ++ take (k * 4096) (drop ((a + 1) * 4096) x)) (same a (omega arith) (omega arith))
    ∙ ap (λ (t : Bytes). take 4096 (drop (a * 4096) y) ++ t) (pages_same x y k (a + 1) (λ page le lt. same page (omega (arith, le)) (omega (arith, lt))))
    ∙ step_at k a y

chunk_place : (x : Bytes) (i : ℕ) → chunk_at x i ≡ take (256 * 4096) (drop (i * 256 * 4096) x)
chunk_place x i = let e : i * 1048576 ≡ i * 256 * 4096 = omega arith in ap (λ (m : ℕ). take 1048576 (drop m x)) e

whole_same : (x y : Bytes) (i : ℕ) → ((page : ℕ) → page / 256 ≡ i → page_at x page ≡ page_at y page) → chunk_at x i ≡ chunk_at y i
whole_same x y i same =
    chunk_place x i ∙ pages_same x y 256 (i * 256) (λ page le lt. same page (omega (arith, le, lt))) ∙ sym (chunk_place y i)

-- the last chunk, which has fewer pages
part_same : (x y : Bytes) (pages i : ℕ) → length x ≡ pages * 4096 → length y ≡ pages * 4096 → i * 256 ≤ pages → pages < i * 256 + 256
    → ((page : ℕ) → page < pages → page / 256 ≡ i → page_at x page ≡ page_at y page) → chunk_at x i ≡ chunk_at y i
part_same x y pages i x_long y_long low high same =
    all x x_long ∙ pages_same x y (pages - i * 256) (i * 256) (λ page le lt. same page (omega (arith, lt, low)) (omega (arith, le, lt, low, high))) ∙ sym (all y y_long)
  where
    all : (s : Bytes) → length s ≡ pages * 4096 → chunk_at s i ≡ take ((pages - i * 256) * 4096) (drop (i * 256 * 4096) s)
    all s long =
        let rest : length (drop (i * 256 * 4096) s) ≡ (pages - i * 256) * 4096 = omega (arith, length-drop (i * 256 * 4096) s, long, low) in
        chunk_place s i ∙ take_all (256 * 4096) (drop (i * 256 * 4096) s) (omega (arith, rest, high)) ∙ sym (take_all ((pages - i * 256) * 4096) (drop (i * 256 * 4096) s) (omega (arith, rest)))

-- ---- a chunk that is not stale

or_none : (a b : Bool) → (a || b) ≡ false → (a ≡ false) × (b ≡ false)
or_none false b none = (refl, none)
or_none true b none = absurd cc

not_dirty : (dirty : List ℕ) (page i : ℕ) → page / 256 ≡ i → list_any (λ p. p / 256 == i) dirty ≡ false → has_page page dirty ≡ false
not_dirty [] page i is none = refl
not_dirty (p ∷ dirty) page i is none = go (cases_eq p page) (not_dirty dirty page i is (or_none (p / 256 == i) (list_any (λ q. q / 256 == i) dirty) none).1)
  where
    go : (p ≡ page) ⊎ (p ≢ page) → has_page page dirty ≡ false → has_page page (p ∷ dirty) ≡ false
    go (inl e) rest =
        let here : (p / 256 == i) ≡ true = eq-eqb (p / 256) i (ap (λ (n : ℕ). n / 256) e ∙ is) in
        let other = (or_none (p / 256 == i) (list_any (λ q. q / 256 == i) dirty) none).0 in
        absurd cc
    go (inr ne) rest = rw (ne_eqb p page ne) rest

-- where the memory grew its chunk was full, else it is a chunk of before
pub old_chunk : (old new i : ℕ) → old ≤ new → ((i == old / 256 && not (old % 256 == 0) && nat_lt old new) || nat_le (part_count 256 old) i) ≡ false
    → (i < part_count 256 old) × ((i * 256 + 256 ≤ old) ⊎ ((old ≡ new) × (old < i * 256 + 256)))
old_chunk old new i le none =
    let ends : nat_le (part_count 256 old) i ≡ false = (or_none (i == old / 256 && not (old % 256 == 0) && nat_lt old new) (nat_le (part_count 256 old) i) none).1 in
    let below : i < part_count 256 old = grind (arith, ends) in
    (below, go below (cases_lt old new) (cases_lt old (i * 256 + 256)))
  where
    go : i < part_count 256 old → (old < new) ⊎ (new ≤ old) → (old < i * 256 + 256) ⊎ (i * 256 + 256 ≤ old) → (i * 256 + 256 ≤ old) ⊎ ((old ≡ new) × (old < i * 256 + 256))
    go below grew (inr full) = inl full
    go below (inr same) (inl part) = inr (omega (arith, same, le), part)
    go below (inl lt) (inl part) =
        let fresh : nat_le (old / 256) i ≡ false = fresh_is old new (old / 256) i (inl (lt, refl)) ∙ none in
        let low : i < old / 256 = grind (arith, fresh) in
        absurd (omega (arith, low, part))

module _ (version old new : ℕ) (dirty : List ℕ) (before after : Bytes) (before_long : length before ≡ old * 4096) (after_long : length after ≡ new * 4096) (grows : old ≤ new)
    (same : (page : ℕ) → page < old → has_page page dirty ≡ false → page_at after page ≡ page_at before page) where
  same_chunk : (i : ℕ) → i < part_count 256 old → list_any (λ p. p / 256 == i) dirty ≡ false → (i * 256 + 256 ≤ old) ⊎ ((old ≡ new) × (old < i * 256 + 256)) → chunk_at before i ≡ chunk_at after i
  same_chunk i lt clean (inl full) = whole_same before after i (λ page is. sym (same page (omega (arith, is, full)) (not_dirty dirty page i is clean)))
  same_chunk i lt clean (inr (e, part)) =
      part_same before after old i before_long (omega (arith, after_long, e)) (omega (arith, lt)) part (λ page below is. sym (same page below (not_dirty dirty page i is clean)))

  pub rest_kept : HasRest version (stale dirty old new) (chunk_hashes version before) after
  unfolding stale
  rest_kept i lt none =
      let count : part_count 1048576 (length after) ≡ part_count 256 new = omega (arith, after_long) in
      let fine = filtered (is_stale dirty old new) 0 (part_count 256 new) i (omega arith) (omega (arith, lt, count)) none in
      let partly : Bool = i == old / 256 && not (old % 256 == 0) && nat_lt old new in
      let two = or_none (list_any (λ p. p / 256 == i) dirty || partly) (nat_le (part_count 256 old) i) fine in
      let parts_of = or_none (list_any (λ p. p / 256 == i) dirty) partly two.0 in
      let is = old_chunk old new i grows (rw (parts_of.1, two.1) refl) in
      let old_count : part_count 1048576 (length before) ≡ part_count 256 old = omega (arith, before_long) in
      let here : i < part_count 1048576 (length before) = omega (arith, is.0, old_count) in
      let f : ℕ → Option Bytes = λ j. sum_of version (chunk_at before j) in
      let long : length (chunk_hashes version before) ≡ part_count 1048576 (length before) = ap length (hashes_are version before) ∙ length-map-range_with_len f 0 (part_count 1048576 (length before)) in (
        omega (arith, here, long),
        ap (λ (l : Sums). get_or l i None) (hashes_are version before)
            ∙ get_or-map-range_with_len f 0 (part_count 1048576 (length before)) i i None here (omega arith)
            ∙ ap (sum_of version) (same_chunk i is.0 parts_of.0 is.1),
      )

-- ---- what a refreshed table is

pub refreshed_is : (version : ℕ) (stale : List ℕ) (sums new : Sums) (bytes : Bytes) (pages : ℕ) → length bytes ≡ pages * 4096 → new ≡ sums_after version stale sums bytes (part_count 256 pages) → new ≡ refreshed version stale sums bytes
unfolding refreshed
refreshed_is version stale sums new bytes pages long is =
    let count : part_count 256 pages ≡ part_count 1048576 (length bytes) = omega (arith, long) in
    is ∙ ap (λ (n : ℕ). sums_after version stale sums bytes n) count
