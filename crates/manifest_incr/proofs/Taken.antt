-- One chunk that is read, and one after another.
use Rattle.std.proofs.Common.{◌≡◌, ◌≢◌, ◌⊎◌, ℕ, zero, suc, ◌+◌, ◌-◌, ◌*◌, ◌/◌, ◌<◌, ◌≤◌, ◌==◌, ◌||◌, Bool, true, false, cond, min, List, [], ◌∷◌, ◌++◌, length, map, take, drop, get_or, set, Option, Some, None, refl, sym, ap, ◌∙◌, subst, arith, inl, inr}
use Rattle.std.specs.List.{range_with_len, filter, list_any, AllByRecursion}
use Rattle.std.proofs.lemmas.Bool.{cases_eq, cases_lt, eq-eqb, ne_eqb, cases_Bool}
use Rattle.std.proofs.lemmas.List.{take_all, take_more, length-drop, get_or-set_other}
use Rattle.std.proofs.lemmas.List.Folds.{list_any_more, list_any_at}
use Rattle.std.proofs.lemmas.List.FromFn.{length-range_with_len, map-range_with_len_more, length-map-range_with_len, get_or-map-range_with_len}
use Rattle.format_spec.specs.Bytes.{Bytes, part_count}
use Rattle.state_spec.specs.Manifest.{sum_of}
use Rattle.state_spec.specs.Memory.{pages_between}
use Rattle.page_spec.specs.Layers.{has_page}
use Rattle.page_map.specs.Maps.{Maps}
use Rattle.page_map.specs.Changes.{SameMaps}
use Rattle.page_map.specs.Pieces.{touched_pages, pages_for_read, is_foreign}
use Rattle.manifest_incr.specs.Tables.{Sums, chunk_at, sum_after, sums_after}
use Rattle.manifest_incr.proofs.Lists.{set_map}

-- ---- what one read reads

filter_least : (p : ℕ → Bool) (xs : List ℕ) → length (filter p xs) ≤ length xs
filter_least p [] = omega arith
filter_least p (x ∷ xs) = go (p x) refl (filter_least p xs)
  where
    go : (b : Bool) → p x ≡ b → length (filter p xs) ≤ length xs → length (filter p (x ∷ xs)) ≤ length (x ∷ xs)
    go true is le = rw is (omega (arith, le))
    go false is le = rw is (omega (arith, le))

touched_least : (at n chunk : ℕ) → at ≡ chunk * 1048576 → n ≤ 1048576 → length (touched_pages at n) ≤ 256
unfolding pages_between
touched_least at n chunk is le = go (cases_eq n 0)
  where
    go : (n ≡ 0) ⊎ (n ≢ 0) → length (touched_pages at n) ≤ 256
    go (inl e) = rw (eq-eqb n 0 e) (omega arith)
    go (inr ne) =
        let long = length-range_with_len (at / 4096) (part_count 4096 (at + n) - at / 4096) in
        rw (ne_eqb n 0 ne) (omega (arith, long, is, le))

pub read_least : (maps : Maps) (id at n chunk : ℕ) → at ≡ chunk * 1048576 → n ≤ 1048576 → 4096 * length (pages_for_read maps id at n) ≤ 1048576
read_least maps id at n chunk is le = omega (arith, filter_least (is_foreign maps id) (touched_pages at n), touched_least at n chunk is le)

-- ---- the bytes of a chunk

pub whole_chunk : (bytes : Bytes) (pages chunk at n : ℕ) → length bytes ≡ pages * 4096 → at ≡ chunk * 1048576 → n ≡ min (pages * 4096 - at) 1048576 → take n (drop at bytes) ≡ chunk_at bytes chunk
whole_chunk bytes pages chunk at n long is count =
    let left = length-drop at bytes in
    let here : take 1048576 (drop at bytes) ≡ chunk_at bytes chunk = ap (λ (m : ℕ). take 1048576 (drop m bytes)) is in
    elim (cases_lt (pages * 4096 - at) 1048576) [
      | inl short ↦ take_all n (drop at bytes) (omega (arith, left, long, count, short)) ∙ sym (take_all 1048576 (drop at bytes) (omega (arith, left, long, short))) ∙ here
      | inr full ↦ let e : n ≡ 1048576 = omega (arith, count, full) in ap (λ (m : ℕ). take m (drop at bytes)) e ∙ here
    ]

-- ---- one chunk more

pub has_more : (stale : List ℕ) (k i : ℕ) → k < length stale → has_page i (take (k + 1) stale) ≡ (has_page i (take k stale) || get_or stale k 0 == i)
has_more stale k i lt = list_any_more (λ p. p == i) stale k 0 lt

chosen_same : (now old : Option Bytes) (a b c : Bool) → a ≡ (b || c) → c ≡ false → cond b now old ≡ cond a now old
chosen_same now old a b c is none = rw (is, none) (go b)
  where
    go : (b : Bool) → cond b now old ≡ cond (b || false) now old
    go true = refl
    go false = refl

chosen_now : (now old : Option Bytes) (a b c : Bool) → a ≡ (b || c) → c ≡ true → now ≡ cond a now old
chosen_now now old a b c is some = rw (is, some) (go b)
  where
    go : (b : Bool) → now ≡ cond (b || true) now old
    go true = refl
    go false = refl

pub sums_more : (version : ℕ) (stale : List ℕ) (first sums new : Sums) (bytes : Bytes) (count k chunk : ℕ) (sum : Option Bytes) → k < length stale → chunk ≡ get_or stale k 0 → chunk < count
    → sum ≡ sum_of version (chunk_at bytes chunk) → new ≡ set sums chunk sum → sums ≡ sums_after version (take k stale) first bytes count → new ≡ sums_after version (take (k + 1) stale) first bytes count
sums_more version stale first sums new bytes count k chunk sum lt is inside now put so_far =
    put ∙ ap (λ (s : Sums). set s chunk sum) so_far
    ∙ set_map (sum_after version (take k stale) first bytes) (sum_after version (take (k + 1) stale) first bytes) 0 count chunk chunk sum inside (omega arith)
    (now ∙ chosen_now (sum_of version (chunk_at bytes chunk)) (get_or first chunk None) (has_page chunk (take (k + 1) stale)) (has_page chunk (take k stale)) (get_or stale k 0 == chunk)
    (has_more stale k chunk lt) (eq-eqb (get_or stale k 0) chunk (sym is)))
    (λ i ne. chosen_same (sum_of version (chunk_at bytes i)) (get_or first i None) (has_page i (take (k + 1) stale)) (has_page i (take k stale)) (get_or stale k 0 == i)
    (has_more stale k i lt) (ne_eqb (get_or stale k 0) i (λ e. ne (sym (is ∙ e)))))

pub sums_all : (version : ℕ) (stale : List ℕ) (first sums : Sums) (bytes : Bytes) (count k : ℕ) → length stale ≤ k → sums ≡ sums_after version (take k stale) first bytes count → sums ≡ sums_after version stale first bytes count
sums_all version stale first sums bytes count k le so_far = so_far ∙ ap (λ (s : List ℕ). sums_after version s first bytes count) (take_all k stale le)

-- a chunk that isn't stale keeps its sum
pub rest_more : (stale : List ℕ) (first sums new : Sums) (k chunk i : ℕ) (sum : Option Bytes) → k < length stale → chunk ≡ get_or stale k 0 → new ≡ set sums chunk sum → has_page i stale ≡ false
    → get_or sums i None ≡ get_or first i None → get_or new i None ≡ get_or first i None
rest_more stale first sums new k chunk i sum lt is put none so_far =
    ap (λ (s : Sums). get_or s i None) put ∙ get_or-set_other sums chunk i sum None apart ∙ so_far
  where
    apart : i ≢ chunk
    apart e =
        let there : has_page i stale ≡ true = list_any_at (λ p. p == i) stale k 0 lt (eq-eqb (get_or stale k 0) i (sym is ∙ sym e)) in
        absurd cc

-- ---- maps that stay

pub maps_then : (a b c : Maps) → SameMaps a b → SameMaps b c → SameMaps a c
maps_then a b c one two = record { live = λ id. two.live id ∙ one.live id; own = λ id page. two.own id page ∙ one.own id page }

pub maps_none : (a : Maps) → SameMaps a a
maps_none a = record { live = λ id. refl; own = λ id page. refl }

-- ---- the sums from before

pub first_more : (sums first new : Sums) (sum : Option Bytes) (i : ℕ) → new ≡ first ++ sum ∷ [] → sum ≡ get_or sums i None → first ≡ map (λ j. get_or sums j None) (range_with_len 0 i)
    → new ≡ map (λ j. get_or sums j None) (range_with_len 0 (i + 1))
first_more sums first new sum i put is so_far =
    put ∙ rw (so_far, is) refl ∙ sym (map-range_with_len_more (λ j. get_or sums j None) 0 i i (omega arith))

pub all_at : (n : ℕ) (xs : List ℕ) (i : ℕ) → AllByRecursion (λ x. x < n) xs → i < length xs → get_or xs i 0 < n
all_at n [] i all lt = absurd (omega (arith, lt))
all_at n (x ∷ xs) zero all lt = all.0
all_at n (x ∷ xs) (suc i) all lt = all_at n xs i all.1 (omega (arith, lt))

pub first_long : (sums first : Sums) (count : ℕ) → first ≡ map (λ j. get_or sums j None) (range_with_len 0 count) → length first ≡ count
first_long sums first count is = ap length is ∙ length-map-range_with_len (λ j. get_or sums j None) 0 count

pub first_at : (sums first : Sums) (count n i : ℕ) → count ≡ n → i < n → first ≡ map (λ j. get_or sums j None) (range_with_len 0 count) → get_or first i None ≡ get_or sums i None
first_at sums first count n i same lt is = ap (λ (s : Sums). get_or s i None) is ∙ get_or-map-range_with_len (λ j. get_or sums j None) 0 count i i None (omega (arith, lt, same)) (omega arith)

pub first_is : (version : ℕ) (sums table first : Sums) (bytes : Bytes) (count n : ℕ) → count ≡ n → sums ≡ table → first ≡ map (λ j. get_or sums j None) (range_with_len 0 count) → first ≡ sums_after version [] table bytes n
first_is version sums table first bytes count n same e is =
    is ∙ ap (λ (s : Sums). map (λ j. get_or s j None) (range_with_len 0 count)) e ∙ ap (λ (k : ℕ). map (λ j. get_or table j None) (range_with_len 0 k)) same
