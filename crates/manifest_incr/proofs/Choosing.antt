-- Which chunks are stale, one chunk after another.
use Rattle.std.proofs.Common.{◌≡◌, ◌≢◌, ◌⊎◌, ℕ, zero, suc, ◌+◌, ◌*◌, ◌/◌, ◌%◌, ◌<◌, ◌≤◌, ◌==◌, ◌&&◌, ◌||◌, not, nat_lt, Bool, true, false, cond, IsTrue, List, [], ◌∷◌, ◌++◌, length, get_or, refl, sym, ap, ◌∙◌, arith, inl, inr}
use Rattle.std.specs.Prelude.{nat_le}
use Rattle.std.specs.List.{range_with_len, filter, list_any, list_all}
use Rattle.std.specs.Ordering.{nat_cmp, is_lt}
use Rattle.std.proofs.lemmas.Bool.{cases_lt, cases_eq, eq-eqb, ne_eqb, lt-ltb, le-ltb, and_parts, cases_Bool}
use Rattle.std.proofs.lemmas.List.Elements.{All-from_get_or}
use Rattle.std.proofs.lemmas.List.Folds.{list_any_none, list_any_at, list_all_at}
use Rattle.format_spec.specs.Bytes.{ascending, part_count}
use Rattle.format_spec.proofs.Lists.{below_is}
use Rattle.page_spec.specs.Layers.{is_stale, stale}
use Rattle.manifest_incr.proofs.Lists.{filter_more}

above_first : (x : ℕ) (xs : List ℕ) (j : ℕ) → list_all (λ y. is_lt (nat_cmp x y)) xs ≡ true → j < length xs → x < get_or xs j 0
above_first x xs j all lt = below_is x (get_or xs j 0) (go (is_lt (nat_cmp x (get_or xs j 0))) refl)
  where
    go : (b : Bool) → is_lt (nat_cmp x (get_or xs j 0)) ≡ b → is_lt (nat_cmp x (get_or xs j 0)) ≡ true
    go true is = is
    go false is = let none = list_all_at (λ y. is_lt (nat_cmp x y)) xs j 0 lt is in absurd cc

-- of numbers that ascend a later one is no less
pub in_order : (xs : List ℕ) (i j : ℕ) → IsTrue (ascending nat_cmp xs) → i ≤ j → j < length xs → get_or xs i 0 ≤ get_or xs j 0
in_order [] i j up le lt = absurd (omega (arith, lt))
in_order (x ∷ xs) zero zero up le lt = omega arith
in_order (x ∷ xs) zero (suc j) up le lt =
    let parts = and_parts (list_all (λ y. is_lt (nat_cmp x y)) xs) (ascending nat_cmp xs) up in
    let above = above_first x xs j parts.0 (omega (arith, lt)) in
    omega (arith, above)
in_order (x ∷ xs) (suc i) zero up le lt = absurd (omega (arith, le))
in_order (x ∷ xs) (suc i) (suc j) up le lt =
    let parts = and_parts (list_all (λ y. is_lt (nat_cmp x y)) xs) (ascending nat_cmp xs) up in
    in_order xs i j parts.1 (omega (arith, le)) (omega (arith, lt))

-- how far the pages of all chunks before this one go
pub record IsAt (pages : List ℕ) (chunk at : ℕ) : Type 0 where
  pub within : at ≤ length pages
  pub before : (i : ℕ) → i < at → get_or pages i 0 / 256 < chunk
  pub behind : at < length pages → chunk ≤ get_or pages at 0 / 256

-- where those of this one end
pub record EndsAt (pages : List ℕ) (chunk from to : ℕ) : Type 0 where
  pub order : from ≤ to
  pub within : to ≤ length pages
  pub before : (i : ℕ) → from ≤ i → i < to → get_or pages i 0 / 256 ≤ chunk
  pub behind : to < length pages → chunk < get_or pages to 0 / 256

pub at_next : (pages : List ℕ) (chunk from to : ℕ) → IsAt pages chunk from → EndsAt pages chunk from to → IsAt pages (chunk + 1) to
at_next pages chunk from to is ends = record {
  within = ends.within;
  before = λ i lt. go i lt (cases_lt i from);
  behind = λ lt. omega (arith, ends.behind lt);
}
  where
    go : (i : ℕ) → i < to → (i < from) ⊎ (from ≤ i) → get_or pages i 0 / 256 < chunk + 1
    go i lt (inl low) = omega (arith, is.before i low)
    go i lt (inr high) = omega (arith, ends.before i high lt)

quotients : (a b : ℕ) → a ≤ b → a / 256 ≤ b / 256
quotients a b le = omega arith

-- some page is in the chunk exactly where its pages end further on than they begin
pub some_page : (pages : List ℕ) (chunk from to : ℕ) → IsTrue (ascending nat_cmp pages) → IsAt pages chunk from → EndsAt pages chunk from to
    → list_any (λ page. page / 256 == chunk) pages ≡ nat_lt from to
some_page pages chunk from to up is ends = go (cases_lt from to)
  where
    test : ℕ → Bool
    test page = page / 256 == chunk

    apart : (i : ℕ) → to ≤ from → i < length pages → (i < from) ⊎ (from ≤ i) → get_or pages i 0 / 256 ≢ chunk
    apart i le lt (inl low) e = omega (arith, e, is.before i low)
    apart i le lt (inr high) e =
        let same : from ≡ to = omega (arith, ends.order) in
        let there : to < length pages = omega (arith, lt, high, same) in
        let later = in_order pages to i up (omega (arith, high, same)) lt in
        omega (arith, e, ends.behind there, quotients (get_or pages to 0) (get_or pages i 0) later)

    go : (from < to) ⊎ (to ≤ from) → list_any test pages ≡ nat_lt from to
    go (inl lt) =
        let there : from < length pages = omega (arith, lt, ends.within) in
        let here : get_or pages from 0 / 256 ≡ chunk = omega (arith, is.behind there, ends.before from (omega arith) lt) in
        list_any_at test pages from 0 there (eq-eqb (get_or pages from 0 / 256) chunk here) ∙ sym (lt-ltb from to lt)
    go (inr le) =
        list_any_none test pages (All-from_get_or (λ page. test page ≡ false) pages 0 (λ i lt. ne_eqb (get_or pages i 0 / 256) chunk (apart i le lt (cases_lt i from))))
        ∙ sym (le-ltb from to le)

-- the chunks so far, and one more
pub chunks_more : (dirty chunks new : List ℕ) (old count chunk : ℕ) (b : Bool) → b ≡ is_stale dirty old count chunk → new ≡ chunks ++ cond b (chunk ∷ []) []
    → chunks ≡ filter (is_stale dirty old count) (range_with_len 0 chunk) → new ≡ filter (is_stale dirty old count) (range_with_len 0 (chunk + 1))
chunks_more dirty chunks new old count chunk b is pushed so_far =
    pushed
    ∙ ap (λ (xs : List ℕ). xs ++ cond b (chunk ∷ []) []) so_far
    ∙ ap (λ (t : Bool). filter (is_stale dirty old count) (range_with_len 0 chunk) ++ cond t (chunk ∷ []) []) is
    ∙ sym (filter_more (is_stale dirty old count) chunk)

pub chunks_all : (dirty chunks : List ℕ) (old new count : ℕ) → count ≡ part_count 256 new → chunks ≡ filter (is_stale dirty old new) (range_with_len 0 count) → chunks ≡ stale dirty old new
unfolding stale
chunks_all dirty chunks old new count is held = held ∙ ap (λ (n : ℕ). filter (is_stale dirty old new) (range_with_len 0 n)) is

-- the chunks from the first fresh one on
pub fresh_is : (old new fresh chunk : ℕ) → ((old < new) × (fresh ≡ old / 256)) ⊎ ((new ≤ old) × (fresh ≡ part_count 256 old))
    → nat_le fresh chunk ≡ ((chunk == old / 256 && not (old % 256 == 0) && nat_lt old new) || nat_le (part_count 256 old) chunk)
fresh_is old new fresh chunk (inr (le, is)) = rw (is, le-ltb old new le) (none (chunk == old / 256) (not (old % 256 == 0)) (nat_le (part_count 256 old) chunk))
  where
    none : (a b d : Bool) → d ≡ ((a && b && false) || d)
    none true true d = refl
    none true false d = refl
    none false b d = refl
fresh_is old new fresh chunk (inl (lt, is)) = rw (is, lt-ltb old new lt) (grind arith)

or_same : (a b m c d : Bool) → a ≡ b → d ≡ (m || c) → (b || d) ≡ (a || m || c)
or_same a b m c d one two = rw (one, two) (go b)
  where
    go : (b : Bool) → (b || (m || c)) ≡ (b || m || c)
    go true = refl
    go false = refl

-- what is tested of a chunk
pub stale_is : (dirty : List ℕ) (old new fresh chunk from to : ℕ) → list_any (λ page. page / 256 == chunk) dirty ≡ nat_lt from to
    → nat_le fresh chunk ≡ ((chunk == old / 256 && not (old % 256 == 0) && nat_lt old new) || nat_le (part_count 256 old) chunk)
    → (nat_lt from to || nat_le fresh chunk) ≡ is_stale dirty old new chunk
stale_is dirty old new fresh chunk from to pages later =
    or_same (list_any (λ page. page / 256 == chunk) dirty) (nat_lt from to) (chunk == old / 256 && not (old % 256 == 0) && nat_lt old new) (nat_le (part_count 256 old) chunk) (nat_le fresh chunk) pages later
