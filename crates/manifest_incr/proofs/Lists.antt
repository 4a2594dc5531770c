-- Lists of one value a number.
use Rattle.std.proofs.Common.{◌≡◌, ◌≢◌, ◌⊎◌, ℕ, zero, suc, ◌+◌, ◌<◌, ◌≤◌, Bool, true, false, cond, List, [], ◌∷◌, ◌++◌, length, map, get_or, set, refl, sym, ap, ◌∙◌, arith, inl, inr}
use Rattle.std.specs.List.{range_with_len, filter, list_any}
use Rattle.std.proofs.lemmas.List.Elements.{filter-append}
use Rattle.std.proofs.lemmas.Bool.{cases_eq, eq-eqb, ne_eqb}
use Rattle.page_spec.specs.Layers.{has_page}

-- the same value for each number
pub map_same : {X : Type 0} (f g : ℕ → X) (a n : ℕ) → ((i : ℕ) → a ≤ i → i < a + n → f i ≡ g i) → map f (range_with_len a n) ≡ map g (range_with_len a n)
map_same f g a zero same = refl
map_same {X = X} f g a (suc n) same =
    ap (λ (x : X). x ∷ map f (range_with_len (a + 1) n)) (same a (omega arith) (omega arith))
    ∙ ap (λ (t : List X). g a ∷ t) (map_same f g (a + 1) n (λ i le lt. same i (omega (arith, le)) (omega (arith, lt))))

-- another value for one number
pub set_map : {X : Type 0} (f g : ℕ → X) (a n c j : ℕ) (x : X) → c < n → a + c ≡ j → x ≡ g j → ((i : ℕ) → i ≢ j → f i ≡ g i) → set (map f (range_with_len a n)) c x ≡ map g (range_with_len a n)
set_map f g a zero c j x lt at is others = absurd (omega (arith, lt))
set_map {X = X} f g a (suc n) zero j x lt at is others =
    let here : j ≡ a = omega (arith, at) in
    ap (λ (y : X). y ∷ map f (range_with_len (a + 1) n)) (is ∙ ap g here)
    ∙ ap (λ (t : List X). g a ∷ t) (map_same f g (a + 1) n (λ i le below. others i (λ e. omega (arith, e, le, at))))
set_map {X = X} f g a (suc n) (suc c) j x lt at is others =
    ap (λ (y : X). y ∷ set (map f (range_with_len (a + 1) n)) c x) (others a (λ e. omega (arith, e, at)))
    ∙ ap (λ (t : List X). g a ∷ t) (set_map f g (a + 1) n c j x (omega (arith, lt)) (omega (arith, at)) is others)

-- one number more
pub range_more : (a n : ℕ) → range_with_len a (n + 1) ≡ range_with_len a n ++ (a + n) ∷ []
range_more a zero = ap (λ (k : ℕ). k ∷ []) (omega arith)
range_more a (suc n) =
    let more : suc n + 1 ≡ suc (n + 1) = omega arith in
    let last : a + 1 + n ≡ a + suc n = omega arith in
    ap (range_with_len a) more ∙ ap (λ (t : List ℕ). a ∷ t) (range_more (a + 1) n ∙ ap (λ (k : ℕ). range_with_len (a + 1) n ++ k ∷ []) last)

pub filter_more : (p : ℕ → Bool) (n : ℕ) → filter p (range_with_len 0 (n + 1)) ≡ filter p (range_with_len 0 n) ++ cond (p n) (n ∷ []) []
filter_more p n =
    let e : 0 + n ≡ n = omega arith in
    ap (filter p) (range_more 0 n ∙ ap (λ (k : ℕ). range_with_len 0 n ++ k ∷ []) e) ∙ filter-append p (range_with_len 0 n) (n ∷ [])

-- a number that a test finds is in the filtered range
pub filtered : (p : ℕ → Bool) (a n i : ℕ) → a ≤ i → i < a + n → has_page i (filter p (range_with_len a n)) ≡ false → p i ≡ false
filtered p a zero i le lt none = absurd (omega (arith, le, lt))
filtered p a (suc n) i le lt none = go (p a) refl (cases_eq a i) (filtered p (a + 1) n i)
  where
    rest : List ℕ
    rest = filter p (range_with_len (a + 1) n)

    drops : (b : Bool) → a ≢ i → has_page i (cond b (a ∷ rest) rest) ≡ has_page i rest
    drops true ne = rw (ne_eqb a i ne) refl
    drops false ne = refl

    here : has_page i (a ∷ rest) ≡ true → p a ≡ true → has_page i (cond (p a) (a ∷ rest) rest) ≡ true
    here found is = rw is found

    go : (b : Bool) → p a ≡ b → (a ≡ i) ⊎ (a ≢ i) → (a + 1 ≤ i → i < a + 1 + n → has_page i rest ≡ false → p i ≡ false) → p i ≡ false
    go false is (inl e) later = ap p (sym e) ∙ is
    go true is (inl e) later =
        let found : has_page i (a ∷ rest) ≡ true = rw (eq-eqb a i e) refl in
        let there = here found is in
        absurd cc
    go b is (inr ne) later = later (omega (arith, le, ne)) (omega (arith, lt)) (sym (drops (p a) ne) ∙ none)
