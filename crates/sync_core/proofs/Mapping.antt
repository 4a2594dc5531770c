-- Lists seen through a view: a loop that changes each element, and tests.
use Rattle.std.proofs.Common.{◌≡◌, ℕ, zero, suc, ◌+◌, ◌<◌, List, [], ◌∷◌, ◌++◌, length, map, take, drop, get_or, slice_set, filter, cond, ◌||◌, Bool, true, false, refl, sym, ap, ◌∙◌, arith}
use Rattle.std.specs.List.{list_any}

-- the first i elements are changed, and the others are as before
pub record Changed {X Y : Type 0} (w : X → Y) (f : Y → Y) (i : ℕ) (now before : List X) : Type 0 where
  pub is : map w now ≡ map f (take i (map w before)) ++ drop i (map w before)

abbrev Same : {Y : Type 0} → (Y → Y) → ℕ → List Y → List Y → Type 0
Same f i ys bs = ys ≡ map f (take i bs) ++ drop i bs

head_of : {Y : Type 0} (x y : Y) (xs ys : List Y) → x ∷ xs ≡ y ∷ ys → x ≡ y
head_of x y xs ys e = cc

tail_of : {Y : Type 0} (x y : Y) (xs ys : List Y) → x ∷ xs ≡ y ∷ ys → xs ≡ ys
tail_of x y xs ys e = cc

cons_nil : {Y : Type 0} (x : Y) (xs : List Y) → x ∷ xs ≡ [] → ⊥
cons_nil x xs e = cc

set_step : {X Y : Type 0} (w : X → Y) (f : Y → Y) (i : ℕ) (now : List X) (bs : List Y) (x d : X) → i < length now → Same f i (map w now) bs → w x ≡ f (w (get_or now i d)) → Same f (suc i) (map w (slice_set now i x)) bs
set_step w f i [] bs x d below h e = absurd (omega (arith, below))
set_step w f zero (n ∷ ns) [] x d below h e = absurd (cons_nil (w n) (map w ns) h)
set_step {Y = Y} w f zero (n ∷ ns) (b ∷ bs) x d below h e =
    ap (λ (y : Y). y ∷ map w ns) (e ∙ ap f (head_of (w n) b (map w ns) bs h)) ∙ ap (λ (ys : List Y). f b ∷ ys) (tail_of (w n) b (map w ns) bs h)
set_step w f (suc i) (n ∷ ns) [] x d below h e = absurd (cons_nil (w n) (map w ns) h)
set_step {Y = Y} w f (suc i) (n ∷ ns) (b ∷ bs) x d below h e =
    ap (λ (y : Y). y ∷ map w (slice_set ns i x)) (head_of (w n) (f b) (map w ns) (map f (take i bs) ++ drop i bs) h)
    ∙ ap (λ (ys : List Y). f b ∷ ys) (set_step w f i ns bs x d (omega (arith, below)) (tail_of (w n) (f b) (map w ns) (map f (take i bs) ++ drop i bs) h) e)

pub changed_more : {X Y : Type 0} (w : X → Y) (f : Y → Y) (i j : ℕ) (now before : List X) (x d : X) → j ≡ i + 1 → i < length now → Changed w f i now before → w x ≡ f (w (get_or now i d)) → Changed w f j (slice_set now i x) before
changed_more w f i j now before x d k below h e =
    let s : j ≡ suc i = omega (arith, k) in
    record { is = set_step w f i now (map w before) x d below h.is e ∙ ap (λ n. map f (take n (map w before)) ++ drop n (map w before)) (sym s) }

-- ---- tests through a view

pub any_view : {X Y : Type 0} (w : X → Y) (p : Y → Bool) (xs : List X) → list_any p (map w xs) ≡ list_any (λ x. p (w x)) xs
any_view w p [] = refl
any_view w p (x ∷ xs) = ap (λ b. p (w x) || b) (any_view w p xs)

pub filter_view : {X Y : Type 0} (w : X → Y) (p : Y → Bool) (xs : List X) → filter p (map w xs) ≡ map w (filter (λ x. p (w x)) xs)
filter_view w p [] = refl
filter_view {X} {Y} w p (x ∷ xs) = by (p (w x)) (filter_view w p xs)
  where
    by : (b : Bool) → filter p (map w xs) ≡ map w (filter (λ x. p (w x)) xs) → cond b (w x ∷ filter p (map w xs)) (filter p (map w xs)) ≡ map w (cond b (x ∷ filter (λ x. p (w x)) xs) (filter (λ x. p (w x)) xs))
    by true ih = ap (λ (ys : List Y). w x ∷ ys) ih
    by false ih = ih
