-- Items by their numbers.
use Rattle.std.proofs.Common.{◌≡◌, ℕ, ◌==◌, ◌||◌, not, Bool, false, List, [], ◌∷◌, map, filter, refl, sym, ap, ◌∙◌}
use Rattle.std.specs.List.{list_any}
use Rattle.std.proofs.lemmas.List.Elements.{filter_agree}
use Rattle.sync_spec.specs.Messages.{Item}
use Rattle.sync_spec.specs.Core.{same_item}
use Rattle.sync_core.specs.declared.fresh.Kind.{Kind}
use Rattle.sync_core.specs.declared.fresh.Kind.TheVariants.{Pieces, Chunks}
use Rattle.sync_core.specs.Fresh.{item_at}
use Rattle.sync_core.proofs.Mapping.{any_view, filter_view}
use Rattle.sync_core.proofs.Numbers.{filter_absent}

same_number : (k : Kind) (j n : ℕ) → same_item (item_at k j) (item_at k n) ≡ (j == n)
same_number Pieces j n = refl
same_number Chunks j n = refl

any_alike : {X : Type 0} (p q : X → Bool) → ((x : X) → p x ≡ q x) → (xs : List X) → list_any p xs ≡ list_any q xs
any_alike p q h [] = refl
any_alike p q h (x ∷ xs) = ap (λ b. p x || b) (any_alike p q h xs) ∙ ap (λ b. b || list_any q xs) (h x)

any_never : {X : Type 0} (p : X → Bool) → ((x : X) → p x ≡ false) → (xs : List X) → list_any p xs ≡ false
any_never p h [] = refl
any_never p h (x ∷ xs) = ap (λ b. b || list_any p xs) (h x) ∙ any_never p h xs

-- an item of this kind is there where its number is
pub has_number : (k : Kind) (n : ℕ) (item : Item) (xs : List ℕ) → item ≡ item_at k n → list_any (λ i. same_item i item) (map (item_at k) xs) ≡ list_any (λ j. j == n) xs
has_number k n item xs e =
    any_view (item_at k) (λ i. same_item i item) xs
    ∙ any_alike (λ j. same_item (item_at k j) item) (λ j. j == n) (λ j. ap (λ (i : Item). same_item (item_at k j) i) e ∙ same_number k j n) xs

-- an item of no such kind isn't
pub has_no_number : (k : Kind) (item : Item) (xs : List ℕ) → ((j : ℕ) → same_item (item_at k j) item ≡ false) → list_any (λ i. same_item i item) (map (item_at k) xs) ≡ false
has_no_number k item xs h = any_view (item_at k) (λ i. same_item i item) xs ∙ any_never (λ j. same_item (item_at k j) item) h xs

pub items_moved : (k l : Kind) (xs ys : List ℕ) → l ≡ k → ys ≡ xs → map (item_at l) ys ≡ map (item_at k) xs
items_moved k l xs ys e f = ap (λ (x : Kind). map (item_at x) ys) e ∙ ap (λ (zs : List ℕ). map (item_at k) zs) f

pub number_taken : (k : Kind) (n : ℕ) (item : Item) (xs : List ℕ) → item ≡ item_at k n → map (item_at k) (filter (λ j. not (j == n)) xs) ≡ filter (λ i. not (same_item i item)) (map (item_at k) xs)
number_taken k n item xs e =
    ap (λ (ys : List ℕ). map (item_at k) ys) (sym (filter_agree (λ j. not (same_item (item_at k j) item)) (λ j. not (j == n)) (λ j. ap not (ap (λ (i : Item). same_item (item_at k j) i) e ∙ same_number k j n)) xs))
    ∙ sym (filter_view (item_at k) (λ i. not (same_item i item)) xs)

pub none_taken : (k : Kind) (item : Item) (xs : List ℕ) → ((j : ℕ) → same_item (item_at k j) item ≡ false) → map (item_at k) xs ≡ filter (λ i. not (same_item i item)) (map (item_at k) xs)
none_taken k item xs h = sym (filter_absent (λ i. same_item i item) (map (item_at k) xs) (has_no_number k item xs h))
