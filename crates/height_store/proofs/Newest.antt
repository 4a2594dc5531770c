-- The last of some elements, and the newest height.
use Rattle.std.proofs.Common.{◌≡◌, ◌<◌, ◌≤◌, ◌-◌, ℕ, suc, List, [], ◌∷◌, length, map, Option, Some, None, refl, ap, subst, arith, ◌∙◌}
use Rattle.std.specs.List.{last_or, slice_get, AllByRecursion}
use Rattle.std.specs.List.Sorted.{IsStrictlyIncreasing}
use Rattle.height_store.specs.Laws.{last_above, tail_ascends}
use Rattle.height_store.specs.Store.{StoredHeight, heights_in}

pub last_is : {X Y : Type 0} (f : X → Y) (o : Option Y) (xs : List X) (x : X) → Some x ≡ slice_get xs (length xs - 1) → Some (f x) ≡ last_or o (map f xs)
last_is f o [] x e = absurd (cc e)
last_is f o (y ∷ []) x e = let one : x ≡ y = cc e in ap (λ z. Some (f z)) one
last_is f o (y ∷ z ∷ zs) x e =
    let next : length (y ∷ z ∷ zs) - 1 ≡ suc (length (z ∷ zs) - 1) = omega arith in
    last_is f (Some (f y)) (z ∷ zs) x (subst (λ (i : ℕ). Some x ≡ slice_get (y ∷ z ∷ zs) i) next e)

pub last_at : {X : Type 0} (xs : List X) → slice_get xs (length xs - 1) ≡ last_or None xs
last_at [] = refl
last_at (x ∷ []) = refl
last_at (x ∷ y ∷ ys) =
    let next : length (x ∷ y ∷ ys) - 1 ≡ suc (length (y ∷ ys) - 1) = omega arith in
    ap (slice_get (x ∷ y ∷ ys)) next ∙ last_at (y ∷ ys)

some_last : (h : StoredHeight) (hs : List StoredHeight) → None ≡ last_or (Some h.mark.height) (heights_in hs) → ⊥
some_last h [] e = absurd (cc e)
some_last h (i ∷ hs) e = some_last i hs e

-- what is above the newest height is above all
pub all_below : (hs : List StoredHeight) (last height : ℕ) → IsStrictlyIncreasing (heights_in hs) → Some last ≡ last_or None (heights_in hs) → last < height → AllByRecursion (λ h. h.mark.height < height) hs
all_below [] last height up e low = tt
all_below (h ∷ []) last height up e low = let one : last ≡ h.mark.height = cc e in (omega (arith, one, low), tt)
all_below (h ∷ i ∷ hs) last height up e low =
    let above : h.mark.height ≤ last = last_above h.mark.height (heights_in (i ∷ hs)) last up e in
    (omega (arith, above, low), all_below (i ∷ hs) last height (tail_ascends h.mark.height (heights_in (i ∷ hs)) up) e low)

pub none_below : (hs : List StoredHeight) (height : ℕ) → None ≡ last_or None (heights_in hs) → AllByRecursion (λ h. h.mark.height < height) hs
none_below [] height e = tt
none_below (h ∷ hs) height e = absurd (some_last h hs e)
