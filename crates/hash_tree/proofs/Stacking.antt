-- The last of some branches taken under forks.
use Rattle.std.proofs.Common.{◌≡◌, ℕ, ◌-◌, ◌/◌, ◌≤◌, List, [], ◌∷◌, ◌++◌, length, map, take, drop, refl, sym, ap, ◌∙◌, arith, append_assoc, length-take, length-drop}
use Rattle.std.proofs.Common.{Result, Ok, Err, IfOk, length-append}
use Rattle.std.proofs.lemmas.List.{take-append-drop, length-map, append-nil, take-map, drop-map, map-append}
use Rattle.tree_spec.specs.Tree.{Tree, empty, fork, half, forks}
use Rattle.tree_spec.proofs.Forks.{forks_halves}
use Rattle.hash_tree.specs.declared.tree.HashTree.{HashTree}
use Rattle.hash_tree.specs.View.{tree_view}
use Rattle.hash_tree.specs.Stack.{Pushes, Pushed, Takes}

forks_two : (xs : List Tree) (h : ℕ) → 2 ≤ length xs → half xs ≡ h → forks xs ≡ fork (forks (take h xs)) (forks (drop h xs))
forks_two [] h p q = absurd (omega arith)
forks_two (t ∷ []) h p q = absurd (omega arith)
forks_two (t ∷ u ∷ ts) h p q = forks_halves t u ts ∙ ap (λ (n : ℕ). fork (forks (take n (t ∷ u ∷ ts))) (forks (drop n (t ∷ u ∷ ts)))) q

last_same : {X : Type 0} (xs ys : List X) (a b : X) → xs ++ a ∷ [] ≡ ys ++ b ∷ [] → (xs ≡ ys) × (a ≡ b)
last_same [] [] a b h = (refl, cc)
last_same [] (y ∷ ys) a b h = let n = ap length h in absurd (omega (arith, length-append ys (b ∷ [])))
last_same (x ∷ xs) [] a b h = let n = ap length h in absurd (omega (arith, length-append xs (a ∷ [])))
last_same {X} (x ∷ xs) (y ∷ ys) a b h =
    let tails : xs ++ a ∷ [] ≡ ys ++ b ∷ [] = cc in
    let first : x ≡ y = cc in
    let same = last_same xs ys a b tails in
    ((λ i. first i ∷ same.0 i), same.1)

pub ok_then : {X E : Type 0} (r : Result X E) (P Q : X → Type 0) → IfOk r P → ((x : X) → P x → Q x) → IfOk r Q
ok_then (Ok x) P Q p f = f x p
ok_then (Err e) P Q p f = tt

pub takes_none : (old : List HashTree) (tree : HashTree) (count : ℕ) → count ≡ 0 → tree_view tree ≡ empty → Takes old old count tree
unfolding forks
takes_none old tree count none e before [] is len = (is ∙ append-nil before, e)
takes_none old tree count none e before (x ∷ last) is len = absurd (omega arith)

pub takes_one : (old new : List HashTree) (tree : HashTree) (count : ℕ) → count ≡ 1 → old ≡ new ++ tree ∷ [] → Takes old new count tree
unfolding forks
takes_one old new tree count one e before [] is len = absurd (omega arith)
takes_one old new tree count one e before (x ∷ y ∷ last) is len = absurd (omega arith)
takes_one old new tree count one e before (x ∷ []) is len =
    let same : new ++ tree ∷ [] ≡ before ++ x ∷ [] = sym e ∙ is in
    let parts = last_same new before tree x same in
    (parts.0, ap tree_view parts.1)

pub takes_halves : (old middle new : List HashTree) (left right tree : HashTree) (count : ℕ) → 2 ≤ count
    → Takes old middle (count / 2) right → Takes middle new (count - count / 2) left
    → tree_view tree ≡ fork (tree_view left) (tree_view right) → Takes old new count tree
takes_halves old middle new left right tree count two t u e before last is len =
    let h : ℕ = count - count / 2 in
    let rights = t (before ++ take h last) (drop h last)
    (is ∙ ap (λ (xs : List HashTree). before ++ xs) (sym (take-append-drop h last)) ∙ sym (append_assoc before (take h last) (drop h last)))
    (omega (arith, length-drop h last)) in
    let lefts = u before (take h last) rights.0 (omega (arith, length-take h last)) in
    let all = forks_two (map tree_view last) h (omega (arith, length-map last tree_view)) (omega (arith, length-map last tree_view)) in (
      lefts.0,
      e ∙ ap (λ (x : Tree). fork x (tree_view right)) lefts.1 ∙ ap (λ (x : Tree). fork (forks (map tree_view (take h last))) x) rights.1
          ∙ ap (λ (xs : List Tree). fork (forks xs) (forks (map tree_view (drop h last)))) (sym (take-map tree_view h last))
          ∙ ap (λ (xs : List Tree). fork (forks (take h (map tree_view last))) (forks xs)) (sym (drop-map tree_view h last))
          ∙ sym all,
    )

pub takes_fewer : (old new : List HashTree) (count : ℕ) (tree : HashTree) → count ≤ length old → Takes old new count tree → length new ≡ length old - count
takes_fewer old new count tree le t =
    let n : ℕ = length old - count in
    let parts = t (take n old) (drop n old) (sym (take-append-drop n old)) (omega (arith, length-drop n old)) in
    ap length parts.0 ∙ omega (arith, length-take n old)

pub takes_pushed : (old middle new : List HashTree) (ts : List Tree) (count : ℕ) (tree : HashTree) → Pushes old middle ts → count ≡ length middle - length old
    → Takes middle new count tree → (new ≡ old) × (tree_view tree ≡ forks ts)
takes_pushed old middle new ts count tree p is t =
    let n = ap length p.new_is in
    let taken = t old p.added p.new_is (omega (arith, n, is, length-append old p.added)) in
    (taken.0, taken.1 ∙ ap forks p.views)

pub pushes_then : (a b d : List HashTree) (ts us : List Tree) → Pushes a b ts → Pushes b d us → Pushes a d (ts ++ us)
pushes_then a b d ts us p q = record {
  added = p.added ++ q.added;
  new_is = q.new_is ∙ ap (λ (xs : List HashTree). xs ++ q.added) p.new_is ∙ append_assoc a p.added q.added;
  views = map-append tree_view p.added q.added ∙ ap (λ (xs : List Tree). xs ++ map tree_view q.added) p.views ∙ ap (λ (xs : List Tree). ts ++ xs) q.views;
}

pub pushes_one : (a b : List HashTree) (x : HashTree) (t : Tree) → b ≡ a ++ x ∷ [] → tree_view x ≡ t → Pushes a b (t ∷ [])
pushes_one a b x t is e = record { added = x ∷ []; new_is = is; views = ap (λ (u : Tree). u ∷ []) e }

pub pushed_one : (old new next : List HashTree) (all left : List Tree) (t : Tree) (x : HashTree)
    → Pushed old new all (t ∷ left) → next ≡ new ++ x ∷ [] → tree_view x ≡ t → Pushed old next all left
pushed_one old new next all left t x p is e = record {
  added = p.added ++ x ∷ [];
  new_is = is ∙ ap (λ xs. xs ++ x ∷ []) p.new_is ∙ append_assoc old p.added (x ∷ []);
  views = ap (λ ts. ts ++ left) (map-append tree_view p.added (x ∷ [])) ∙ append_assoc (map tree_view p.added) (tree_view x ∷ []) left
      ∙ ap (λ (u : Tree). map tree_view p.added ++ u ∷ left) e ∙ p.views;
}

pub pushed_all : (old new : List HashTree) (all : List Tree) → Pushed old new all [] → Pushes old new all
pushed_all old new all p = record { added = p.added; new_is = p.new_is; views = sym (append-nil (map tree_view p.added)) ∙ p.views }

pub enough_pushed : (old new : List HashTree) (ts : List Tree) → Pushes old new ts → length ts ≤ length new
enough_pushed old new ts p =
    let e = ap length p.views in
    let f = ap length p.new_is in
    omega (arith, length-map p.added tree_view, length-append old p.added)
