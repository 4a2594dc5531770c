-- Places counted one after another.
use Rattle.std.proofs.Common.{◌≡◌, inl, inr, ℕ, zero, suc, ◌+◌, ◌^◌, ◌<◌, ◌≤◌, List, [], ◌∷◌, ◌++◌, length, take, get_or, set, Option, Some, None, IsSome, is_some, count_by, cond, eqb, refl, sym, ap, subst, ◌∙◌, arith, length-take}
use Rattle.std.proofs.lemmas.Bool.{cases_eq, eq-eqb, ne_eqb}
use Rattle.std.proofs.lemmas.List.{get_or-set_same, get_or-set_other, get_or_default, take_more}
use Rattle.page_delta.specs.Totals.{total}
use Rattle.page_delta.specs.Nodes.{node_at, count_in, node_with_count, once}
use Rattle.page_delta.specs.declared.node.Node.{Node}
use Rattle.page_delta.specs.declared.node.Node.TheVariants.{Branch, Leaf}
use Rattle.page_delta.proofs.Sums.{total-same, total-length, total-present, present}
use Rattle.page_delta.proofs.Sharing.{not-some, one, one-same, one-other}
use Rattle.page_delta.proofs.Changes.{Recounts, Raises}

total-append : {X : Type 0} (w : Option X → ℕ) (xs : List (Option X)) (o : Option X) → total w (xs ++ o ∷ []) ≡ total w xs + w o
total-append w [] o = omega arith
total-append w (x ∷ xs) o = let rest = total-append w xs o in omega arith

pub total-more : {X : Type 0} (w : Option X → ℕ) (xs : List (Option X)) (i : ℕ) → i < length xs → total w (take (i + 1) xs) ≡ total w (take i xs) + w (get_or xs i None)
total-more w xs i below = ap (λ ys. total w ys) (take_more xs i None below) ∙ total-append w (take i xs) (get_or xs i None)

pub total-take-le : {X : Type 0} (w : Option X → ℕ) (xs : List (Option X)) (i : ℕ) → ((o : Option X) → w o ≤ 1) → i ≤ length xs → total w (take i xs) ≤ i
total-take-le w xs i le below =
    let len = total-length w (take i xs) le in let has = length-take i xs in omega arith

pub once-le : (m : ℕ) (o : Option ℕ) → once m o ≤ 1
once-le m None = omega arith
once-le m (Some c) = elim (cases_eq c m) [ inl e ↦ let is = one-same c m (sym e) in omega arith | inr ne ↦ let is = one-other c m (λ e. ne (sym e)) in omega arith ]

pub live-below : (xs : List (Option Node)) (k : ℕ) → IsSome (node_at xs k) → k < length xs
live-below [] k live = absurd (not-some {X = Node} None refl live)
live-below (x ∷ xs) zero live = omega arith
live-below (x ∷ xs) (suc k) live = let rest = live-below xs k live in omega arith

pub count-recounted : (o : Option Node) (c : ℕ) → IsSome o → count_in (node_with_count o c) ≡ c
count-recounted None c live = absurd (not-some {X = Node} None refl live)
count-recounted (Some (Branch b l ks)) c live = refl
count-recounted (Some (Leaf b es)) c live = refl

pub recounted-again : (o : Option Node) (a b : ℕ) → node_with_count (node_with_count o a) b ≡ node_with_count o b
recounted-again None a b = refl
recounted-again (Some (Branch c l ks)) a b = refl
recounted-again (Some (Leaf c es)) a b = refl

pub recounted-same : (o : Option Node) → node_with_count o (count_in o) ≡ o
recounted-same None = refl
recounted-same (Some (Branch c l ks)) = refl
recounted-same (Some (Leaf c es)) = refl

pub recounted-live : (o : Option Node) (c : ℕ) → IsSome o → IsSome (node_with_count o c)
recounted-live None c live = live
recounted-live (Some (Branch b l ks)) c live = refl
recounted-live (Some (Leaf b es)) c live = refl

present-recounted : (o : Option Node) (c : ℕ) → present 1 (node_with_count o c) ≡ present 1 o
present-recounted None c = refl
present-recounted (Some (Branch b l ks)) c = refl
present-recounted (Some (Leaf b es)) c = refl

-- one node counted anew, among nodes that were
pub recounted-at : (xs ys : List (Option Node)) (now : ℕ → ℕ) (key c : ℕ) → Recounts xs ys now → IsSome (node_at ys key) → Recounts xs (set ys key (node_with_count (node_at ys key) c)) (λ m. cond (eqb m key) c (now m))
recounted-at xs ys now key c each live m = elim (cases_eq m key) [
  | inl e ↦
      ap (λ i. node_at (set ys key (node_with_count (node_at ys key) c)) i) e ∙ get_or-set_same ys key (node_with_count (node_at ys key) c) None (live-below ys key live)
      ∙ ap (λ o. node_with_count o c) (each key) ∙ recounted-again (node_at xs key) (now key) c ∙ ap (λ i. node_with_count (node_at xs i) c) (sym e) ∙ sym (rw (eq-eqb m key e) refl)
  | inr ne ↦ get_or-set_other ys key m (node_with_count (node_at ys key) c) None ne ∙ each m ∙ sym (rw (ne_eqb m key ne) refl)
]

pub len-recounted : (xs ys : List (Option Node)) (now : ℕ → ℕ) → Recounts xs ys now → count_by is_some ys ≡ count_by is_some xs
len-recounted xs ys now each =
    sym (total-present ys) ∙ total-same (present 1) refl xs ys (λ k. ap (present 1) (each k) ∙ present-recounted (node_at xs k) (now k)) ∙ total-present xs

-- the step of a loop that counts the children of a node
pub raise-step : (xs ys : List (Option Node)) (kids : List (Option ℕ)) (i child : ℕ) → Raises xs ys (λ m. total (once m) (take i kids)) → get_or kids i None ≡ Some child
    → i < length kids → IsSome (node_at xs child) → Raises xs (set ys child (node_with_count (node_at ys child) (count_in (node_at ys child) + 1))) (λ m. total (once m) (take (i + 1) kids))
raise-step xs ys kids i child each is below live m =
    let more = total-more (once m) kids i below in
    let mine : once m (get_or kids i None) ≡ one child m = ap (once m) is in
    let live_now : IsSome (node_at ys child) = subst (λ (o : Option Node). IsSome o) (sym (each child)) (recounted-live (node_at xs child) (count_in (node_at xs child) + total (once child) (take i kids)) live) in
    let count : count_in (node_at ys child) ≡ count_in (node_at xs child) + total (once child) (take i kids) = ap count_in (each child) ∙ count-recounted (node_at xs child) (count_in (node_at xs child) + total (once child) (take i kids)) live in
    recounted-at xs ys (λ m. count_in (node_at xs m) + total (once m) (take i kids)) child (count_in (node_at ys child) + 1) each live_now m
    ∙ ap (λ n. node_with_count (node_at xs m) n) (elim (cases_eq m child) [
      | inl e ↦
          let one_is = one-same child m e in
          let here : count_in (node_at xs child) + total (once child) (take i kids) ≡ count_in (node_at xs m) + total (once m) (take i kids) = ap (λ i'. count_in (node_at xs i') + total (once i') (take i kids)) (sym e) in
          let pick : cond (eqb m child) (count_in (node_at ys child) + 1) (count_in (node_at xs m) + total (once m) (take i kids)) ≡ count_in (node_at ys child) + 1 = rw (eq-eqb m child e) refl in
          omega arith
      | inr ne ↦
          let one_is = one-other child m ne in
          let pick : cond (eqb m child) (count_in (node_at ys child) + 1) (count_in (node_at xs m) + total (once m) (take i kids)) ≡ count_in (node_at xs m) + total (once m) (take i kids) = rw (ne_eqb m child ne) refl in
          omega arith
    ])

pub pass-step : (xs ys : List (Option Node)) (kids : List (Option ℕ)) (i : ℕ) → Raises xs ys (λ m. total (once m) (take i kids)) → get_or kids i None ≡ None → i < length kids → Raises xs ys (λ m. total (once m) (take (i + 1) kids))
pass-step xs ys kids i each is below m =
    let more = total-more (once m) kids i below in
    let mine : once m (get_or kids i None) ≡ 0 = ap (once m) is in
    each m ∙ ap (λ n. node_with_count (node_at xs m) n) (omega arith)

pub raise-room : (xs ys : List (Option Node)) (kids : List (Option ℕ)) (i child : ℕ) → Raises xs ys (λ m. total (once m) (take i kids)) → i < length kids
    → IsSome (node_at xs child) → (count_in (node_at xs child) + length kids < 2 ^ 64) → (IsSome (node_at ys child)) × (count_in (node_at ys child) + 1 < 2 ^ 64)
raise-room xs ys kids i child each below live room =
    let few = total-take-le (once child) kids i (once-le child) (omega arith) in
    let count : count_in (node_at ys child) ≡ count_in (node_at xs child) + total (once child) (take i kids) = ap count_in (each child) ∙ count-recounted (node_at xs child) (count_in (node_at xs child) + total (once child) (take i kids)) live in
    (subst (λ (o : Option Node). IsSome o) (sym (each child)) (recounted-live (node_at xs child) (count_in (node_at xs child) + total (once child) (take i kids)) live), omega arith)

-- what a loop reads at a place
pub item-is : {X : Type 0} (xs : List (Option X)) (i : ℕ) (r : Option X) → i < length xs → r ≡ get_or xs i r → get_or xs i None ≡ r
item-is xs i r below read = get_or_default xs i None r below ∙ sym read
