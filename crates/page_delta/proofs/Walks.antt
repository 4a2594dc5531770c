-- The map of a tree, place by place.
use Rattle.std.proofs.Common.{◌≡◌, inl, inr, ℕ, zero, suc, ◌+◌, ◌-◌, ◌*◌, ◌/◌, ◌%◌, ◌^◌, ◌<◌, ◌≤◌, List, [], ◌∷◌, ◌++◌, length, Option, Some, None, Bool, cond, nat_lt, true, false, refl, sym, ap, ◌∙◌, arith}
use Rattle.std.proofs.lemmas.Bool.{cases_Bool, ltb-true, lt-ltb}
use Rattle.page_delta.specs.Delta.{Pages, pages_after, if_after}
use Rattle.page_delta.specs.Nodes.{node_at, child_in, entry_in, look, entry_and_rest, pairs_from, pages_below, leaf_part, part}
use Rattle.page_delta.specs.declared.entry.Entry.{Entry}
use Rattle.page_delta.specs.declared.node.Node.{Node}
use Rattle.page_delta.proofs.Lookups.{pairs-within, length-most}

consed-append : (p : ℕ) (o : Option Entry) (xs ys : Pages) → entry_and_rest p o (xs ++ ys) ≡ entry_and_rest p o xs ++ ys
consed-append p None xs ys = refl
consed-append p (Some e) xs ys = refl

pairs-append : (n m s : ℕ) (f : ℕ → Option Entry) → pairs_from (n + m) s f ≡ pairs_from n s f ++ pairs_from m (s + n) f
unfolding pairs_from
pairs-append zero m s f =
    let a : zero + m ≡ m = omega arith in let b : s ≡ s + zero = omega arith in
    ap (λ i. pairs_from i s f) a ∙ ap (λ i. pairs_from m i f) b
pairs-append (suc n) m s f =
    let a : suc n + m ≡ suc (n + m) = omega arith in let b : s + 1 + n ≡ s + suc n = omega arith in
    ap (λ i. pairs_from i s f) a ∙ ap (λ (r : Pages). entry_and_rest s (f s) r)
    (pairs-append n m (s + 1) f ∙ ap (λ i. pairs_from n (s + 1) f ++ pairs_from m i f) b)
    ∙ consed-append s (f s) (pairs_from n (s + 1) f) (pairs_from m (s + suc n) f)

one-pair : (s : ℕ) (f : ℕ → Option Entry) → pairs_from 1 s f ≡ entry_and_rest s (f s) []
unfolding pairs_from
one-pair s f = refl

pub pairs-none : (n s : ℕ) (f : ℕ → Option Entry) → ((k : ℕ) → f k ≡ None) → pairs_from n s f ≡ []
unfolding pairs_from
pairs-none zero s f none = refl
pairs-none (suc n) s f none = ap (λ (o : Option Entry). entry_and_rest s o (pairs_from n (s + 1) f)) (none s) ∙ pairs-none n (s + 1) f none

after-append : (b : ℕ) (xs ys : Pages) → pages_after b (xs ++ ys) ≡ pages_after b xs ++ pages_after b ys
after-append b [] ys = refl
after-append b (x ∷ xs) ys = elim (cases_Bool (nat_lt b x.1.stamp)) [
  | inl h ↦ rw h (ap (λ (r : List ℕ). x.0 ∷ r) (after-append b xs ys))
  | inr h ↦ rw h (after-append b xs ys)
]

nil-list : (xs : List ℕ) → xs ++ [] ≡ xs
nil-list [] = refl
nil-list (x ∷ xs) = ap (λ (r : List ℕ). x ∷ r) (nil-list xs)

joined : (xs ys zs : List ℕ) → (xs ++ ys) ++ zs ≡ xs ++ (ys ++ zs)
joined [] ys zs = refl
joined (x ∷ xs) ys zs = ap (λ (r : List ℕ). x ∷ r) (joined xs ys zs)

-- no place yet
pub leaf-start : (node : Option Node) (p : ℕ) → leaf_part node p 0 ≡ []
unfolding leaf_part pairs_from
leaf-start node p = refl

pub part-start : (level : ℕ) (nodes : List (Option Node)) (key : Option ℕ) (p : ℕ) → part level nodes key p 0 ≡ []
unfolding part pairs_from
part-start level nodes key p = let z : 0 * 32 ^ level ≡ 0 = omega arith in
    ap (λ i. pairs_from i (p * 32 ^ suc level) (look level nodes key)) z

-- one place more of a leaf
leaf-more : (node : Option Node) (p d : ℕ) → d < 32
    → leaf_part node p (d + 1) ≡ leaf_part node p d ++ entry_and_rest (p * 32 + d) (entry_in node d) []
unfolding leaf_part
leaf-more node p d low =
    let digit : (p * 32 + d) % 32 ≡ d = omega arith in
    pairs-append d 1 (p * 32) (λ page. entry_in node (page % 32))
    ∙ ap (λ (r : Pages). pairs_from d (p * 32) (λ page. entry_in node (page % 32)) ++ r)
    (one-pair (p * 32 + d) (λ page. entry_in node (page % 32)) ∙ ap (λ i. entry_and_rest (p * 32 + d) (entry_in node i) []) digit)

leaf-after : (b : ℕ) (node : Option Node) (p d : ℕ) (o : Option Entry) → d < 32 → entry_in node d ≡ o
    → pages_after b (leaf_part node p (d + 1)) ≡ pages_after b (leaf_part node p d) ++ pages_after b (entry_and_rest (p * 32 + d) o [])
leaf-after b node p d o low is =
    ap (λ (r : Pages). pages_after b r) (leaf-more node p d low
    ∙ ap (λ (o : Option Entry). leaf_part node p d ++ entry_and_rest (p * 32 + d) o []) is)
    ∙ after-append b (leaf_part node p d) (entry_and_rest (p * 32 + d) o [])

pub leaf-none : (b : ℕ) (node : Option Node) (p d : ℕ) → d < 32 → entry_in node d ≡ None
    → pages_after b (leaf_part node p (d + 1)) ≡ pages_after b (leaf_part node p d)
leaf-none b node p d low is = leaf-after b node p d None low is ∙ nil-list (pages_after b (leaf_part node p d))

pub leaf-old : (b : ℕ) (node : Option Node) (p d : ℕ) (e : Entry) → d < 32 → entry_in node d ≡ Some e → e.stamp ≤ b
    → pages_after b (leaf_part node p (d + 1)) ≡ pages_after b (leaf_part node p d)
leaf-old b node p d e low is old =
    leaf-after b node p d (Some e) low is ∙ ap (λ (r : List ℕ). pages_after b (leaf_part node p d) ++ r) (test (nat_lt b e.stamp) refl)
    ∙ nil-list (pages_after b (leaf_part node p d))
  where
    test : (t : Bool) → nat_lt b e.stamp ≡ t → cond t ((p * 32 + d) ∷ []) [] ≡ []
    test true h = absurd (let low = ltb-true b e.stamp h in omega arith)
    test false h = refl

pub leaf-new : (b : ℕ) (node : Option Node) (p d : ℕ) (e : Entry) → d < 32 → entry_in node d ≡ Some e → b < e.stamp
    → pages_after b (leaf_part node p (d + 1)) ≡ pages_after b (leaf_part node p d) ++ (p * 32 + d) ∷ []
leaf-new b node p d e low is new =
    leaf-after b node p d (Some e) low is ∙ ap (λ (r : List ℕ). pages_after b (leaf_part node p d) ++ r)
    (ap (λ (t : Bool). cond t ((p * 32 + d) ∷ []) []) (lt-ltb b e.stamp new))

pub leaf-whole : (nodes : List (Option Node)) (key p d : ℕ) → part 0 nodes (Some key) p d ≡ leaf_part (node_at nodes key) p d
unfolding part leaf_part
leaf-whole nodes key p d = let n : d * 1 ≡ d = omega arith in ap (λ i. pairs_from i (p * 32) (look 0 nodes (Some key))) n

-- a place that leads nowhere
pub part-none : (level : ℕ) (nodes : List (Option Node)) (p d : ℕ) → part level nodes None p d ≡ []
unfolding part
part-none level nodes p d = pairs-none (d * 32 ^ level) (p * 32 ^ suc level) (look level nodes None) (λ k. refl)

-- how numbers of pages divide, at each level
record Divides (level p d : ℕ) : Type 0 where
  pub more : (d + 1) * 32 ^ suc level ≡ d * 32 ^ suc level + 32 ^ suc level
  pub wide : 32 ^ suc level ≡ 32 * 32 ^ level
  pub start : p * 32 ^ suc (suc level) + d * 32 ^ suc level ≡ (p * 32 + d) * 32 ^ suc level
  pub digit : (k : ℕ) → (p * 32 + d) * 32 ^ suc level ≤ k → k < (p * 32 + d) * 32 ^ suc level + 32 * 32 ^ level
      → (k / 32 ^ suc level) % 32 ≡ d

divides : (level p d : ℕ) → level < 3 → d < 32 → Divides level p d
divides zero p d high low = record { more = omega arith; wide = omega arith; start = omega arith; digit = λ k from to. omega arith }
divides (suc zero) p d high low = record { more = omega arith; wide = omega arith; start = omega arith; digit = λ k from to. omega arith }
divides (suc (suc zero)) p d high low = record {
  more = omega arith;
  wide = omega arith;
  start = omega arith;
  digit = λ k from to. omega
      arith;
}
divides (suc (suc (suc level))) p d high low = absurd (omega arith)

-- one place more of a branch
part-more : (level : ℕ) (nodes : List (Option Node)) (key p d : ℕ) → level < 3 → d < 32
    → part (suc level) nodes (Some key) p (d + 1) ≡ part (suc level) nodes (Some key) p d ++ part level nodes
    (child_in (node_at nodes key) d) (p * 32 + d) 32
unfolding part
part-more level nodes key p d high low =
    let n = divides level p d high low in
    let f = look (suc level) nodes (Some key) in
    ap (λ i. pairs_from i (p * 32 ^ suc (suc level)) f) n.more
    ∙ pairs-append (d * 32 ^ suc level) (32 ^ suc level) (p * 32 ^ suc (suc level)) f
    ∙ ap (λ (r : Pages). pairs_from (d * 32 ^ suc level) (p * 32 ^ suc (suc level)) f ++ r)
    (ap (λ i. pairs_from i (p * 32 ^ suc (suc level) + d * 32 ^ suc level) f) n.wide
    ∙ ap (λ i. pairs_from (32 * 32 ^ level) i f) n.start
    ∙ pairs-within (32 * 32 ^ level) ((p * 32 + d) * 32 ^ suc level) f (look level nodes (child_in (node_at nodes key) d))
    (λ k from to. ap (λ i. look level nodes (child_in (node_at nodes key) i) k) (n.digit k from to)))

pub part-after : (b level : ℕ) (nodes : List (Option Node)) (key p d : ℕ) → 0 < level → level ≤ 3 → d < 32
    → pages_after b (part level nodes (Some key) p (d + 1)) ≡ pages_after b (part level nodes (Some key) p d) ++ pages_after b
    (part (level - 1) nodes (child_in (node_at nodes key) d) (p * 32 + d) 32)
part-after b zero nodes key p d above high low = absurd (omega arith)
part-after b (suc level) nodes key p d above high low =
    ap (λ (r : Pages). pages_after b r) (part-more level nodes key p d (omega arith) low)
    ∙ after-append b (part (suc level) nodes (Some key) p d) (part level nodes (child_in (node_at nodes key) d) (p * 32 + d) 32)
    ∙ ap (λ l. pages_after b (part (suc level) nodes (Some key) p d) ++ pages_after b
    (part l nodes (child_in (node_at nodes key) d) (p * 32 + d) 32)) (let e : level ≡ suc level - 1 = omega arith in e)

pub part-pass : (b level : ℕ) (nodes : List (Option Node)) (key p d : ℕ) → 0 < level → level ≤ 3 → d < 32
    → child_in (node_at nodes key) d ≡ None
    → pages_after b (part level nodes (Some key) p (d + 1)) ≡ pages_after b (part level nodes (Some key) p d)
part-pass b level nodes key p d above high low is =
    part-after b level nodes key p d above high low
    ∙ ap (λ (o : Option ℕ). pages_after b (part level nodes (Some key) p d) ++ pages_after b (part (level - 1) nodes o (p * 32 + d) 32)) is
    ∙ ap (λ (r : Pages). pages_after b (part level nodes (Some key) p d) ++ pages_after b r) (part-none (level - 1) nodes (p * 32 + d) 32)
    ∙ nil-list (pages_after b (part level nodes (Some key) p d))

-- all of a tree
pub part-whole : (nodes : List (Option Node)) (root : ℕ) → part 3 nodes (Some root) 0 32 ≡ pages_below nodes root
unfolding part pages_below
part-whole nodes root = refl

-- what was found, and what is found at a place
pub found-more : (old now then xs more all : List ℕ) → now ≡ old ++ xs → then ≡ now ++ more → all ≡ xs ++ more → then ≡ old ++ all
found-more old now then xs more all first next is =
    next ∙ ap (λ (r : List ℕ). r ++ more) first ∙ joined old xs more ∙ ap (λ (r : List ℕ). old ++ r) (sym is)

-- pages with an entry above a bound, counted
pub length-after : (b n s : ℕ) (f g : ℕ → Option Entry) → ((k : ℕ) → g k ≡ if_after b (f k))
    → length (pairs_from n s g) ≡ length (pages_after b (pairs_from n s f))
unfolding pairs_from
length-after b zero s f g same = refl
length-after b (suc n) s f g same =
    ap (λ (o : Option Entry). length (entry_and_rest s o (pairs_from n (s + 1) g))) (same s)
    ∙ step (f s) (pairs_from n (s + 1) f) (pairs_from n (s + 1) g) (length-after b n (s + 1) f g same)
  where
    step : (o : Option Entry) (xs ys : Pages) → length ys ≡ length (pages_after b xs)
        → length (entry_and_rest s (if_after b o) ys) ≡ length (pages_after b (entry_and_rest s o xs))
    step None xs ys same = same
    step (Some e) xs ys same = elim (cases_Bool (nat_lt b e.stamp)) [ inl h ↦ rw h (ap suc same) | inr h ↦ rw h same ]

pub sizes-after : (b : ℕ) (xs ys : List (Option Node)) (from root : ℕ)
    → ((q : ℕ) → look 3 ys (Some root) q ≡ if_after b (look 3 xs (Some from) q))
    → length (pages_below ys root) ≡ length (pages_after b (pages_below xs from))
unfolding pages_below
sizes-after b xs ys from root same = length-after b (2 ^ 20) 0 (look 3 xs (Some from)) (look 3 ys (Some root)) same

-- nothing yet
pub leaf-begins : (b : ℕ) (xs : List ℕ) (node : Option Node) (p : ℕ) → xs ≡ xs ++ pages_after b (leaf_part node p 0)
leaf-begins b xs node p = sym (ap (λ (r : Pages). xs ++ pages_after b r) (leaf-start node p) ∙ nil-list xs)

pub part-begins : (b level : ℕ) (xs : List ℕ) (nodes : List (Option Node)) (key : Option ℕ) (p : ℕ)
    → xs ≡ xs ++ pages_after b (part level nodes key p 0)
part-begins b level xs nodes key p = sym (ap (λ (r : Pages). xs ++ pages_after b r) (part-start level nodes key p) ∙ nil-list xs)

-- the pages of a child are small
pub child-fits : (level p d : ℕ) → 0 < level → level ≤ 3 → d < 32 → (p + 1) * 32 ^ (level + 1) ≤ 2 ^ 20
    → (p * 32 + d < 2 ^ 20) × ((p * 32 + d + 1) * 32 ^ (level - 1 + 1) ≤ 2 ^ 20)
child-fits zero p d above high low fits = absurd (omega arith)
child-fits (suc zero) p d above high low fits = (omega arith, omega arith)
child-fits (suc (suc zero)) p d above high low fits = (omega arith, omega arith)
child-fits (suc (suc (suc zero))) p d above high low fits = (omega arith, omega arith)
child-fits (suc (suc (suc (suc level)))) p d above high low fits = absurd (omega arith)

pub length-append : (xs ys : List ℕ) → length (xs ++ ys) ≡ length xs + length ys
length-append [] ys = omega arith
length-append (x ∷ xs) ys = let rest = length-append xs ys in omega arith

-- the same part of a tree, among nodes where it reads the same
pub part-same : (level : ℕ) (xs ys : List (Option Node)) (key p d : ℕ)
    → ((q : ℕ) → look level xs (Some key) q ≡ look level ys (Some key) q) → part level xs (Some key) p d ≡ part level ys (Some key) p d
unfolding part
part-same level xs ys key p d same = pairs-within (d * 32 ^ level) (p * 32 ^ suc level) (look level xs (Some key))
    (look level ys (Some key)) (λ k from to. same k)

after-most : (b : ℕ) (ps : Pages) → length (pages_after b ps) ≤ length ps
after-most b [] = omega arith
after-most b (x ∷ ps) = let rest = after-most b ps in
    elim (cases_Bool (nat_lt b x.1.stamp)) [ inl h ↦ rw h (omega arith) | inr h ↦ rw h (omega arith) ]

-- a tree has few pages
pub part-few : (b level : ℕ) (nodes : List (Option Node)) (key : Option ℕ) (p d : ℕ) → level ≤ 3 → d ≤ 32
    → length (pages_after b (part level nodes key p d)) ≤ 2 ^ 20
unfolding part
part-few b level nodes key p d high low =
    let most = after-most b (pairs_from (d * 32 ^ level) (p * 32 ^ suc level) (look level nodes key)) in
    let len = length-most (d * 32 ^ level) (p * 32 ^ suc level) (look level nodes key) in
    let small = go level high in omega arith
  where
    go : (l : ℕ) → l ≤ 3 → d * 32 ^ l ≤ 2 ^ 20
    go zero h = omega arith
    go (suc zero) h = omega arith
    go (suc (suc zero)) h = omega arith
    go (suc (suc (suc zero))) h = omega arith
    go (suc (suc (suc (suc l)))) h = absurd (omega arith)
