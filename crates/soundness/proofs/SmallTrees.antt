-- The tree of a state isn't deep, and its strings have lengths that heads can say.
use Rattle.std.proofs.Common.{◌≡◌, ℕ, zero, suc, ◌+◌, ◌-◌, ◌*◌, ◌/◌, ◌%◌, ◌^◌, ◌<◌, ◌≤◌, ◌&&◌, Bool, true, false, cond, List, [], ◌∷◌, length, take, drop, fold, codes, Option, Some, None, refl, ap, arith, nat_lt, nat_le, Ordering, Less, Equal, Greater}
use Rattle.std.specs.List.{AllByRecursion, list_all}
use Rattle.std.proofs.Math.Nat.{pow-suc}
use Rattle.std.proofs.lemmas.Bool.{and_parts, leb-true}
use Rattle.std.proofs.lemmas.List.{length-take, length-drop}
use Rattle.sha2.proofs.Facts256.{length-sha256}
use Rattle.format_spec.specs.Bytes.{Bytes, bytes_cmp, leb_within, leb}
use Rattle.format_spec.specs.declared.limits.TheConstants.{MAX_LABELS}
use Rattle.state_spec.specs.State.{SystemPart, CanisterPart, IsSystem, FitsCanister, FitsEntry, is_label, is_path}
use Rattle.tree_spec.specs.Tree.{Tree, depth, half, forks_within, forks}
use Rattle.tree_spec.specs.Labelled.{Children, none, leaf_at, node_at, put_leaf, put_node, put_path, with_wasm, canister_children, entry_children, with_canisters, root_children, child_trees, tree_of, state_tree}
use Rattle.tree_spec.specs.Cbor.{HasSizes}
use Rattle.state_spec.proofs.SystemSizes.{id_size, label_size}

-- ---- children: at most m nodes below each other, at most n children a node, and short strings

abbrev pub count : Children → ℕ
count none = 0
count (leaf_at l v rest) = suc (count rest)
count (node_at l below rest) = suc (count rest)

abbrev pub Small : ℕ → ℕ → Children → Type 0
Small m n none = Unit {0}
Small m n (leaf_at l v rest) = (1 ≤ m) × (length l < 2 ^ 64) × (length v < 2 ^ 64) × Small m n rest
Small m n (node_at l below rest) = (1 ≤ m) × (length l < 2 ^ 64) × (count below ≤ n) × Small (m - 1) n below × Small m n rest

pub small_more : (m n k j : ℕ) (c : Children) → m ≤ k → n ≤ j → Small m n c → Small k j c
small_more m n k j none p q h = tt
small_more m n k j (leaf_at l v rest) p q h = (omega (arith, p, h.0), h.1, h.2, small_more m n k j rest p q h.3)
small_more m n k j (node_at l below rest) p q h = (omega (arith, p, h.0), h.1, omega (arith, q, h.2), small_more (m - 1) n (k - 1) j below (omega (arith, p)) q h.3, small_more m n k j rest p q h.4)

leaf_count : (l v : Bytes) (c : Children) → count (put_leaf l v c) ≤ suc (count c)
leaf_count l v none = omega arith
leaf_count l v (leaf_at k w rest) = by (bytes_cmp l k) (leaf_count l v rest)
  where
    by : (o : Ordering) → count (put_leaf l v rest) ≤ suc (count rest) → count (elim o as (λ x. Children) [ Less ↦ leaf_at l v (leaf_at k w rest) | Equal ↦ leaf_at l v rest | Greater ↦ leaf_at k w (put_leaf l v rest) ]) ≤ suc (suc (count rest))
    by Less h = omega arith
    by Equal h = omega arith
    by Greater h = omega (arith, h)
leaf_count l v (node_at k below rest) = by (bytes_cmp l k) (leaf_count l v rest)
  where
    by : (o : Ordering) → count (put_leaf l v rest) ≤ suc (count rest) → count (elim o as (λ x. Children) [ Less ↦ leaf_at l v (node_at k below rest) | Equal ↦ leaf_at l v rest | Greater ↦ node_at k below (put_leaf l v rest) ]) ≤ suc (suc (count rest))
    by Less h = omega arith
    by Equal h = omega arith
    by Greater h = omega (arith, h)

leaf_small : (m n : ℕ) (l v : Bytes) (c : Children) → 1 ≤ m → length l < 2 ^ 64 → length v < 2 ^ 64 → Small m n c → Small m n (put_leaf l v c)
leaf_small m n l v none a b d h = (a, b, d, tt)
leaf_small m n l v (leaf_at k w rest) a b d h = by (bytes_cmp l k) (leaf_small m n l v rest a b d h.3)
  where
    by : (o : Ordering) → Small m n (put_leaf l v rest) → Small m n (elim o as (λ x. Children) [ Less ↦ leaf_at l v (leaf_at k w rest) | Equal ↦ leaf_at l v rest | Greater ↦ leaf_at k w (put_leaf l v rest) ])
    by Less r = (a, b, d, h)
    by Equal r = (a, b, d, h.3)
    by Greater r = (h.0, h.1, h.2, r)
leaf_small m n l v (node_at k below rest) a b d h = by (bytes_cmp l k) (leaf_small m n l v rest a b d h.4)
  where
    by : (o : Ordering) → Small m n (put_leaf l v rest) → Small m n (elim o as (λ x. Children) [ Less ↦ leaf_at l v (node_at k below rest) | Equal ↦ leaf_at l v rest | Greater ↦ node_at k below (put_leaf l v rest) ])
    by Less r = (a, b, d, h)
    by Equal r = (a, b, d, h.4)
    by Greater r = (h.0, h.1, h.2, h.3, r)

node_count : (f : Children → Children) (l : Bytes) (c : Children) → count (put_node l f c) ≤ suc (count c)
node_count f l none = omega arith
node_count f l (leaf_at k w rest) = by (bytes_cmp l k) (node_count f l rest)
  where
    by : (o : Ordering) → count (put_node l f rest) ≤ suc (count rest) → count (elim o as (λ x. Children) [ Less ↦ node_at l (f none) (leaf_at k w rest) | Equal ↦ node_at l (f none) rest | Greater ↦ leaf_at k w (put_node l f rest) ]) ≤ suc (suc (count rest))
    by Less h = omega arith
    by Equal h = omega arith
    by Greater h = omega (arith, h)
node_count f l (node_at k below rest) = by (bytes_cmp l k) (node_count f l rest)
  where
    by : (o : Ordering) → count (put_node l f rest) ≤ suc (count rest) → count (elim o as (λ x. Children) [ Less ↦ node_at l (f none) (node_at k below rest) | Equal ↦ node_at l (f below) rest | Greater ↦ node_at k below (put_node l f rest) ]) ≤ suc (suc (count rest))
    by Less h = omega arith
    by Equal h = omega arith
    by Greater h = omega (arith, h)

-- what stands below the node after the change is small, and has few children
record Keeps (m n j : ℕ) (f : Children → Children) : Type 0 where
  small : (d : Children) → Small (m - 1) n d → count d ≤ n → Small (m - 1) j (f d)
  few : (d : Children) → Small (m - 1) n d → count d ≤ n → count (f d) ≤ j

node_small : (m n j : ℕ) (f : Children → Children) (l : Bytes) (c : Children) → n ≤ j → 1 ≤ m → length l < 2 ^ 64 → Keeps m n j f → Small m n c → Small m j (put_node l f c)
node_small m n j f l none q a b k h = (a, b, k.few none tt (omega arith), k.small none tt (omega arith), tt)
node_small m n j f l (leaf_at i w rest) q a b k h = by (bytes_cmp l i) (node_small m n j f l rest q a b k h.3)
  where
    by : (o : Ordering) → Small m j (put_node l f rest) → Small m j (elim o as (λ x. Children) [ Less ↦ node_at l (f none) (leaf_at i w rest) | Equal ↦ node_at l (f none) rest | Greater ↦ leaf_at i w (put_node l f rest) ])
    by Less r = (a, b, k.few none tt (omega arith), k.small none tt (omega arith), small_more m n m j (leaf_at i w rest) (omega arith) q h)
    by Equal r = (a, b, k.few none tt (omega arith), k.small none tt (omega arith), small_more m n m j rest (omega arith) q h.3)
    by Greater r = (h.0, h.1, h.2, r)
node_small m n j f l (node_at i below rest) q a b k h = by (bytes_cmp l i) (node_small m n j f l rest q a b k h.4)
  where
    by : (o : Ordering) → Small m j (put_node l f rest) → Small m j (elim o as (λ x. Children) [ Less ↦ node_at l (f none) (node_at i below rest) | Equal ↦ node_at l (f below) rest | Greater ↦ node_at i below (put_node l f rest) ])
    by Less r = (a, b, k.few none tt (omega arith), k.small none tt (omega arith), small_more m n m j (node_at i below rest) (omega arith) q h)
    by Equal r = (a, b, k.few below h.3 h.2, k.small below h.3 h.2, small_more m n m j rest (omega arith) q h.4)
    by Greater r = (h.0, h.1, omega (arith, q, h.2), small_more (m - 1) n (m - 1) j below (omega arith) q h.3, r)

path_count : (p : List Bytes) (v : Bytes) (c : Children) → count (put_path p v c) ≤ suc (count c)
path_count [] v c = omega arith
path_count (l ∷ []) v c = leaf_count l v c
path_count (l ∷ m ∷ p) v c = node_count (put_path (m ∷ p) v) l c

path_small : (m n : ℕ) (p : List Bytes) (v : Bytes) (c : Children) → length p ≤ m → AllByRecursion (λ l. length l < 2 ^ 64) p → length v < 2 ^ 64 → Small m n c → Small m (suc n) (put_path p v c)
path_small m n [] v c a b d h = small_more m n m (suc n) c (omega arith) (omega arith) h
path_small m n (l ∷ []) v c a b d h = small_more m n m (suc n) (put_leaf l v c) (omega arith) (omega arith) (leaf_small m n l v c (omega (arith, a)) b.0 d h)
path_small m n (l ∷ k ∷ p) v c a b d h =
    node_small m n (suc n) (put_path (k ∷ p) v) l c (omega arith) (omega (arith, a)) b.0
    (record {
      small = λ e s few. path_small (m - 1) n (k ∷ p) v e (omega (arith, a)) b.1 d s;
      few = λ e s few. omega (arith, path_count (k ∷ p) v e, few);
    })
    h

-- ---- of a state

labels_short : (p : List Bytes) → list_all is_label p ≡ true → AllByRecursion (λ l. length l < 2 ^ 64) p
labels_short [] h = tt
labels_short (l ∷ p) h = let a = and_parts (is_label l) (list_all is_label p) h in (omega (arith, label_size l a.0), labels_short p a.1)

path_parts : (p : List Bytes) → is_path p ≡ true → (length p ≤ 8) × AllByRecursion (λ l. length l < 2 ^ 64) p
path_parts p h =
    let a = and_parts (nat_lt 0 (length p) && nat_le (length p) MAX_LABELS) (list_all is_label p) h in
    let b = and_parts (nat_lt 0 (length p)) (nat_le (length p) MAX_LABELS) a.0 in
    (leb-true (length p) 8 b.1, labels_short p a.1)

entries_small : (n : ℕ) (es : List (List Bytes × Bytes)) (c : Children) → AllByRecursion FitsEntry es → Small 8 n c → count c ≤ n
    → Small 8 (n + length es) (fold (λ children e. put_path e.0 e.1 children) c es) × (count (fold (λ children e. put_path e.0 e.1 children) c es) ≤ n + length es)
entries_small n [] c f h q = (small_more 8 n 8 (n + 0) c (omega arith) (omega arith) h, omega (arith, q))
entries_small n (e ∷ es) c f h q =
    let p = path_parts e.0 f.0.path in
    let r = entries_small (suc n) es (put_path e.0 e.1 c) f.1 (path_small 8 n e.0 e.1 c p.0 p.1 (omega (arith, f.0.value)) h) (omega (arith, path_count e.0 e.1 c, q)) in
    (small_more 8 (suc n + length es) 8 (n + suc (length es)) (fold (λ children x. put_path x.0 x.1 children) (put_path e.0 e.1 c) es) (omega arith) (omega arith) r.0, omega (arith, r.1))

wasm_small : (n : ℕ) (w : Option Bytes) → Small 6 n (with_wasm w) × (count (with_wasm w) ≤ 1)
wasm_small n None = (tt, omega arith)
wasm_small n (Some w) = ((omega arith, omega arith, omega (arith, length-sha256 w), tt), omega arith)

canisters_small : (v n : ℕ) (cs : List (Bytes × CanisterPart)) → 2 ≤ n → AllByRecursion (FitsCanister v) cs → Small 7 n (canister_children cs) × (count (canister_children cs) ≡ length cs)
canisters_small v n [] q f = (tt, refl)
canisters_small v n (c ∷ cs) q f =
    let r = canisters_small v n cs q f.1 in
    let w = wasm_small n c.1.wasm in
    ((omega arith, omega (arith, id_size c.0 f.0.id), omega (arith, w.1, q), (omega arith, omega arith, omega (arith, f.0.certified), w.0), r.0), omega (arith, r.1))

with_canisters_small : (v n : ℕ) (cs : List (Bytes × CanisterPart)) (c : Children) → 1024 ≤ n → length cs ≤ 1024 → AllByRecursion (FitsCanister v) cs → Small 8 n c → Small 8 n (with_canisters cs c) × (count (with_canisters cs c) ≤ suc (count c))
with_canisters_small v n [] c q few f h = (h, omega arith)
with_canisters_small v n (d ∷ ds) c q few f h =
    let r = canisters_small v n (d ∷ ds) (omega (arith, q)) f in (
      node_small 8 n n (λ before. canister_children (d ∷ ds)) (codes "canister") c (omega arith) (omega arith) (omega arith)
          (record { small = λ e s few_e. r.0; few = λ e s few_e. omega (arith, r.1, q, few) })
          h,
      node_count (λ before. canister_children (d ∷ ds)) (codes "canister") c,
    )

leb_length : (k n : ℕ) → length (leb_within k n) ≤ k
leb_length zero n = omega arith
leb_length (suc k) n = by (nat_lt n 128) (leb_length k (n / 128))
  where
    by : (b : Bool) → length (leb_within k (n / 128)) ≤ k → length (cond b (n ∷ []) ((n % 128 + 128) ∷ leb_within k (n / 128))) ≤ suc k
    by true h = omega arith
    by false h = omega (arith, h)

pub state_small : (v : ℕ) (s : SystemPart) → IsSystem v s → Small 8 16386 (root_children s) × (count (root_children s) ≤ 16386)
unfolding root_children leb
state_small v s good =
    let entries = entries_small 0 s.entries none good.entries_fit tt (omega arith) in
    let c : Children = entry_children s.entries in
    let more = with_canisters_small v 16384 s.canisters c (omega arith) good.few_canisters good.canisters_fit (small_more 8 (0 + length s.entries) 8 16384 c (omega arith) (omega (arith, good.few_entries)) entries.0) in
    let all : Children = with_canisters s.canisters c in (
      leaf_small 8 16386 (codes "time") (leb s.time) all (omega arith) (omega arith) (omega (arith, leb_length 10 s.time)) (small_more 8 16384 8 16386 all (omega arith) (omega arith) more.0),
      omega (arith, leaf_count (codes "time") (leb s.time) all, more.1, entries.1, good.few_entries),
    )

-- ---- of trees

abbrev AllDepth : ℕ → List Tree → Type 0
AllDepth d ts = AllByRecursion (λ t. depth t ≤ d) ts

depth_more : (d e : ℕ) (ts : List Tree) → d ≤ e → AllDepth d ts → AllDepth e ts
depth_more d e [] le h = tt
depth_more d e (t ∷ ts) le h = (omega (arith, h.0, le), depth_more d e ts le h.1)

depth_take : (d n : ℕ) (ts : List Tree) → AllDepth d ts → AllDepth d (take n ts)
depth_take d zero ts h = tt
depth_take d (suc n) [] h = tt
depth_take d (suc n) (t ∷ ts) h = (h.0, depth_take d n ts h.1)

depth_drop : (d n : ℕ) (ts : List Tree) → AllDepth d ts → AllDepth d (drop n ts)
depth_drop d zero ts h = h
depth_drop d (suc n) [] h = tt
depth_drop d (suc n) (t ∷ ts) h = depth_drop d n ts h.1

-- 2 ^ k trees lie under k forks
forks_depth : (n k d : ℕ) (xs : List Tree) → length xs ≤ n → length xs ≤ 2 ^ k → 1 ≤ d → AllDepth d xs → depth (forks_within n xs) ≤ d + k
forks_depth n k d [] p q o h = omega (arith, o)
forks_depth n k d (t ∷ []) p q o h = omega (arith, h.0)
forks_depth zero k d (t ∷ u ∷ ts) p q o h = absurd (omega (arith, p))
forks_depth (suc n) zero d (t ∷ u ∷ ts) p q o h = absurd (omega (arith, q))
forks_depth (suc n) (suc k) d (t ∷ u ∷ ts) p q o h =
    let xs : List Tree = t ∷ u ∷ ts in
    let twice : 2 ^ suc k ≡ 2 ^ k * 2 = pow-suc 2 k in
    let left = length-take (half xs) xs in
    let right = length-drop (half xs) xs in
    let a = forks_depth n k d (take (half xs) xs) (omega (arith, left, p)) (omega (arith, left, twice, q)) o (depth_take d (half xs) xs h) in
    let b = forks_depth n k d (drop (half xs) xs) (omega (arith, right, p)) (omega (arith, right, twice, q)) o (depth_drop d (half xs) xs h) in
    omega (arith, a, b)

all_forks_depth : (k d : ℕ) (xs : List Tree) → length xs ≤ 2 ^ k → 1 ≤ d → AllDepth d xs → depth (forks xs) ≤ d + k
unfolding forks
all_forks_depth k d xs q o h = forks_depth (length xs) k d xs (omega arith) q o h

trees_count : (c : Children) → length (child_trees c) ≡ count c
trees_count none = refl
trees_count (leaf_at l v rest) = ap suc (trees_count rest)
trees_count (node_at l below rest) = ap suc (trees_count rest)

children_depth : (m : ℕ) (c : Children) → Small m 16386 c → AllDepth (17 * m) (child_trees c)
children_depth m none h = tt
children_depth m (leaf_at l v rest) h = (omega (arith, h.0), children_depth m rest h.3)
children_depth m (node_at l below rest) h =
    let d : ℕ = 17 * (m - 1) + 1 in
    let own = all_forks_depth 15 d (child_trees below) (omega (arith, trees_count below, h.2)) (omega arith) (depth_more (17 * (m - 1)) d (child_trees below) (omega arith) (children_depth (m - 1) below h.3)) in
    (omega (arith, own, h.0), children_depth m rest h.4)

-- ---- their strings

sizes_take : (n : ℕ) (ts : List Tree) → AllByRecursion HasSizes ts → AllByRecursion HasSizes (take n ts)
sizes_take zero ts h = tt
sizes_take (suc n) [] h = tt
sizes_take (suc n) (t ∷ ts) h = (h.0, sizes_take n ts h.1)

sizes_drop : (n : ℕ) (ts : List Tree) → AllByRecursion HasSizes ts → AllByRecursion HasSizes (drop n ts)
sizes_drop zero ts h = h
sizes_drop (suc n) [] h = tt
sizes_drop (suc n) (t ∷ ts) h = sizes_drop n ts h.1

forks_sizes : (n : ℕ) (xs : List Tree) → AllByRecursion HasSizes xs → HasSizes (forks_within n xs)
forks_sizes n [] h = tt
forks_sizes n (t ∷ []) h = h.0
forks_sizes zero (t ∷ u ∷ ts) h = tt
forks_sizes (suc n) (t ∷ u ∷ ts) h = let xs : List Tree = t ∷ u ∷ ts in (forks_sizes n (take (half xs) xs) (sizes_take (half xs) xs h), forks_sizes n (drop (half xs) xs) (sizes_drop (half xs) xs h))

all_forks_sizes : (xs : List Tree) → AllByRecursion HasSizes xs → HasSizes (forks xs)
unfolding forks
all_forks_sizes xs h = forks_sizes (length xs) xs h

children_sizes : (m n : ℕ) (c : Children) → Small m n c → AllByRecursion HasSizes (child_trees c)
children_sizes m n none h = tt
children_sizes m n (leaf_at l v rest) h = ((h.1, h.2), children_sizes m n rest h.3)
children_sizes m n (node_at l below rest) h = ((h.1, all_forks_sizes (child_trees below) (children_sizes (m - 1) n below h.3)), children_sizes m n rest h.4)

-- ---- the tree of a state

pub state_depth : (v : ℕ) (s : SystemPart) → IsSystem v s → depth (state_tree s) ≤ 152
unfolding state_tree tree_of
state_depth v s good =
    let small = state_small v s good in
    let c : Children = root_children s in
    all_forks_depth 15 137 (child_trees c) (omega (arith, trees_count c, small.1)) (omega arith) (depth_more (17 * 8) 137 (child_trees c) (omega arith) (children_depth 8 c small.0))

pub state_sizes : (v : ℕ) (s : SystemPart) → IsSystem v s → HasSizes (state_tree s)
unfolding state_tree tree_of
state_sizes v s good = all_forks_sizes (child_trees (root_children s)) (children_sizes 8 16386 (root_children s) (state_small v s good).0)
