-- The strings that are hashed for a tree from bytes, and for the tree of a state of bytes, are byte strings.
use Rattle.std.proofs.Common.{◌≡◌, ◌⊎◌, ℕ, zero, suc, ◌+◌, ◌/◌, ◌%◌, Bool, true, false, cond, List, [], ◌∷◌, ◌++◌, map, length, take, drop, fold, codes, Option, Some, None, refl, subst, inl, inr, arith, nat_lt, Ordering, Less, Equal, Greater}
use Rattle.std.specs.List.{AllByRecursion}
use Rattle.std.proofs.lemmas.Bool.{ltb-true}
use Rattle.format_spec.specs.Bytes.{Bytes, IsBytes, AreByteStrings, bytes_cmp, leb_within, leb}
use Rattle.format_spec.specs.Hashes.{empty_string}
use Rattle.format_spec.proofs.ByteStrings.{by_test, one_byte, join_bytes, cut_bytes, named_bytes, strings_join, sha_bytes}
use Rattle.state_spec.specs.State.{State, Canister, CanisterPart, IsByteCanister, IsByteEntry, IsByteState, system_of, part_of}
use Rattle.tree_spec.specs.Tree.{Tree, empty, fork, labeled, leaf, pruned, reconstruct, hashed_strings, half, forks_within, forks}
use Rattle.tree_spec.specs.Cbor.{cbor, string_head, byte_string, tag}
use Rattle.tree_spec.specs.Labelled.{Children, none, leaf_at, node_at, put_leaf, put_node, put_path, with_wasm, canister_children, entry_children, with_canisters, root_children, child_trees, tree_of, state_tree}
use Rattle.tree_spec.specs.Whole.{IsByteTree}

-- ---- trees

hash_bytes : (t : Tree) → IsByteTree t → IsBytes (reconstruct t)
unfolding reconstruct
hash_bytes empty h = sha_bytes _
hash_bytes (fork l r) h = sha_bytes _
hash_bytes (labeled l t) h = sha_bytes _
hash_bytes (leaf b) h = sha_bytes _
hash_bytes (pruned x) h = h

pub tree_strings : (t : Tree) → IsByteTree t → AreByteStrings (hashed_strings t)
unfolding hashed_strings
tree_strings empty h = (by_test empty_string refl, tt)
tree_strings (fork l r) h = (
  named_bytes (codes "ic-hashtree-fork") (reconstruct l ++ reconstruct r) refl (join_bytes (reconstruct l) (reconstruct r) (hash_bytes l h.0) (hash_bytes r h.1)),
  strings_join (hashed_strings l) (hashed_strings r) (tree_strings l h.0) (tree_strings r h.1),
)
tree_strings (labeled l t) h = (
  named_bytes (codes "ic-hashtree-labeled") (l ++ reconstruct t) refl (join_bytes l (reconstruct t) h.0 (hash_bytes t h.1)),
  tree_strings t h.1,
)
tree_strings (leaf b) h = (named_bytes (codes "ic-hashtree-leaf") b refl h, tt)
tree_strings (pruned x) h = tt

string_bytes : (s : Bytes) → IsBytes (byte_string s) → IsBytes s
string_bytes s h = (cut_bytes (string_head (length s)) s h).1

pub cbor_tree : (t : Tree) → IsBytes (cbor t) → IsByteTree t
unfolding cbor
cbor_tree empty h = tt
cbor_tree (fork l r) h = let p = cut_bytes (cbor l) (cbor r) (λ i. h (suc (suc i))) in (cbor_tree l p.0, cbor_tree r p.1)
cbor_tree (labeled l t) h = let p = cut_bytes (byte_string l) (cbor t) (λ i. h (suc (suc i))) in (string_bytes l p.0, cbor_tree t p.1)
cbor_tree (leaf b) h = string_bytes b (λ i. h (suc (suc i)))
cbor_tree (pruned x) h = string_bytes x (λ i. h (suc (suc i)))

pub text_tree : (s : Bytes) (t : Tree) → IsBytes s → (s ≡ cbor t) ⊎ (s ≡ tag ++ cbor t) → IsByteTree t
text_tree s t h (inl e) = cbor_tree t (subst IsBytes e h)
text_tree s t h (inr e) = cbor_tree t (cut_bytes tag (cbor t) (subst IsBytes e h)).1

-- ---- children

abbrev pub ByteChildren : Children → Type 0
ByteChildren none = Unit {0}
ByteChildren (leaf_at l v rest) = IsBytes l × IsBytes v × ByteChildren rest
ByteChildren (node_at l below rest) = IsBytes l × ByteChildren below × ByteChildren rest

put_leaf_bytes : (l v : Bytes) (c : Children) → IsBytes l → IsBytes v → ByteChildren c → ByteChildren (put_leaf l v c)
put_leaf_bytes l v none p q h = (p, q, tt)
put_leaf_bytes l v (leaf_at k w rest) p q h = by (bytes_cmp l k) (put_leaf_bytes l v rest p q h.2)
  where
    by : (o : Ordering) → ByteChildren (put_leaf l v rest) → ByteChildren (elim o as (λ x. Children) [ Less ↦ leaf_at l v (leaf_at k w rest) | Equal ↦ leaf_at l v rest | Greater ↦ leaf_at k w (put_leaf l v rest) ])
    by Less r = (p, q, h)
    by Equal r = (p, q, h.2)
    by Greater r = (h.0, h.1, r)
put_leaf_bytes l v (node_at k below rest) p q h = by (bytes_cmp l k) (put_leaf_bytes l v rest p q h.2)
  where
    by : (o : Ordering) → ByteChildren (put_leaf l v rest) → ByteChildren (elim o as (λ x. Children) [ Less ↦ leaf_at l v (node_at k below rest) | Equal ↦ leaf_at l v rest | Greater ↦ node_at k below (put_leaf l v rest) ])
    by Less r = (p, q, h)
    by Equal r = (p, q, h.2)
    by Greater r = (h.0, h.1, r)

put_node_bytes : (f : Children → Children) → ((c : Children) → ByteChildren c → ByteChildren (f c)) → (l : Bytes) (c : Children) → IsBytes l → ByteChildren c → ByteChildren (put_node l f c)
put_node_bytes f keeps l none p h = (p, keeps none tt, tt)
put_node_bytes f keeps l (leaf_at k w rest) p h = by (bytes_cmp l k) (put_node_bytes f keeps l rest p h.2)
  where
    by : (o : Ordering) → ByteChildren (put_node l f rest) → ByteChildren (elim o as (λ x. Children) [ Less ↦ node_at l (f none) (leaf_at k w rest) | Equal ↦ node_at l (f none) rest | Greater ↦ leaf_at k w (put_node l f rest) ])
    by Less r = (p, keeps none tt, h)
    by Equal r = (p, keeps none tt, h.2)
    by Greater r = (h.0, h.1, r)
put_node_bytes f keeps l (node_at k below rest) p h = by (bytes_cmp l k) (put_node_bytes f keeps l rest p h.2)
  where
    by : (o : Ordering) → ByteChildren (put_node l f rest) → ByteChildren (elim o as (λ x. Children) [ Less ↦ node_at l (f none) (node_at k below rest) | Equal ↦ node_at l (f below) rest | Greater ↦ node_at k below (put_node l f rest) ])
    by Less r = (p, keeps none tt, h)
    by Equal r = (p, keeps below h.1, h.2)
    by Greater r = (h.0, h.1, r)

put_path_bytes : (p : List Bytes) (v : Bytes) (c : Children) → AreByteStrings p → IsBytes v → ByteChildren c → ByteChildren (put_path p v c)
put_path_bytes [] v c a b h = h
put_path_bytes (l ∷ []) v c a b h = put_leaf_bytes l v c a.0 b h
put_path_bytes (l ∷ m ∷ p) v c a b h = put_node_bytes (put_path (m ∷ p) v) (λ d g. put_path_bytes (m ∷ p) v d a.1 b g) l c a.0 h

entries_bytes : (es : List (List Bytes × Bytes)) (c : Children) → AllByRecursion IsByteEntry es → ByteChildren c → ByteChildren (fold (λ children e. put_path e.0 e.1 children) c es)
entries_bytes [] c p h = h
entries_bytes (e ∷ es) c p h = entries_bytes es (put_path e.0 e.1 c) p.1 (put_path_bytes e.0 e.1 c p.0.path p.0.value h)

wasm_bytes : (m : Option Bytes) → ByteChildren (with_wasm m)
wasm_bytes None = tt
wasm_bytes (Some m) = (by_test (codes "module_hash") refl, sha_bytes m, tt)

abbrev PartBytes : Bytes × CanisterPart → Type 0
PartBytes c = IsBytes c.0 × IsBytes c.1.certified

parts_bytes : (cs : List (Bytes × Canister)) → AllByRecursion IsByteCanister cs → AllByRecursion PartBytes (map (λ c. (c.0, part_of c.1)) cs)
parts_bytes [] h = tt
parts_bytes (c ∷ cs) h = ((h.0.id, h.0.certified), parts_bytes cs h.1)

canisters_bytes : (cs : List (Bytes × CanisterPart)) → AllByRecursion PartBytes cs → ByteChildren (canister_children cs)
canisters_bytes [] p = tt
canisters_bytes (c ∷ cs) p = (p.0.0, (by_test (codes "certified_data") refl, p.0.1, wasm_bytes c.1.wasm), canisters_bytes cs p.1)

with_canisters_bytes : (cs : List (Bytes × CanisterPart)) (c : Children) → AllByRecursion PartBytes cs → ByteChildren c → ByteChildren (with_canisters cs c)
with_canisters_bytes [] c p h = h
with_canisters_bytes (d ∷ ds) c p h = put_node_bytes (λ before. canister_children (d ∷ ds)) (λ x g. canisters_bytes (d ∷ ds) p) (codes "canister") c (by_test (codes "canister") refl) h

leb_bytes : (k n : ℕ) → IsBytes (leb_within k n)
leb_bytes zero n = by_test [] refl
leb_bytes (suc k) n = by (nat_lt n 128) refl (leb_bytes k (n / 128))
  where
    by : (b : Bool) → nat_lt n 128 ≡ b → IsBytes (leb_within k (n / 128)) → IsBytes (cond b (n ∷ []) ((n % 128 + 128) ∷ leb_within k (n / 128)))
    by true e h = let lt = ltb-true n 128 e in one_byte n [] (omega (arith, lt)) (by_test [] refl)
    by false e h = one_byte (n % 128 + 128) (leb_within k (n / 128)) (omega arith) h

-- ---- the tree

abbrev IsByteTrees : List Tree → Type 0
IsByteTrees ts = AllByRecursion IsByteTree ts

trees_take : (n : ℕ) (ts : List Tree) → IsByteTrees ts → IsByteTrees (take n ts)
trees_take zero ts h = tt
trees_take (suc n) [] h = tt
trees_take (suc n) (t ∷ ts) h = (h.0, trees_take n ts h.1)

trees_drop : (n : ℕ) (ts : List Tree) → IsByteTrees ts → IsByteTrees (drop n ts)
trees_drop zero ts h = h
trees_drop (suc n) [] h = tt
trees_drop (suc n) (t ∷ ts) h = trees_drop n ts h.1

forks_bytes : (n : ℕ) (ts : List Tree) → IsByteTrees ts → IsByteTree (forks_within n ts)
forks_bytes n [] h = tt
forks_bytes n (t ∷ []) h = h.0
forks_bytes zero (t ∷ u ∷ ts) h = tt
forks_bytes (suc n) (t ∷ u ∷ ts) h =
    let xs : List Tree = t ∷ u ∷ ts in
    (forks_bytes n (take (half xs) xs) (trees_take (half xs) xs h), forks_bytes n (drop (half xs) xs) (trees_drop (half xs) xs h))

forks_are_bytes : (ts : List Tree) → IsByteTrees ts → IsByteTree (forks ts)
unfolding forks
forks_are_bytes ts h = forks_bytes (length ts) ts h

children_bytes : (c : Children) → ByteChildren c → IsByteTrees (child_trees c)
children_bytes none h = tt
children_bytes (leaf_at l v rest) h = ((h.0, h.1), children_bytes rest h.2)
children_bytes (node_at l below rest) h = ((h.0, forks_are_bytes (child_trees below) (children_bytes below h.1)), children_bytes rest h.2)

pub state_tree_bytes : (s : State) → IsByteState s → IsByteTree (state_tree (system_of s))
unfolding state_tree tree_of root_children leb system_of
state_tree_bytes s b =
    let cs : List (Bytes × CanisterPart) = map (λ c. (c.0, part_of c.1)) s.canisters in
    let inner = with_canisters_bytes cs (entry_children s.entries) (parts_bytes s.canisters b.canisters) (entries_bytes s.entries none b.entries tt) in
    let c : Children = root_children (system_of s) in
    forks_are_bytes (child_trees c) (children_bytes c (put_leaf_bytes (codes "time") (leb s.time) (with_canisters cs (entry_children s.entries)) (by_test (codes "time") refl) (leb_bytes 10 s.time) inner))
