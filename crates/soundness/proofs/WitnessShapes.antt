-- A witness is like the tree that it is of, and the hashes in it are whole.
use Rattle.std.proofs.Common.{ℕ, zero, suc, ◌||◌, Bool, true, false, List, [], ◌∷◌, length, take, drop, Option, Some, None, sym, subst}
use Rattle.format_spec.specs.Bytes.{Bytes}
use Rattle.tree_spec.specs.Tree.{Tree, fork, labeled, leaf, pruned, reconstruct, forks, half}
use Rattle.tree_spec.specs.Whole.{HasHashes}
use Rattle.tree_spec.specs.Labelled.{Children, none, leaf_at, node_at, tree_of}
use Rattle.tree_spec.specs.Witness.{Kept, kept_closed, kept_children, forks_of_kept, under_forks, all_pruned, none_kept, begins_some, rests, going_on, is_neighbour, child_labels, witness_of}
use Rattle.soundness.proofs.Like.{Like, like_cut, like_fork, like_labeled, like_leaf, hash_length, whole_hashes}
use Rattle.soundness.proofs.StateTrees.{Child, AllChild, forks_are, all_children, tree_good, InOrder}
use Rattle.soundness.proofs.Witnesses.{wholes, wholes_are, by_halves, one_fork}

-- ---- its shape

-- what is kept of a child is like it
abbrev pub KeptLike : Tree → Option Tree → Type 0
KeptLike whole None = Unit {0}
KeptLike whole (Some kept) = Like kept whole

abbrev pub AllLike : List Kept → Type 0
AllLike [] = Unit {0}
AllLike (c ∷ cs) = KeptLike c.whole c.kept × AllLike cs

like_take : (n : ℕ) (cs : List Kept) → AllLike cs → AllLike (take n cs)
like_take zero cs h = tt
like_take (suc n) [] h = tt
like_take (suc n) (c ∷ cs) h = (h.0, like_take n cs h.1)

like_drop : (n : ℕ) (cs : List Kept) → AllLike cs → AllLike (drop n cs)
like_drop zero cs h = h
like_drop (suc n) [] h = tt
like_drop (suc n) (c ∷ cs) h = like_drop n cs h.1

kept_like : (n : ℕ) (cs : List Kept) → AllLike cs → Like (forks_of_kept n cs) (forks (wholes cs))
kept_like zero cs h = like_cut (reconstruct (forks (wholes cs))) (forks (wholes cs))
kept_like (suc n) [] h = like_cut (reconstruct (forks [])) (forks [])
kept_like (suc n) (c ∷ []) h = by c.kept h.0
  where
    by : (o : Option Tree) → KeptLike c.whole o → Like (elim o as (λ x. Tree) [ None ↦ all_pruned (c ∷ []) | Some t ↦ t ]) (forks (wholes (c ∷ [])))
    by None s = like_cut (reconstruct (forks (wholes (c ∷ [])))) (forks (wholes (c ∷ [])))
    by (Some t) s = subst (λ (u : Tree). Like t u) (sym (one_fork c.whole)) s
kept_like (suc n) (c ∷ d ∷ cs) h =
    let xs : List Kept = c ∷ d ∷ cs in
    let left : List Kept = take (half xs) xs in
    let right : List Kept = drop (half xs) xs in
    by (none_kept xs)
    (subst (λ (u : Tree). Like (fork (forks_of_kept n left) (forks_of_kept n right)) u) (sym (by_halves c d cs))
    (like_fork (forks_of_kept n left) (forks_of_kept n right) (forks (wholes left)) (forks (wholes right)) (kept_like n left (like_take (half xs) xs h)) (kept_like n right (like_drop (half xs) xs h))))
  where
    by : (b : Bool) → Like (fork (forks_of_kept n (take (half (c ∷ d ∷ cs)) (c ∷ d ∷ cs))) (forks_of_kept n (drop (half (c ∷ d ∷ cs)) (c ∷ d ∷ cs)))) (forks (wholes (c ∷ d ∷ cs)))
        → Like (elim b as (λ x. Tree) [ true ↦ pruned (reconstruct (forks (wholes (c ∷ d ∷ cs)))) | false ↦ fork (forks_of_kept n (take (half (c ∷ d ∷ cs)) (c ∷ d ∷ cs))) (forks_of_kept n (drop (half (c ∷ d ∷ cs)) (c ∷ d ∷ cs))) ]) (forks (wholes (c ∷ d ∷ cs)))
    by true e = like_cut (reconstruct (forks (wholes (c ∷ d ∷ cs)))) (forks (wholes (c ∷ d ∷ cs)))
    by false e = e

closed_like : (l : Bytes) (t : Tree) (b : Bool) → KeptLike (labeled l t) (kept_closed l t b)
closed_like l t true = like_labeled l (pruned (reconstruct t)) t (like_cut (reconstruct t) t)
closed_like l t false = tt

level_like : (n : ℕ) (ls : List Bytes) (ps : List (List Bytes)) (c : Children) → AllLike (kept_children ls ps c) → Like (forks_of_kept n (kept_children ls ps c)) (tree_of c)
unfolding tree_of
level_like n ls ps c h = subst (λ (ts : List Tree). Like (forks_of_kept n (kept_children ls ps c)) (forks ts)) (wholes_are ls ps c) (kept_like n (kept_children ls ps c) h)

children_like : (ls : List Bytes) (ps : List (List Bytes)) (c : Children) → AllLike (kept_children ls ps c)
children_like ls ps none = tt
children_like ls ps (leaf_at l v rest) = (by (begins_some l ps), children_like ls ps rest)
  where
    by : (b : Bool) → KeptLike (labeled l (leaf v)) (elim b as (λ x. Option Tree) [ true ↦ Some (labeled l (leaf v)) | false ↦ kept_closed l (leaf v) (is_neighbour ls ps l) ])
    by true = like_labeled l (leaf v) (leaf v) (like_leaf v)
    by false = closed_like l (leaf v) (is_neighbour ls ps l)
children_like ls ps (node_at l below rest) = (by (going_on (rests l ps)) (λ qs. children_like (child_labels below) qs below), children_like ls ps rest)
  where
    by : (rs : List (List Bytes)) → ((qs : List (List Bytes)) → AllLike (kept_children (child_labels below) qs below)) → KeptLike (labeled l (tree_of below)) (elim rs as (λ x. Option Tree) [
      | [] ↦ kept_closed l (tree_of below) (begins_some l ps || is_neighbour ls ps l)
      | p ∷ qs ↦ Some (labeled l (under_forks (kept_children (child_labels below) (p ∷ qs) below)))
    ])
    by [] f = closed_like l (tree_of below) (begins_some l ps || is_neighbour ls ps l)
    by (p ∷ qs) f =
        let cs : List Kept = kept_children (child_labels below) (p ∷ qs) below in
        like_labeled l (under_forks cs) (tree_of below) (level_like (length cs) (child_labels below) (p ∷ qs) below (f (p ∷ qs)))

pub witness_like : (ps : List (List Bytes)) (c : Children) → Like (witness_of ps c) (tree_of c)
unfolding witness_of
witness_like ps c = let cs : List Kept = kept_children (child_labels c) ps c in level_like (length cs) (child_labels c) ps c (children_like (child_labels c) ps c)

-- ---- its hashes

abbrev KeptHashes : Option Tree → Type 0
KeptHashes None = Unit {0}
KeptHashes (Some kept) = HasHashes kept

abbrev AllHashes : List Kept → Type 0
AllHashes [] = Unit {0}
AllHashes (c ∷ cs) = KeptHashes c.kept × Child c.whole × AllHashes cs

hashes_take : (n : ℕ) (cs : List Kept) → AllHashes cs → AllHashes (take n cs)
hashes_take zero cs h = tt
hashes_take (suc n) [] h = tt
hashes_take (suc n) (c ∷ cs) h = (h.0, h.1, hashes_take n cs h.2)

hashes_drop : (n : ℕ) (cs : List Kept) → AllHashes cs → AllHashes (drop n cs)
hashes_drop zero cs h = h
hashes_drop (suc n) [] h = tt
hashes_drop (suc n) (c ∷ cs) h = hashes_drop n cs h.2

all_whole : (cs : List Kept) → AllHashes cs → AllChild (wholes cs)
all_whole [] h = tt
all_whole (c ∷ cs) h = (h.1, all_whole cs h.2)

pruned_hashes : (cs : List Kept) → AllHashes cs → HasHashes (all_pruned cs)
pruned_hashes cs h = hash_length (forks (wholes cs)) (whole_hashes (forks (wholes cs)) (forks_are (wholes cs) (all_whole cs h)).whole)

kept_hashes : (n : ℕ) (cs : List Kept) → AllHashes cs → HasHashes (forks_of_kept n cs)
kept_hashes zero cs h = pruned_hashes cs h
kept_hashes (suc n) [] h = pruned_hashes [] h
kept_hashes (suc n) (c ∷ []) h = by c.kept h.0
  where
    by : (o : Option Tree) → KeptHashes o → HasHashes (elim o as (λ x. Tree) [ None ↦ all_pruned (c ∷ []) | Some t ↦ t ])
    by None s = pruned_hashes (c ∷ []) h
    by (Some t) s = s
kept_hashes (suc n) (c ∷ d ∷ cs) h = by (none_kept xs) (kept_hashes n (take (half xs) xs) (hashes_take (half xs) xs h)) (kept_hashes n (drop (half xs) xs) (hashes_drop (half xs) xs h))
  where
    xs : List Kept
    xs = c ∷ d ∷ cs

    by : (b : Bool) → HasHashes (forks_of_kept n (take (half (c ∷ d ∷ cs)) (c ∷ d ∷ cs))) → HasHashes (forks_of_kept n (drop (half (c ∷ d ∷ cs)) (c ∷ d ∷ cs)))
        → HasHashes (elim b as (λ x. Tree) [ true ↦ all_pruned (c ∷ d ∷ cs) | false ↦ fork (forks_of_kept n (take (half (c ∷ d ∷ cs)) (c ∷ d ∷ cs))) (forks_of_kept n (drop (half (c ∷ d ∷ cs)) (c ∷ d ∷ cs))) ])
    by true p q = pruned_hashes (c ∷ d ∷ cs) h
    by false p q = (p, q)

closed_hashes : (l : Bytes) (t : Tree) (b : Bool) → HasHashes t → KeptHashes (kept_closed l t b)
closed_hashes l t true h = hash_length t h
closed_hashes l t false h = tt

children_hashes : (ls : List Bytes) (ps : List (List Bytes)) (c : Children) → InOrder c → AllHashes (kept_children ls ps c)
unfolding tree_of
children_hashes ls ps none o = tt
children_hashes ls ps (leaf_at l v rest) o = (by (begins_some l ps), (all_children (leaf_at l v rest) o).0, children_hashes ls ps rest o.1)
  where
    by : (b : Bool) → KeptHashes (elim b as (λ x. Option Tree) [ true ↦ Some (labeled l (leaf v)) | false ↦ kept_closed l (leaf v) (is_neighbour ls ps l) ])
    by true = tt
    by false = closed_hashes l (leaf v) (is_neighbour ls ps l) tt
children_hashes ls ps (node_at l below rest) o = (by (going_on (rests l ps)) (λ qs. children_hashes (child_labels below) qs below o.1), (all_children (node_at l below rest) o).0, children_hashes ls ps rest o.2)
  where
    by : (rs : List (List Bytes)) → ((qs : List (List Bytes)) → AllHashes (kept_children (child_labels below) qs below)) → KeptHashes (elim rs as (λ x. Option Tree) [
      | [] ↦ kept_closed l (tree_of below) (begins_some l ps || is_neighbour ls ps l)
      | p ∷ qs ↦ Some (labeled l (under_forks (kept_children (child_labels below) (p ∷ qs) below)))
    ])
    by [] f = closed_hashes l (tree_of below) (begins_some l ps || is_neighbour ls ps l) (whole_hashes (tree_of below) (tree_good below o.1).0)
    by (p ∷ qs) f = let cs : List Kept = kept_children (child_labels below) (p ∷ qs) below in kept_hashes (length cs) cs (f (p ∷ qs))

pub witness_hashes : (ps : List (List Bytes)) (c : Children) → InOrder c → HasHashes (witness_of ps c)
unfolding witness_of
witness_hashes ps c o = let cs : List Kept = kept_children (child_labels c) ps c in kept_hashes (length cs) cs (children_hashes (child_labels c) ps c o)
