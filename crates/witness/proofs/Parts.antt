-- The part of a tree, by its cases.
use Rattle.std.proofs.Common.{◌≡◌, Bool, true, false, ◌==◌, List, [], ◌∷◌, length, map, filter, None, Result, IfOk, refl, sym, subst, arith}
use Rattle.std.proofs.lemmas.Bool.{eqb-true}
use Rattle.format_spec.specs.Bytes.{Bytes}
use Rattle.tree_spec.specs.Tree.{Tree, empty, fork, labeled, leaf, pruned, reconstruct}
use Rattle.tree_spec.specs.Witness.{rests, going_on}
use Rattle.witness.specs.Parts.{part, begins_between, first_in, last_in, reached_bytes, over_leaf}

pub part_none : (t : Tree) → part t [] ≡ pruned (reconstruct t)
unfolding part
part_none empty = refl
part_none (fork l r) = refl
part_none (labeled k t) = refl
part_none (leaf b) = refl
part_none (pruned h) = refl

-- a tree without labels
abbrev pub is_bare : Tree → Bool
is_bare empty = true
is_bare (fork l r) = false
is_bare (labeled k t) = false
is_bare (leaf b) = true
is_bare (pruned h) = true

pub part_bare : (t : Tree) (ps : List (List Bytes)) → is_bare t ≡ true → part t ps ≡ pruned (reconstruct t)
unfolding part reconstruct
part_bare t [] h = part_none t
part_bare empty (p ∷ ps) h = refl
part_bare (fork l r) (p ∷ ps) h = absurd cc
part_bare (labeled k t) (p ∷ ps) h = absurd cc
part_bare (leaf b) (p ∷ ps) h = refl
part_bare (pruned b) (p ∷ ps) h = refl

abbrev pub is_some_list : List (List Bytes) → Bool
is_some_list [] = false
is_some_list (p ∷ ps) = true

pub part_fork : (l r : Tree) (ps : List (List Bytes)) → is_some_list ps ≡ true
    → part (fork l r) ps ≡ fork (part l (filter (begins_between None (first_in r)) ps)) (part r (filter (begins_between (last_in l) None) ps))
unfolding part
part_fork l r [] h = absurd cc
part_fork l r (p ∷ ps) h = refl

pub part_labeled : (k : Bytes) (t : Tree) (ps : List (List Bytes)) → is_some_list ps ≡ true
    → part (labeled k t) ps ≡ labeled k (over_leaf (reached_bytes k t ps) (part t (going_on (rests k ps))))
unfolding part
part_labeled k t [] h = absurd cc
part_labeled k t (p ∷ ps) h = refl

-- no path, or some
pub part_nothing : {X : Type 0} (now : X → List Bytes) (t : Tree) (xs : List X) → true ≡ (length xs == 0) → part t (map now xs) ≡ pruned (reconstruct t)
part_nothing now t [] h = part_none t
part_nothing now t (x ∷ xs) h = absurd (omega (arith, eqb-true (length (x ∷ xs)) 0 (sym h)))

pub some_paths : {X : Type 0} (now : X → List Bytes) (xs : List X) → false ≡ (length xs == 0) → is_some_list (map now xs) ≡ true
some_paths now [] h = absurd cc
some_paths now (x ∷ xs) h = refl

-- what was made, where the trees are the same
pub ok_then : {X E : Type 0} (view : X → Tree) (a b : Tree) (r : Result X E) → a ≡ b → IfOk r (λ t. view t ≡ a) → IfOk r (λ t. view t ≡ b)
ok_then view a b r e h = subst (λ (t : Tree). IfOk r (λ x. view x ≡ t)) e h
