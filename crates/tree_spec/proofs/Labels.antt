-- One label of a path: a lookup goes on below it, or ends where it is missing.
use Rattle.std.proofs.Common.{◌≡◌, List, ◌∷◌, Option, Some, None, ap}
use Rattle.format_spec.specs.Bytes.{Bytes}
use Rattle.tree_spec.specs.Tree.{Tree, flatten}
use Rattle.tree_spec.specs.Lookup.{Looked, below_label, missing, lookup}

pub lookup_some : (l : Bytes) (path : List Bytes) (t x : Tree) → below_label l (flatten t) ≡ Some x → lookup (l ∷ path) t ≡ lookup path x
unfolding lookup
lookup_some l path t x p = ap (λ (o : Option Tree). elim o as (λ z. Looked) [ Some below ↦ lookup path below | None ↦ missing l (flatten t) ]) p

pub lookup_none : (l : Bytes) (path : List Bytes) (t : Tree) → below_label l (flatten t) ≡ None → lookup (l ∷ path) t ≡ missing l (flatten t)
unfolding lookup
lookup_none l path t p = ap (λ (o : Option Tree). elim o as (λ z. Looked) [ Some below ↦ lookup path below | None ↦ missing l (flatten t) ]) p
