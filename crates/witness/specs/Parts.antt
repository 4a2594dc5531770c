-- The part of a tree that shows what stands at some paths: one walk, with the paths that concern a side of a fork.
use Rattle.std.specs.Prelude.{◌&&◌, Bool, true, false, List, [], ◌∷◌, filter, Option, Some, None, if◌then◌else◌}
use Rattle.format_spec.specs.Bytes.{Bytes, bytes_cmp, bytes_below, is_after}
use Rattle.tree_spec.specs.Tree.{Tree, empty, fork, labeled, leaf, pruned, reconstruct}
use Rattle.tree_spec.specs.Witness.{rest_behind, rests, is_some_path, going_on, begins_some}

abbrev pub first_of : Option Bytes → Option Bytes → Option Bytes
first_of None o = o
first_of (Some l) o = Some l

-- the first label of a level
abbrev pub first_in : Tree → Option Bytes
first_in empty = None
first_in (fork left right) = first_of (first_in left) (first_in right)
first_in (labeled label below) = Some label
first_in (leaf bytes) = None
first_in (pruned hash) = None

-- the last one
abbrev pub last_in : Tree → Option Bytes
last_in empty = None
last_in (fork left right) = first_of (last_in right) (last_in left)
last_in (labeled label below) = Some label
last_in (leaf bytes) = None
last_in (pruned hash) = None

abbrev pub is_under : Option Bytes → Bytes → Bool
is_under None l = true
is_under (Some k) l = bytes_below l k

-- a path that begins between these labels
abbrev pub begins_between : Option Bytes → Option Bytes → List Bytes → Bool
begins_between low high [] = false
begins_between low high (l ∷ path) = is_after bytes_cmp low l && is_under high l

-- it begins with this label, and something is left behind
abbrev pub is_some_rest : Option (List Bytes) → Bool
is_some_rest None = false
is_some_rest (Some path) = is_some_path path

abbrev pub goes_on : Bytes → List Bytes → Bool
goes_on l path = is_some_rest (rest_behind l path)

-- the bytes of a leaf that a path reaches, or would pass through
abbrev pub reached_bytes : Bytes → Tree → List (List Bytes) → Option Bytes
reached_bytes l empty paths = None
reached_bytes l (fork left right) paths = None
reached_bytes l (labeled label below) paths = None
reached_bytes l (leaf bytes) paths = if begins_some l paths then Some bytes else None
reached_bytes l (pruned hash) paths = None

abbrev pub over_leaf : Option Bytes → Tree → Tree
over_leaf None t = t
over_leaf (Some bytes) t = leaf bytes

unfoldable pub part : Tree → List (List Bytes) → Tree
part t [] = pruned (reconstruct t)
part empty (p ∷ ps) = pruned (reconstruct empty)
part (fork left right) (p ∷ ps) =
    fork
    (part left (filter (begins_between None (first_in right)) (p ∷ ps)))
    (part right (filter (begins_between (last_in left) None) (p ∷ ps)))
part (labeled label below) (p ∷ ps) =
    labeled label (over_leaf (reached_bytes label below (p ∷ ps)) (part below (going_on (rests label (p ∷ ps)))))
part (leaf bytes) (p ∷ ps) = pruned (reconstruct (leaf bytes))
part (pruned hash) (p ∷ ps) = pruned hash
