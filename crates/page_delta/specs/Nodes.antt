-- Nodes, and what their trees have. No public clause cites this module.
use Rattle.std.specs.Prelude.{ℕ, zero, suc, ◌+◌, ◌*◌, ◌/◌, ◌%◌, ◌^◌, ◌==◌, List, [], ◌∷◌, length, Option, Some, None, slice_index_or, slice_set, if◌then◌else◌, replicate}
use Rattle.slab.specs.Slab.{Slab}
use Rattle.page_delta.specs.Delta.{Pages}
use Rattle.page_delta.specs.Totals.{total}
use Rattle.page_delta.specs.declared.entry.Entry.{Entry}
use Rattle.page_delta.specs.declared.node.Node.{Node}
use Rattle.page_delta.specs.declared.node.Node.TheVariants.{Branch, Leaf}

-- the node at a key
abbrev pub node_at : List (Option Node) → ℕ → Option Node
node_at nodes key = slice_index_or nodes key None

abbrev pub child_in : Option Node → ℕ → Option ℕ
child_in None digit = None
child_in (Some (Branch count level children)) digit = slice_index_or children digit None
child_in (Some (Leaf count entries)) digit = None

abbrev pub entry_in : Option Node → ℕ → Option Entry
entry_in None digit = None
entry_in (Some (Branch count level children)) digit = None
entry_in (Some (Leaf count entries)) digit = slice_index_or entries digit None

abbrev pub count_in : Option Node → ℕ
count_in None = 0
count_in (Some (Branch count level children)) = count
count_in (Some (Leaf count entries)) = count

abbrev pub level_in : Option Node → ℕ
level_in None = 0
level_in (Some (Branch count level children)) = level
level_in (Some (Leaf count entries)) = 0

abbrev pub recount : Node → ℕ → Node
recount (Branch count level children) now = Branch now level children
recount (Leaf count entries) now = Leaf now entries

-- the node with another count
abbrev pub node_with_count : Option Node → ℕ → Option Node
node_with_count None now = None
node_with_count (Some node) now = Some (recount node now)

abbrev pub with_child : Node → ℕ → ℕ → Node
with_child (Branch count level children) digit child = Branch count level (slice_set children digit (Some child))
with_child (Leaf count entries) digit child = Leaf count entries

abbrev pub with_entry : Node → ℕ → Entry → Node
with_entry (Branch count level children) digit entry = Branch count level children
with_entry (Leaf count entries) digit entry = Leaf count (slice_set entries digit (Some entry))

-- a node with nothing in it, counted once
abbrev pub empty_node : ℕ → Node
empty_node level =
    if level == 0 then Leaf 1 (replicate 32 None) else Branch 1 level (replicate 32 None)

-- how many places a node has
abbrev pub width : Node → ℕ
width (Branch count level children) = length children
width (Leaf count entries) = length entries

-- one where the place names the key
abbrev pub once : ℕ → Option ℕ → ℕ
once key None = 0
once key (Some child) = if child == key then 1 else 0

-- how often a node names another as a child
abbrev pub names : ℕ → Option Node → ℕ
names key None = 0
names key (Some (Branch count level children)) = total (once key) children
names key (Some (Leaf count entries)) = 0

-- the places of a leaf
abbrev pub leaf_of : Option Node → Option (List (Option Entry))
leaf_of None = None
leaf_of (Some (Branch count level children)) = None
leaf_of (Some (Leaf count entries)) = Some entries

-- what a tree has at a page: each level above the leaves takes one digit to base 32
abbrev pub look : ℕ → List (Option Node) → Option ℕ → ℕ → Option Entry
look level nodes None page = None
look zero nodes (Some key) page = entry_in (node_at nodes key) (page % 32)
look (suc level) nodes (Some key) page =
    look level nodes (child_in (node_at nodes key) ((page / 32 ^ suc level) % 32)) page

abbrev pub entry_and_rest : ℕ → Option Entry → Pages → Pages
entry_and_rest page None rest = rest
entry_and_rest page (Some entry) rest = (page, entry) ∷ rest

-- the pairs of a function at so many numbers from one on
unfoldable pub pairs_from : ℕ → ℕ → (ℕ → Option Entry) → Pages
pairs_from zero start at = []
pairs_from (suc n) start at = entry_and_rest start (at start) (pairs_from n (start + 1) at)

-- the map of a tree
unfoldable pub pages_below : List (Option Node) → ℕ → Pages
pages_below nodes key = pairs_from (2 ^ 20) 0 (look 3 nodes (Some key))

-- the map of a leaf at its first so many places, where `prefix` is what the digits above it spell
unfoldable pub leaf_part : Option Node → ℕ → ℕ → Pages
leaf_part node prefix digits = pairs_from digits (prefix * 32) (λ page. entry_in node (page % 32))

-- the map of a tree at the first so many places of its top, where `prefix` is what the digits above it spell
unfoldable pub part : ℕ → List (Option Node) → Option ℕ → ℕ → ℕ → Pages
part level nodes key prefix digits = pairs_from (digits * 32 ^ level) (prefix * 32 ^ suc level) (look level nodes key)

-- the slab with a node, or none, at a key
abbrev pub with_node : Slab Node → ℕ → Option Node → Slab Node
with_node nodes key node = record nodes { slots = slice_set nodes.slots key node }
