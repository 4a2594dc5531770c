-- What maps are kept as: roots of trees. No public clause cites this module.
use Rattle.std.specs.Prelude.{⊤, ◌≡◌, ◌≢◌, ℕ, ◌+◌, ◌%◌, ◌^◌, ◌<◌, ◌≤◌, ◌==◌, List, length, Option, Some, None, IsSome, Result, Ok, Err, slice_index_or, count_by, is_some, if◌then◌else◌}
use Rattle.page_pool.specs.Pool.{Pool, count_at}
use Rattle.page_delta.specs.declared.roots.Root.{Root}
use Rattle.page_delta.specs.declared.entry.Entry.{Entry}
use Rattle.page_delta.specs.declared.node.Node.{Node}
use Rattle.page_delta.specs.Totals.{total}
use Rattle.page_delta.specs.Delta.{Pages, find, pages_in, pages_after, if_after, uses}
use Rattle.page_delta.specs.Nodes.{node_at, entry_in, count_in, level_in, once, with_child, look, part, pages_below}
use Rattle.page_delta.specs.Shared.{slots_in, IsShared, IsPlaced, IsCounted, KeepsBytes, KeepsPlaces, KeepsLevels, Stays, Differs, IsOwnLeaf}

-- the root at an id
abbrev pub root_at : List (Option Root) → ℕ → Option Root
root_at ids id = slice_index_or ids id None

-- the map of a root
abbrev pub map_below : List (Option Node) → Option Root → Option Pages
map_below nodes None = None
map_below nodes (Some root) = Some (pages_below nodes root.node)

-- one where a root is this node
abbrev pub roots : ℕ → Option Root → ℕ
roots key None = 0
roots key (Some root) = if root.node == key then 1 else 0

-- Each node is counted as often as nodes and ids name it, and each slot has one place. A root is three levels above the
-- leaves, and its pages are counted. Nodes and ids are few enough that no count reaches 2^32.
pub record AreSound (nodes : List (Option Node)) (ids : List (Option Root)) : Type 0 where
  pub shared : IsShared nodes (λ slot. total (slots_in slot) nodes) (λ key. total (roots key) ids) (λ slot. 0)
  pub placed : IsPlaced nodes
  pub tops : (id : ℕ) (root : Root) → root_at ids id ≡ Some root → level_in (node_at nodes root.node) ≡ 3
  pub sizes : (id : ℕ) (root : Root) → root_at ids id ≡ Some root → root.pages ≡ length (pages_below nodes root.node)
  pub few_nodes : count_by is_some nodes ≤ 2 ^ 26
  pub few_ids : count_by is_some ids ≤ 2 ^ 31

-- the slots are counted as often as leaf nodes and `loose` hold them
pub record IsHeld (nodes : List (Option Node)) (pool : Pool) (loose : ℕ → ℕ) : Type 0 where
  pub counts : (slot : ℕ) → count_at pool slot ≡ loose slot + total (slots_in slot) nodes
  pub counted : IsCounted pool

-- an id that was dead has a map, and nothing else has changed
pub record AddsRoot (old new : List (Option Node)) (old_ids new_ids : List (Option Root)) (id : ℕ) (pages : Pages) : Type 0 where
  pub fresh : root_at old_ids id ≡ None
  pub here : map_below new (root_at new_ids id) ≡ Some pages
  pub others : (other : ℕ) → other ≢ id → map_below new (root_at new_ids other) ≡ map_below old (root_at old_ids other)
  pub held : (slot : ℕ) → total (slots_in slot) new ≡ total (slots_in slot) old

-- an id that was dead has the map of another, and nothing else has changed
abbrev pub ForksRoot : List (Option Node) → List (Option Node) → List (Option Root) → List (Option Root) → ℕ → ℕ → Type 0
ForksRoot old new old_ids new_ids id fork =
    (root : Root) → root_at old_ids id ≡ Some root → AddsRoot old new old_ids new_ids fork (pages_below old root.node)

-- the tree of an id, whose root no other id has, has an entry at a page; `mid` are the nodes when that root was made
pub record PutsOwn (old new : List (Option Node)) (old_ids ids : List (Option Root)) (counts : ℕ → ℕ) (id page : ℕ) (entry : Entry) (before : Option Entry) : Type 0 where
  pub mid : List (Option Node)
  pub root : ℕ
  pub live : IsSome (root_at ids id)
  pub rooted : (r : Root) → root_at ids id ≡ Some r → r.node ≡ root
  pub kept : AreSound mid ids
  pub own : count_in (node_at mid root) ≡ 1
  pub maps : (other : ℕ) → map_below mid (root_at ids other) ≡ map_below old (root_at old_ids other)
  pub before_is : look 3 mid (Some root) page ≡ before
  pub differs : Differs 3 mid new root page entry
  pub levels : KeepsLevels mid new
  pub placed : IsPlaced new
  pub shared : IsShared new counts (λ key. total (roots key) ids) (λ slot. 0 + uses slot before)
  pub few : count_by is_some new ≤ 2 ^ 26

-- a map has an entry at a page, and nothing else has changed
pub record PutsAt (old new : List (Option Node)) (old_ids new_ids : List (Option Root)) (id page : ℕ) (entry : Entry) : Type 0 where
  pub live : IsSome (root_at new_ids id)
  pub found : (q : ℕ) → find q (pages_in (map_below new (root_at new_ids id))) ≡ (if q == page then Some entry else find q (pages_in (map_below old (root_at old_ids id))))
  pub others : (other : ℕ) → other ≢ id → map_below new (root_at new_ids other) ≡ map_below old (root_at old_ids other)

-- the leaf and the slot of a page, which no other map and no other place has
pub record IsOwnPlace (nodes : List (Option Node)) (ids : List (Option Root)) (pool : Pool) (id page leaf slot : ℕ) : Type 0 where
  pub root : Root
  pub root_is : root_at ids id ≡ Some root
  pub leaf_is : IsOwnLeaf nodes root.node page leaf
  pub entry : Entry
  pub entry_is : entry_in (node_at nodes leaf) (page % 32) ≡ Some entry
  pub slot_is : entry.slot ≡ slot
  pub once : count_at pool slot ≡ 1

-- the node of a kept tree, and how many pages it has
abbrev pub node_of : Option Root → Option ℕ
node_of None = None
node_of (Some root) = Some root.node

abbrev pub size_of : Option Root → ℕ
size_of None = 0
size_of (Some root) = root.pages

-- what was kept, if anything was
abbrev pub kept_of : {E : Type 0} → Result (Option Root) E → Option Root
kept_of (Ok kept) = kept
kept_of (Err error) = None

-- the key of the kept tree is below the mark for no child
abbrev pub IsSmall : Option Root → Type 0
IsSmall None = ⊤
IsSmall (Some root) = root.node + 1 < 2 ^ 32

-- the node with another child at a digit, if there is one
abbrev pub hung : Node → ℕ → Option ℕ → Node
hung node digit None = node
hung node digit (Some child) = with_child node digit child

-- a tree was added, which is in hand; all that was there stays
pub record KeepsTree (old new : List (Option Node)) (old_pool new_pool : Pool) (kept : Option ℕ) : Type 0 where
  pub shared : (hands loose : ℕ → ℕ) → IsShared old (count_at old_pool) hands loose → IsShared new (count_at new_pool) (λ m. hands m + once m kept) loose
  pub stays : Stays old new
  pub places : KeepsPlaces old new
  pub few : count_by is_some new ≤ 2 ^ 26
  pub counted : IsCounted new_pool
  pub keeps : KeepsBytes old_pool new_pool

-- a tree of this level has the entries of another with a stamp above the bound
pub record HasNewer (old new : List (Option Node)) (from level b : ℕ) (kept : Option Root) : Type 0 where
  pub level_is : (root : Root) → kept ≡ Some root → level_in (node_at new root.node) ≡ level
  pub looks : (page : ℕ) → look level new (node_of kept) page ≡ if_after b (look level old (Some from) page)
  pub pages : (prefix : ℕ) → size_of kept ≡ length (pages_after b (part level old (Some from) prefix 32))
  pub some : (root : Root) → kept ≡ Some root → level < 3 → 0 < root.pages

-- an id that was dead has the entries of another with a stamp above the bound, and nothing else has changed
pub record KeepsRoot (old new : List (Option Node)) (old_ids new_ids : List (Option Root)) (id kept b : ℕ) : Type 0 where
  pub fresh : root_at old_ids kept ≡ None
  pub live : IsSome (root_at new_ids kept)
  pub entries : (page : ℕ) → find page (pages_in (map_below new (root_at new_ids kept))) ≡ if_after b (find page (pages_in (map_below old (root_at old_ids id))))
  pub others : (other : ℕ) → other ≢ kept → map_below new (root_at new_ids other) ≡ map_below old (root_at old_ids other)
