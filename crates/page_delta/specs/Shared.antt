-- What trees that share their nodes keep true. No public clause cites this module.
use Rattle.std.specs.Prelude.{◌≡◌, ◌≢◌, ℕ, zero, suc, ◌+◌, ◌/◌, ◌%◌, ◌^◌, ◌<◌, ◌≤◌, List, length, Option, Some, None, IsSome, count_by, is_some, slice_index_or}
use Rattle.slab.specs.Slab.{Slab, slab_len}
use Rattle.page_pool.specs.Pool.{Pool, count_at, bytes_at, IsLive as IsLiveSlot}
use Rattle.page_delta.specs.Delta.{uses, uses_in, pages_after, if_after}
use Rattle.page_delta.specs.Totals.{total}
use Rattle.page_delta.specs.Nodes.{node_at, child_in, entry_in, count_in, level_in, width, names, leaf_of, look, leaf_part}
use Rattle.page_delta.specs.declared.entry.Entry.{Entry}
use Rattle.page_delta.specs.declared.node.Node.{Node}
use Rattle.page_delta.specs.declared.node.Node.TheVariants.{Branch, Leaf}

abbrev pub slots_in : ℕ → Option Node → ℕ
slots_in slot node = uses_in slot (leaf_of node)

-- The level falls by one from a node to its children, from at most 3. A node's count, which is above 0, is how often `hands` and other nodes name it,
-- and `counts` of a slot is how often `loose` and leaf nodes name it.
pub record IsShared (nodes : List (Option Node)) (counts hands loose : ℕ → ℕ) : Type 0 where
  pub steps : (key digit child : ℕ) → child_in (node_at nodes key) digit ≡ Some child → level_in (node_at nodes key) ≡ level_in (node_at nodes child) + 1
  pub tall : (key count level : ℕ) (children : List (Option ℕ)) → node_at nodes key ≡ Some (Branch count level children) → 0 < level
  pub wide : (key : ℕ) (node : Node) → node_at nodes key ≡ Some node → width node ≡ 32
  pub flat : (key : ℕ) → level_in (node_at nodes key) ≤ 3
  pub alive : (key : ℕ) → IsSome (node_at nodes key) → 0 < count_in (node_at nodes key)
  pub counted : (key : ℕ) → count_in (node_at nodes key) ≡ hands key + total (names key) nodes
  pub held : (slot : ℕ) → counts slot ≡ loose slot + total (slots_in slot) nodes

-- where the slot of one entry was counted loose, that of another is
abbrev pub SwapsEntry : List (Option Node) → List (Option Node) → (ℕ → ℕ) → (ℕ → ℕ) → Option Entry → Option Entry → Type 0
SwapsEntry old new old_counts new_counts before now =
    (hands loose : ℕ → ℕ) → IsShared old old_counts hands (λ slot. loose slot + uses slot before) → IsShared new new_counts hands (λ slot. loose slot + uses slot now)

-- no leaf has the slot at another place
abbrev pub StandsAt : List (Option Node) → ℕ → ℕ → Type 0
StandsAt nodes slot place =
    (key digit : ℕ) (entry : Entry) → entry_in (node_at nodes key) digit ≡ Some entry → entry.slot ≡ slot → digit ≡ place

-- each slot has a place, the same in all leaves that have the slot
abbrev pub IsPlaced : List (Option Node) → Type 0
IsPlaced nodes = (slot : ℕ) → (place : ℕ) × StandsAt nodes slot place

-- no slot comes to another place
abbrev pub KeepsPlaces : List (Option Node) → List (Option Node) → Type 0
KeepsPlaces old new = (slot place : ℕ) → StandsAt old slot place → StandsAt new slot place

-- each live slot is counted
abbrev pub IsCounted : Pool → Type 0
IsCounted pool = (slot : ℕ) → IsLiveSlot pool slot → 0 < count_at pool slot

-- all that was there reads as before
abbrev pub SameLooks : List (Option Node) → List (Option Node) → Type 0
SameLooks old new = (level key page : ℕ) → IsSome (node_at old key) → look level new (Some key) page ≡ look level old (Some key) page

-- what is counted was so before, and has its bytes
abbrev pub KeepsBytes : Pool → Pool → Type 0
KeepsBytes old new = (slot : ℕ) → 0 < count_at new slot → (0 < count_at old slot) × (bytes_at new slot ≡ bytes_at old slot)

-- each child is there
abbrev pub IsClosed : List (Option Node) → Type 0
IsClosed nodes = (key digit child : ℕ) → child_in (node_at nodes key) digit ≡ Some child → IsSome (node_at nodes child)

-- nodes and pool stand as trees that share their nodes, and are few enough that no count is too large
pub record Stands (nodes : List (Option Node)) (pool : Pool) : Type 0 where
  pub hands : ℕ → ℕ
  pub loose : ℕ → ℕ
  pub shared : IsShared nodes (count_at pool) hands loose
  pub few_hands : (key : ℕ) → hands key ≤ 2 ^ 32
  pub few_loose : (slot : ℕ) → loose slot ≤ 2 ^ 16
  pub few : count_by is_some nodes ≤ 2 ^ 26
  pub counted : IsCounted pool

-- what was there is there, on its level
abbrev pub KeepsLevels : List (Option Node) → List (Option Node) → Type 0
KeepsLevels old new = (key : ℕ) → IsSome (node_at old key) → IsSome (node_at new key) × (level_in (node_at new key) ≡ level_in (node_at old key))

-- what is still there was there, with the same places
pub record Shrinks (old new : List (Option Node)) : Type 0 where
  pub was : (key : ℕ) → IsSome (node_at new key) → IsSome (node_at old key)
  pub level : (key : ℕ) → IsSome (node_at new key) → level_in (node_at new key) ≡ level_in (node_at old key)
  pub child : (key digit : ℕ) → IsSome (node_at new key) → child_in (node_at new key) digit ≡ child_in (node_at old key) digit
  pub entry : (key digit : ℕ) → IsSome (node_at new key) → entry_in (node_at new key) digit ≡ entry_in (node_at old key) digit

-- what was there is there, with the same places
pub record Stays (old new : List (Option Node)) : Type 0 where
  pub live : (key : ℕ) → IsSome (node_at old key) → IsSome (node_at new key)
  pub level : (key : ℕ) → IsSome (node_at old key) → level_in (node_at new key) ≡ level_in (node_at old key)
  pub child : (key digit : ℕ) → IsSome (node_at old key) → child_in (node_at new key) digit ≡ child_in (node_at old key) digit
  pub entry : (key digit : ℕ) → IsSome (node_at old key) → entry_in (node_at new key) digit ≡ entry_in (node_at old key) digit

-- a leaf, counted once, has the entries at the first so many places of a node whose stamp is above the bound, so many of them
pub record IsNewer (b : ℕ) (node leaf : Node) (pages digits : ℕ) : Type 0 where
  pub entries : List (Option Entry)
  pub is : leaf ≡ Leaf 1 entries
  pub wide : length entries ≡ 32
  pub has : (digit : ℕ) → digit < digits → slice_index_or entries digit None ≡ if_after b (entry_in (Some node) digit)
  pub rest : (digit : ℕ) → digits ≤ digit → slice_index_or entries digit None ≡ None
  pub few : pages ≤ digits
  pub counted : (prefix : ℕ) → pages ≡ length (pages_after b (leaf_part (Some node) prefix digits))
  pub none : pages ≡ 0 → (digit : ℕ) → slice_index_or entries digit None ≡ None

-- so many values more, and no memory taken
pub record Grows (old new : Slab Node) (more : ℕ) : Type 0 where
  pub len : slab_len new ≤ slab_len old + more
  pub capacity : new.capacity ≡ old.capacity

-- the pages have the same digits from this level down
abbrev pub Agrees : ℕ → ℕ → ℕ → Type 0
Agrees zero p q = p % 32 ≡ q % 32
Agrees (suc level) p q = ((p / 32 ^ suc level) % 32 ≡ (q / 32 ^ suc level) % 32) × Agrees level p q

-- the tree of a node has an entry at a page, and all else as before
pub record Differs (level : ℕ) (xs ys : List (Option Node)) (n p : ℕ) (e : Entry) : Type 0 where
  pub there : (q : ℕ) → Agrees level p q → look level ys (Some n) q ≡ Some e
  pub apart : (q : ℕ) → (Agrees level p q → ⊥) → look level ys (Some n) q ≡ look level xs (Some n) q
  pub others : (m q : ℕ) → level_in (node_at xs m) ≡ level → IsSome (node_at xs m) → m ≢ n → look level ys (Some m) q ≡ look level xs (Some m) q

-- a branch has this child at a digit, which only it names; nothing reads otherwise
pub record Owned (xs ys : List (Option Node)) (parent d child : ℕ) : Type 0 where
  pub child_is : child_in (node_at ys parent) d ≡ Some child
  pub own : count_in (node_at ys child) ≡ 1
  pub count : count_in (node_at ys parent) ≡ count_in (node_at xs parent)
  pub levels : KeepsLevels xs ys
  pub above : (m : ℕ) → level_in (node_at xs parent) ≤ level_in (node_at xs m) → m ≢ parent → node_at ys m ≡ node_at xs m
  pub looks : SameLooks xs ys
  pub places : KeepsPlaces xs ys

-- the leaf of a page in the tree of a root, where it and each node on the way to it are counted once
pub record IsOwnLeaf (nodes : List (Option Node)) (root page leaf : ℕ) : Type 0 where
  pub upper : ℕ
  pub lower : ℕ
  pub upper_is : child_in (node_at nodes root) ((page / 32768) % 32) ≡ Some upper
  pub lower_is : child_in (node_at nodes upper) ((page / 1024) % 32) ≡ Some lower
  pub leaf_is : child_in (node_at nodes lower) ((page / 32) % 32) ≡ Some leaf
  pub own_root : count_in (node_at nodes root) ≡ 1
  pub own_upper : count_in (node_at nodes upper) ≡ 1
  pub own_lower : count_in (node_at nodes lower) ≡ 1
  pub own_leaf : count_in (node_at nodes leaf) ≡ 1

-- an entry, whose slot was counted loose, was put at a page of a tree, and the slot of what was there is counted loose
pub record Inserts (old new : List (Option Node)) (old_pool new_pool : Pool) (root page : ℕ) (entry : Entry) : Type 0 where
  pub shared : SwapsEntry old new (count_at old_pool) (count_at new_pool) (Some entry) (look 3 old (Some root) page)
  pub differs : Differs 3 old new root page entry
  pub placed : IsPlaced old → StandsAt old entry.slot (page % 32) → IsPlaced new
  pub levels : KeepsLevels old new
