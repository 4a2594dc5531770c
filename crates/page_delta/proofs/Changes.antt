-- How nodes change: counts change, one node comes to a free key, or a place of one is set.
use Rattle.std.proofs.Common.{◌≡◌, ◌≢◌, ℕ, ◌+◌, ◌<◌, ◌≤◌, List, length, set, Option, Some, None}
use Rattle.page_delta.specs.declared.entry.Entry.{Entry}
use Rattle.page_delta.specs.declared.node.Node.{Node}
use Rattle.page_delta.specs.declared.node.Node.TheVariants.{Branch, Leaf}
use Rattle.page_delta.specs.Nodes.{node_at, child_in, count_in, level_in, width, node_with_count}

abbrev pub NodeList : Type 0
NodeList = List (Option Node)

-- each node has this count now
abbrev pub Recounts : NodeList → NodeList → (ℕ → ℕ) → Type 0
Recounts xs ys now = (m : ℕ) → node_at ys m ≡ node_with_count (node_at xs m) (now m)

-- each node is counted so many times more
abbrev pub Raises : NodeList → NodeList → (ℕ → ℕ) → Type 0
Raises xs ys more = Recounts xs ys (λ m. count_in (node_at xs m) + more m)

-- all nodes but one are as before
abbrev pub SameBut : ℕ → NodeList → NodeList → Type 0
SameBut key xs ys = (m : ℕ) → m ≢ key → node_at ys m ≡ node_at xs m

-- a node comes to a key that was free
pub record Puts (xs ys : NodeList) (key : ℕ) (node : Node) : Type 0 where
  pub gone : node_at xs key ≡ None
  pub here : node_at ys key ≡ Some node
  pub rest : SameBut key xs ys

-- a node that is counted once may stand above its children
pub record MayStand (xs : NodeList) (node : Node) : Type 0 where
  pub once : count_in (Some node) ≡ 1
  pub step : (d c : ℕ) → child_in (Some node) d ≡ Some c → level_in (Some node) ≡ level_in (node_at xs c) + 1
  pub high : (count level : ℕ) (kids : List (Option ℕ)) → node ≡ Branch count level kids → 0 < level
  pub wide : width node ≡ 32
  pub flat : level_in (Some node) ≤ 3

-- a branch has another child at a digit
pub record SetsChild (xs ys : NodeList) (key count level d child : ℕ) (kids : List (Option ℕ)) : Type 0 where
  pub here : node_at xs key ≡ Some (Branch count level kids)
  pub now : node_at ys key ≡ Some (Branch count level (set kids d (Some child)))
  pub rest : SameBut key xs ys
  pub below : d < length kids

-- a leaf has another entry at a place
pub record SetsEntry (xs ys : NodeList) (key count d : ℕ) (entry : Entry) (es : List (Option Entry)) : Type 0 where
  pub here : node_at xs key ≡ Some (Leaf count es)
  pub now : node_at ys key ≡ Some (Leaf count (set es d (Some entry)))
  pub rest : SameBut key xs ys
  pub below : d < length es
