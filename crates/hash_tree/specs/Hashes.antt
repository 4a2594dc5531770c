-- The hashes of a tree and of each of its parts.
use Rattle.std.specs.Prelude.{◌≡◌}
use Rattle.format_spec.specs.Bytes.{Bytes}
use Rattle.tree_spec.specs.Tree.{Tree, empty, fork, labeled, leaf, pruned, reconstruct}
use Rattle.hash_tree.specs.declared.hashes.TreeHashes.{TreeHashes, Alone, Fork', Labeled'}

-- each hash is that of the part in its place
abbrev pub AreHashesOf : TreeHashes → Tree → Type 0
AreHashesOf (Alone hash) empty = hash ≡ reconstruct empty
AreHashesOf (Alone hash) (fork left right) = ⊥
AreHashesOf (Alone hash) (labeled label below) = ⊥
AreHashesOf (Alone hash) (leaf bytes) = hash ≡ reconstruct (leaf bytes)
AreHashesOf (Alone hash) (pruned h) = hash ≡ h
AreHashesOf (Fork' hash p left q right) (fork l r) =
    (hash ≡ reconstruct (fork l r)) × AreHashesOf left l × AreHashesOf right r
AreHashesOf (Fork' hash p left q right) _ = ⊥
AreHashesOf (Labeled' hash p below) (labeled l t) = (hash ≡ reconstruct (labeled l t)) × AreHashesOf below t
AreHashesOf (Labeled' hash p below) _ = ⊥

-- they are those of two trees side by side
abbrev pub AreOfFork : TreeHashes → Type 0
AreOfFork hashes = (l : Tree) × (r : Tree) × AreHashesOf hashes (fork l r)

-- they are those of a tree below a label
abbrev pub AreOfLabeled : TreeHashes → Type 0
AreOfLabeled hashes = (l : Bytes) × (t : Tree) × AreHashesOf hashes (labeled l t)
