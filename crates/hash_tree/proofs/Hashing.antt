-- The hash of a whole tree among the hashes of its parts.
use Rattle.std.proofs.Common.{◌≡◌}
use Rattle.format_spec.specs.Bytes.{Bytes}
use Rattle.tree_spec.specs.Tree.{Tree, empty, fork, labeled, leaf, pruned, reconstruct}
use Rattle.hash_tree.specs.declared.hashes.TreeHashes.{TreeHashes, Alone, Fork', Labeled'}
use Rattle.hash_tree.specs.Hashes.{AreHashesOf}

abbrev pub first_hash : TreeHashes → Bytes
first_hash (Alone hash) = hash
first_hash (Fork' hash p left q right) = hash
first_hash (Labeled' hash p below) = hash

pub first_is : (hashes : TreeHashes) (t : Tree) → AreHashesOf hashes t → first_hash hashes ≡ reconstruct t
unfolding reconstruct
first_is (Alone hash) empty h = h
first_is (Alone hash) (fork l r) h = absurd h
first_is (Alone hash) (labeled l t) h = absurd h
first_is (Alone hash) (leaf bytes) h = h
first_is (Alone hash) (pruned k) h = h
first_is (Fork' hash p left q right) empty h = absurd h
first_is (Fork' hash p left q right) (fork l r) h = h.0
first_is (Fork' hash p left q right) (labeled l t) h = absurd h
first_is (Fork' hash p left q right) (leaf bytes) h = absurd h
first_is (Fork' hash p left q right) (pruned k) h = absurd h
first_is (Labeled' hash p below) empty h = absurd h
first_is (Labeled' hash p below) (fork l r) h = absurd h
first_is (Labeled' hash p below) (labeled l t) h = h.0
first_is (Labeled' hash p below) (leaf bytes) h = absurd h
first_is (Labeled' hash p below) (pruned k) h = absurd h
