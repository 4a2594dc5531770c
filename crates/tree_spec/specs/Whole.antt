-- What a tree has in it: no part as a hash, hashes of 32 bytes, strings of bytes.
use Rattle.std.specs.Prelude.{◌≡◌, length}
use Rattle.format_spec.specs.Bytes.{IsBytes}
use Rattle.format_spec.specs.declared.limits.TheConstants.{HASH_SIZE}
use Rattle.tree_spec.specs.Tree.{Tree, empty, fork, labeled, leaf, pruned}

-- no part stands as its hash
abbrev pub IsWhole : Tree → Type 0
IsWhole empty = Unit {0}
IsWhole (fork left right) = IsWhole left × IsWhole right
IsWhole (labeled label below) = IsWhole below
IsWhole (leaf bytes) = Unit {0}
IsWhole (pruned hash) = ⊥

-- a part that stands as its hash has a whole hash
abbrev pub HasHashes : Tree → Type 0
HasHashes empty = Unit {0}
HasHashes (fork left right) = HasHashes left × HasHashes right
HasHashes (labeled label below) = HasHashes below
HasHashes (leaf bytes) = Unit {0}
HasHashes (pruned hash) = length hash ≡ HASH_SIZE

-- all strings in it are of bytes
abbrev pub IsByteTree : Tree → Type 0
IsByteTree empty = Unit {0}
IsByteTree (fork left right) = IsByteTree left × IsByteTree right
IsByteTree (labeled label below) = IsBytes label × IsByteTree below
IsByteTree (leaf bytes) = IsBytes bytes
IsByteTree (pruned hash) = IsBytes hash
