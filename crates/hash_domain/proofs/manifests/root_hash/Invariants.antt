use Rattle.std.proofs.Common.{◌++◌, length, take}
use Rattle.std.specs.List.{flat_map}
use Rattle.std.specs.Prelude.{codes}
use Rattle.sha2.specs.Hashers.{Holds256}
use Rattle.format_spec.specs.Bytes.{Bytes, be32, short_string}
use Rattle.hash_domain.proofs.manifests.root_hash.Given as goal

abbrev pub invariant-loop-piece : goal.invariant-loop-piece
invariant-loop-piece l = Holds256 l.hasher (short_string (codes "ic-state-meta-manifest") ++ (be32 l.version ++ be32 (length l.pieces) ++ flat_map (λ (hash : Bytes). hash) (take l.piece-index l.pieces)))
