use Rattle.std.proofs.Common.{◌≡◌, ◌++◌, take, length}
use Rattle.std.specs.List.{flat_map}
use Rattle.format_spec.specs.Bytes.{Bytes, be32}
use Rattle.manifest.proofs.meta.MetaManifest.encode.Given as goal

abbrev pub invariant-loop-hash : goal.invariant-loop-hash
invariant-loop-hash l = l.out ≡ (be32 l.self.version ++ be32 (length l.self.pieces)) ++ flat_map (λ (hash : Bytes). hash) (take l.hash-index l.self.pieces)
