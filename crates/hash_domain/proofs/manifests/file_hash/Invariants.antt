use Rattle.std.proofs.Common.{◌++◌, length, take}
use Rattle.std.specs.List.{flat_map}
use Rattle.sha2.specs.Hashers.{Holds256}
use Rattle.format_spec.specs.Bytes.{be32, short_string}
use Rattle.format_spec.specs.Hashes.{chunk_sum_text}
use Rattle.std.specs.Prelude.{codes}
use Rattle.hash_domain.proofs.manifests.file_hash.Given as goal

abbrev pub invariant-loop-chunk : goal.invariant-loop-chunk
invariant-loop-chunk l = Holds256 l.hasher (short_string (codes "ic-state-file") ++ (be32 (length l.chunks) ++ flat_map chunk_sum_text (take l.chunk-index l.chunks)))
