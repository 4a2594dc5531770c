use Rattle.std.proofs.Common.{◌*◌, min, length}
use Rattle.format_spec.specs.Bytes.{part_count}
use Rattle.hash_domain.specs.Counted.{HasFirst}
use Rattle.hash_domain.proofs.all_chunks.chunk_hashes.Given as goal

abbrev pub invariant-groups : goal.invariant-groups
invariant-groups l = HasFirst l.hashes.items l.bytes (min (8 * l.group) (part_count 1048576 (length l.bytes)))
