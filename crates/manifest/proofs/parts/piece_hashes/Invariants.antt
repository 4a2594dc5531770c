use Rattle.std.proofs.Common.{◌≡◌, ◌++◌, map}
use Rattle.std.specs.Slice.Iter.{chunks_rest, chunks_size}
use Rattle.format_spec.specs.Bytes.{parts}
use Rattle.format_spec.specs.Hashes.{piece_hash}
use Rattle.manifest.proofs.parts.piece_hashes.Given as goal

abbrev pub invariant-loop-piece : goal.invariant-loop-piece
invariant-loop-piece l =
    (goal.iterator-loop-piece).can_next l.piece-iterator × (goal.iterator-loop-piece).is_finite l.piece-iterator
    × (chunks_size l.piece-iterator ≡ 4096)
    × (l.hashes.items ++ map piece_hash (parts 4096 (chunks_rest l.piece-iterator)) ≡ map piece_hash (parts 4096 l.fn.text))
