use Rattle.std.proofs.Common.{◌≡◌, ◌++◌, map}
use Rattle.std.specs.Slice.Iter.{chunks_rest, chunks_size}
use Rattle.format_spec.specs.Bytes.{parts}
use Rattle.state_spec.specs.Manifest.{sum_of}
use Rattle.hash_domain.proofs.sums.some_sums.Given as goal

abbrev pub invariant-chunks : goal.invariant-chunks
invariant-chunks l =
    (goal.iterator-chunks).can_next l.chunk-iterator × (goal.iterator-chunks).is_finite l.chunk-iterator
    × (chunks_size l.chunk-iterator ≡ 1048576)
    × (l.sums.items ++ map (sum_of l.fn.version) (parts 1048576 (chunks_rest l.chunk-iterator)) ≡ map (sum_of l.fn.version) (parts 1048576 l.fn.bytes))
