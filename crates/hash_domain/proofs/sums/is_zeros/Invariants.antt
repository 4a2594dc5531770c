use Rattle.std.proofs.Common.{◌≡◌}
use Rattle.std.specs.Slice.Iter.{chunks_rest}
use Rattle.state_spec.specs.Manifest.{is_zeros}
use Rattle.hash_domain.proofs.sums.is_zeros.Given as goal

abbrev pub invariant-runs : goal.invariant-runs
invariant-runs l =
    (goal.iterator-runs).can_next l.run-iterator × (goal.iterator-runs).is_finite l.run-iterator
    × (is_zeros (chunks_rest l.run-iterator) ≡ is_zeros l.fn.bytes)
