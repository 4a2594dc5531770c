use Rattle.std.proofs.Common.{◌≡◌, ◌==◌, take}
use Rattle.state_spec.specs.Manifest.{is_zeros}
use Rattle.hash_domain.proofs.sums.joined.Given as goal

abbrev pub invariant-bytes : goal.invariant-bytes
invariant-bytes l = (l.all == 0) ≡ is_zeros (take l.byte-index l.run)
