use Rattle.std.proofs.Common.{◌∙◌}
use Rattle.hash_domain.proofs.Summing.{each_hashed}
use Rattle.hash_domain.proofs.sums.all_sums.Goals as goal

pub returns : goal.returns
returns c =
    each_hashed c.hashes.sums.items c.deref-hash-items.result.now c.hashes.hash-index c.args.bytes.now c.hashes-test.false
    (c.deref-hash-items.ensures.value ∙ c.in_ok-hashes.ensures) c.hashes.invariant
