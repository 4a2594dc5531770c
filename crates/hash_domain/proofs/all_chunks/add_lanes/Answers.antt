use Rattle.std.proofs.Common.{◌∙◌, ◌+◌, arith, slice_index}
use Rattle.hash_lanes.specs.Lanes.{lane}
use Rattle.hash_domain.proofs.Counting.{first_more, first_at, digest_is}
use Rattle.hash_domain.proofs.all_chunks.add_lanes.Goals as goal

pub lanes-preserved : goal.lanes-preserved
lanes-preserved c so_far =
    let bytes = c.args.bytes.now in
    let j = c.lanes.j in
    let i = c.args.first + j in
    first_at c.push.new.self.items bytes (i + 1) (c.args.first + (j + 1)) (omega arith)
    (first_more c.lanes.hashes.items c.push.new.self.items c.digest.result bytes i c.in_ok-push.ensures.items
    (c.digest.ensures
    ∙ digest_is (lane j c.hash_chunks-state.result) bytes (slice_index c.starts-starts.result j) i (c.hash_chunks-state.ensures j (omega arith)) (c.starts-starts.ensures.value j c.lanes-test.true))
    (c.lanes.invariant so_far))
