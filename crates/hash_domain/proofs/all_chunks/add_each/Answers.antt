use Rattle.std.proofs.Common.{◌∙◌, ◌*◌, ap, arith, take, drop, ◌≡◌}
use Rattle.format_spec.specs.Hashes.{chunk_hash}
use Rattle.hash_domain.proofs.Counting.{first_more, cut_chunk}
use Rattle.hash_domain.proofs.all_chunks.add_each.Goals as goal

pub chunks-preserved : goal.chunks-preserved
chunks-preserved c so_far =
    let bytes = c.args.bytes.now in
    let i = c.chunks.i in
    let place : 1048576 * i ≡ i * 1048576 = omega arith in
    first_more c.chunks.hashes.items c.push.new.self.items c.chunk_hash.result bytes i c.in_ok-push.ensures.items
    (c.chunk_hash.ensures ∙ ap chunk_hash (cut_chunk bytes (1048576 * i) c.min-end.result c.min-end.ensures (omega arith) ∙ ap (λ n. take 1048576 (drop n bytes)) place))
    (c.chunks.invariant so_far)
