use Rattle.std.proofs.Common.{ap, ◌∙◌}
use Rattle.format_spec.specs.Bytes.{be32, be64}
use Rattle.format_spec.specs.Hashes.{ChunkSum}
use Rattle.hash_domain.proofs.Feeding.{fed_sum}
use Rattle.hash_domain.proofs.manifests.add_sum.Goals as goal

pub returns : goal.returns
returns c m holds =
    fed_sum c.update-3.new.self m c.to_be_bytes.result c.to_be_bytes-2.result c.bytes.result.now c.args.chunk.now
    (c.to_be_bytes.ensures ∙ ap (λ (sum : ChunkSum). be32 sum.size) c.chunk.view_is)
    (c.to_be_bytes-2.ensures ∙ ap (λ (sum : ChunkSum). be64 sum.offset) c.chunk.view_is)
    (c.bytes.ensures.value ∙ ap (λ (sum : ChunkSum). sum.hash) c.chunk.view_is)
    (c.update-3.ensures _ (c.update-2.ensures _ (c.update.ensures m holds)))
