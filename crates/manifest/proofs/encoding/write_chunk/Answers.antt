use Rattle.std.proofs.Common.{ap, ◌∙◌}
use Rattle.state_spec.specs.Manifest.{ChunkRow}
use Rattle.manifest.proofs.Writing.{wrote_chunk}
use Rattle.manifest.proofs.encoding.write_chunk.Goals as goal

pub returns-clause-text : goal.returns-clause-text
returns-clause-text c =
    let v = c.row.view_is in
    wrote_chunk c.args.out.now c.be32.new.self c.be32-2.new.self c.be64.new.self c.bytes-2.new.self c.bytes.result.now c.args.row.now
    c.row.inside.file c.row.inside.size c.row.inside.offset
    (ap (λ (row : ChunkRow). row.file) v) (ap (λ (row : ChunkRow). row.sum.size) v) (ap (λ (row : ChunkRow). row.sum.offset) v)
    (c.bytes.ensures.value ∙ ap (λ (row : ChunkRow). row.sum.hash) v)
    c.in_ok-be32.ensures c.in_ok-be32-2.ensures c.in_ok-be64.ensures c.in_ok-bytes.ensures
