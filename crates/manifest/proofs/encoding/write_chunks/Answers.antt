use Rattle.std.proofs.Common.{ap, ◌∙◌, ◌++◌, arith}
use Rattle.format_spec.specs.Bytes.{Bytes}
use Rattle.state_spec.specs.ManifestText.{chunk_row_text}
use Rattle.manifest.proofs.Writing.{wrote_more}
use Rattle.manifest.proofs.encoding.write_chunks.Goals as goal

pub loop-row-preserved : goal.loop-row-preserved
loop-row-preserved c =
    let w = c.in_ok-write_chunk.ensures in
    let row = c.row-item.result in (
      wrote_more chunk_row_text c.args.out.now c.write_chunk.new.out c.args.chunks.now c.loop-row.row-index row c.loop-row-test.true c.row-item.is
          (w.text ∙ ap (λ (front : Bytes). front ++ chunk_row_text row) c.loop-row.invariant.0),
      (let a = w.size in let b = c.loop-row.invariant.1 in omega arith),
    )
