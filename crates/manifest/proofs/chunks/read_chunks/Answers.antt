use Rattle.std.proofs.lemmas.Result.{err_from_is_err_and}
use Rattle.manifest.proofs.ChunkLoops.{chunk_stops, chunk_more, chunks_all}
use Rattle.manifest.proofs.chunks.read_chunks.Goals as goal

pub returns-in_err-read_chunk-clause-rows : goal.returns-in_err-read_chunk-clause-rows
returns-in_err-read_chunk-clause-rows c =
    let p = err_from_is_err_and c.from_residual.result c.from_residual.ensures.1 in
    rw (p.1, p.2)
    (chunk_stops c.args.slots.now c.loop-slot.slot-index c.loop-slot.rows.items c.args.reader.now c.loop-slot.reader c.slot-item.result
    c.loop-slot.invariant.0 c.loop-slot.invariant.1 c.loop-slot-test.true c.slot-item.is c.in_err-read_chunk.field-0.0 c.in_err-read_chunk.ensures.row)

pub loop-slot-preserved : goal.loop-slot-preserved
loop-slot-preserved c =
    chunk_more c.args.slots.now c.loop-slot.slot-index c.loop-slot.rows.items c.args.reader.now c.loop-slot.reader c.slot-item.result
    c.loop-slot.invariant.0 c.loop-slot.invariant.1 c.loop-slot-test.true c.slot-item.is
    c.in_ok-read_chunk.field-0 c.read_chunk.new.reader c.push.new.self.items c.in_ok-read_chunk.ensures.row c.in_ok-read_chunk.ensures.slot c.in_ok-push.ensures.items

pub returns-clause-rows : goal.returns-clause-rows
returns-clause-rows c =
    chunks_all c.args.slots.now c.loop-slot.slot-index c.loop-slot.rows.items c.args.reader.now c.loop-slot.reader c.loop-slot.invariant.0 c.loop-slot-test.false
