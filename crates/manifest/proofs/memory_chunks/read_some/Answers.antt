use Rattle.std.proofs.Common.{◌≡◌, ◌∙◌, ◌∷◌, [], List, Ok, length, ap, subst, arith}
use Rattle.std.proofs.lemmas.List.{length-append}
use Rattle.std.proofs.lemmas.Result.{err_from_is_err_and}
use Rattle.state_spec.specs.Manifest.{ChunkRow}
use Rattle.state_spec.specs.ManifestText.{row_after, is_not_below}
use Rattle.std.specs.List.{last_or}
use Rattle.std.specs.Prelude.{None, true}
use Rattle.byte_codec.specs.Gives.{Fails}
use Rattle.manifest.proofs.RowLoops.{row_stops, row_more, rows_end, in_order_push}
use Rattle.manifest.proofs.memory_chunks.read_some.Goals as goal

pub returns-in_err-row-clause-rows : goal.returns-in_err-row-clause-rows
returns-in_err-row-clause-rows c =
    let p = err_from_is_err_and c.from_residual.result c.from_residual.ensures.1 in
    let e = c.in_err-row.field-0.0 in
    rw (p.1, p.2)
    (row_stops (row_after c.args.memories.now) c.args.count c.loop.counter c.loop.rows.items c.args.reader.now c.loop.reader c.loop.invariant.0 e c.loop-test.true
    (subst (λ (before : List ChunkRow). Fails e (row_after c.args.memories.now before c.loop.reader)) c.deref.ensures.value c.in_err-row.ensures.row))

pub loop-preserved : goal.loop-preserved
loop-preserved c =
    let row = c.in_ok-row.row in
    let rows = c.loop.rows.items in
    let new = c.push.new.self.items in
    let read = subst (λ (before : List ChunkRow). row_after c.args.memories.now before c.loop.reader ≡ Ok (row, c.read_row.new.reader)) c.deref.ensures.value c.in_ok-row.ensures.row in
    let order = subst (λ (before : List ChunkRow). is_not_below (last_or None before) row.file ≡ true) c.deref.ensures.value c.in_ok-row.ensures.order in (
      row_more (row_after c.args.memories.now) c.args.count c.loop.counter rows c.args.reader.now c.loop.reader c.loop.invariant.0 row c.read_row.new.reader new c.loop-test.true read c.in_ok-push.ensures.items,
      ap length c.in_ok-push.ensures.items ∙ length-append rows (row ∷ []) ∙ (let count = c.loop.invariant.1 in omega (arith, count)),
      in_order_push (length c.args.memories.now) rows new row c.in_ok-push.ensures.items c.loop.invariant.2 order c.in_ok-row.ensures.inside,
    )

pub returns-clause-rows : goal.returns-clause-rows
returns-clause-rows c = rows_end (row_after c.args.memories.now) c.args.count c.loop.counter c.loop.rows.items c.args.reader.now c.loop.reader c.loop.invariant.0 c.loop-test.false
