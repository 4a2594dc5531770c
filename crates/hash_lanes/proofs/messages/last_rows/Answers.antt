use Rattle.std.proofs.Common.{rules, ◌+◌, ◌-◌, ◌*◌, ◌++◌, ◌≡◌, refl, arith, take, drop, slice_index}
use Rattle.std.proofs.lemmas.Slice.{overwrites}
use Rattle.sha2.specs.Sha256.{padding}
use Rattle.hash_lanes.specs.Messages.{last_count}
use Rattle.hash_lanes.specs.Starts.{chunk_at}
use Rattle.hash_lanes.proofs.Ended.{last_row, left_is}
use Rattle.hash_lanes.proofs.Rows.{rows_more}
use Rattle.hash_lanes.proofs.messages.last_rows.Goals as goal

pub lanes-preserved : goal.lanes-preserved
lanes-preserved c =
    let bytes = c.args.bytes.now in
    let start = slice_index c.args.starts.now c.lanes.j in
    let size = c.args.size in
    let done = c.args.done in
    let low = c.requires.done in (
      search (rules, overwrites),
      rows_more (λ j block. take (64 * last_count (size - done)) block ≡ drop done (chunk_at bytes c.args.starts.now size j) ++ padding (size + 15)) 128 c.lanes.j _ c.lanes.rows _
          c.copy_from_slice.new.self refl (omega arith) (omega arith) (λ j lt. omega arith)
          (last_row bytes _ c.last_blocks-blocks.result c.copy_from_slice.new.self start size done (left_is bytes start size done _ _ refl refl (omega arith)) (c.requires.inside c.lanes.j c.lanes-test.true)
          (omega arith) c.last_blocks-blocks.ensures c.copy_from_slice.ensures.after)
          c.lanes.invariant.1,
    )
