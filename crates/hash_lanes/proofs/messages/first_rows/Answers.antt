use Rattle.std.proofs.Common.{rules, ◌≡◌, ◌∙◌, refl, arith}
use Rattle.std.proofs.lemmas.Slice.{overwrites}
use Rattle.format_spec.specs.Hashes.{chunk_string}
use Rattle.hash_lanes.specs.Starts.{chunk_at}
use Rattle.hash_lanes.proofs.Rows.{rows_more}
use Rattle.hash_lanes.proofs.messages.first_rows.Goals as goal

pub lanes-preserved : goal.lanes-preserved
lanes-preserved c = (
  search (rules, overwrites),
  rows_more (λ j block. block ≡ chunk_string (chunk_at c.args.bytes.now c.args.starts.now 49 j)) 64 c.lanes.j _ c.lanes.rows _ c.copy_from_slice.new.self refl (omega arith) (omega arith)
      (λ j low. omega arith) (c.copy_from_slice.ensures.after ∙ c.first_block-block.ensures) c.lanes.invariant.1,
)
