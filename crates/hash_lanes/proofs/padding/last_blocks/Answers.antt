use Rattle.std.proofs.Common.{◌∙◌, ◌-◌, ◌*◌, ap, refl, length}
use Rattle.hash_lanes.proofs.Ended.{ended}
use Rattle.hash_lanes.proofs.padding.last_blocks.Goals as goal

pub returns : goal.returns
returns c =
    ended c.args.left.now c.copy_from_slice.new.self _ c.copy_from_slice-2.new.self c.copy_from_slice-3.new.self (length c.args.left.now) (64 * c.last_count.result - 8) c.args.size _ _
    c.copy_from_slice.ensures.after refl c.requires (ap (λ n. 64 * n - 8) c.last_count.ensures) c.copy_from_slice-2.ensures.after (c.copy_from_slice-3.ensures.after ∙ c.to_be_bytes.ensures)
