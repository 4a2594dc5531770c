use Rattle.std.proofs.Common.{sym}
use Rattle.sha2.proofs.Schedule256.{rounds_first}
use Rattle.hash_lanes.specs.Lanes.{lane, window}
use Rattle.hash_lanes.proofs.Windows.{slice_index-window}
use Rattle.hash_lanes.proofs.rounds.first_step.Goals as goal

pub returns : goal.returns
returns c = λ j b h lt win held.
    rounds_first b h (window j c.args.w.now) (lane j c.args.v) c.args.t _ _ _ c.requires win held c.constant.ensures
    (sym (slice_index-window c.args.w.now j c.args.t c.requires)) (c.round.ensures j lt)
