use Rattle.std.proofs.Common.{◌≡◌, ◌+◌, ◌%◌, arith, refl}
use Rattle.hash_lanes.proofs.Windows.{slice_index-window, window_set}
use Rattle.hash_lanes.proofs.rounds.next_word.Goals as goal

pub returns-clause-value : goal.returns-clause-value
returns-clause-value c j h =
    let w = c.args.w.now in
    let p = c.args.place in
    let at : p % 16 ≡ p = omega arith in
    rw (
      c.add-word.ensures j h,
      c.add.ensures j h,
      c.add-early.ensures j h,
      c.small_sigma1.ensures j h,
      c.small_sigma0.ensures j h,
      at,
      slice_index-window w j ((p + 14) % 16) (omega arith),
      slice_index-window w j ((p + 9) % 16) (omega arith),
      slice_index-window w j ((p + 1) % 16) (omega arith),
      slice_index-window w j p (omega arith),
    ) refl

pub returns-clause-window : goal.returns-clause-window
returns-clause-window c j h = window_set j c.add-word.result c.args.w.now (omega arith) c.args.place c.requires
