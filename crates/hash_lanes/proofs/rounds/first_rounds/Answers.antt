use Rattle.std.proofs.Common.{refl}
use Rattle.sha2.specs.Sha256.{rounds}
use Rattle.hash_lanes.specs.Lanes.{lane}
use Rattle.hash_lanes.proofs.rounds.first_rounds.Goals as goal

pub returns : goal.returns
unfolding rounds
returns c j b lt win =
    let h = lane j c.args.h in
    let s1 = c.first_four_steps-v.ensures j b h lt win refl in
    let s2 = c.first_four_steps-v-2.ensures j b h lt win s1 in
    let s3 = c.first_four_steps-v-3.ensures j b h lt win s2 in
    c.first_four_steps.ensures j b h lt win s3
