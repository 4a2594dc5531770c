use Rattle.std.proofs.Common.{◌<◌, arith}
use Rattle.std.proofs.lemmas.Bool.Decides.{nat_tests}
use Rattle.height_store.proofs.Newest.{all_below, none_below}
use Rattle.height_store.proofs.store.HeightStore.is_low.Goals as goal

pub returns-in-Some-clause-above : goal.returns-in-Some-clause-above
returns-in-Some-clause-above c = λ high.
    let low : c.in-Some.newest < c.args.height = grind (arith, nat_tests, high) in
    all_below c.args.self.now.heights c.in-Some.newest c.args.height c.in-Some.ensures.ascends c.in-Some.ensures.newest low

pub returns-in-None-clause-above : goal.returns-in-None-clause-above
returns-in-None-clause-above c = λ high. none_below c.args.self.now.heights c.args.height c.in-None.ensures.newest
