use Rattle.std.proofs.Common.{sym, arith}
use Rattle.sync_core.proofs.Numbers.{has_any, has_none, in_list, not_in_list}
use Rattle.sync_core.proofs.fresh.Fresh.has_number.Goals as goal

pub returns-then-number-self-clause-has : goal.returns-then-number-self-clause-has
returns-then-number-self-clause-has c = sym (has_none c.args.number _ (λ has. let w = c.args.self.now.sound.within c.args.number has in omega (arith, w, c.if-number-self.true)))

pub returns-in-Some-clause-has : goal.returns-in-Some-clause-has
returns-in-Some-clause-has c = sym (has_any c.args.number _ (in_list c.args.self.now.links c.args.number _ c.args.self.now.sound.one c.in-Some.ensures.cases))

pub returns-in-None-clause-has : goal.returns-in-None-clause-has
returns-in-None-clause-has c = sym (has_none c.args.number _ (not_in_list c.args.self.now.links c.args.number c.args.self.now.sound.one c.in-None.ensures.cases))
