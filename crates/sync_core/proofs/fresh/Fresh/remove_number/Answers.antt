use Rattle.std.proofs.Common.{◌==◌, ◌∙◌, sym, ap}
use Rattle.sync_core.specs.Linked.{numbers_of}
use Rattle.sync_core.proofs.Numbers.{filter_absent, filter_without, numbers_without, unlinked_sound}
use Rattle.sync_core.proofs.fresh.Fresh.remove_number.Goals as goal

pub invariant_of-self : goal.invariant_of-self
invariant_of-self c = record { sound = unlinked_sound c.args.self.now.links c.unlink.new.self c.args.number _ _ c.args.self.now.sound (c.has_number.ensures.there c.if-has_number.true) c.unlink.ensures }

pub returns-then-has_number-clause-numbers : goal.returns-then-has_number-clause-numbers
returns-then-has_number-clause-numbers c = ap numbers_of c.unlink.ensures ∙ numbers_without c.args.self.now.links c.args.number ∙ filter_without c.args.number (numbers_of c.args.self.now.links)

pub returns-clause-numbers : goal.returns-clause-numbers
returns-clause-numbers c = sym (filter_absent (λ j. j == c.args.number) (numbers_of c.args.self.now.links) (sym c.has_number.ensures.has ∙ c.if-has_number.false))
