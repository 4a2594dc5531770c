use Rattle.std.proofs.Common.{◌∙◌, sym}
use Rattle.witness.proofs.Rests.{some_begins}
use Rattle.witness.proofs.showing.begins_some.Goals as goal

pub returns-then-begins : goal.returns-then-begins
returns-then-begins c =
    sym (some_begins (λ p. p.now) c.args.label.now c.args.rests.now c.loop-rest.rest-index c.rest-item.result c.loop-rest-test.true c.rest-item.is (sym c.begins.ensures ∙ c.if-begins.true))
