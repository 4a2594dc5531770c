use Rattle.std.proofs.Common.{◌≡◌, arith, rules, Some}
use Rattle.sync_spec.specs.Messages.{read_ask}
use Rattle.sync_plan.specs.Views.{ask_of}
use Rattle.sync_plan.proofs.Spelling.{ask_in}
use Rattle.sync_plan.proofs.ask.Ask.decode.Goals as goal

pub returns-then-left-eq0-clause-spelled : goal.returns-then-left-eq0-clause-spelled
unfolding read_ask
returns-then-left-eq0-clause-spelled c =
    let read : Some (ask_of c.in_ok-ask.ask) ≡ read_ask c.args.bytes.now = search rules in
    ask_in c.args.bytes.now (λ i. omega (arith, c.type_inv.bytes i)) (Some c.in_ok-ask.ask) read
