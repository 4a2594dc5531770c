use Rattle.std.proofs.Common.{ap, refl, ◌∙◌}
use Rattle.script_text.specs.declared.command.Command.TheVariants as commands
use Rattle.machine_spec.specs.HeightSteps.{counts_of}
use Rattle.machine_spec.specs.Machine.{outcome_of}
use Rattle.state_manager.proofs.Standing.{at_some, knows_some, line_none, line_published, performs_in_memory}
use Rattle.state_manager.proofs.manager.Manager.count_manifest.Goals as goal

pub returns-in-Some : goal.returns-in-Some
returns-in-Some c = λ m k.
    let p = knows_some c.args.self.now m k c.args.at c.in-Some.found.now c.in-Some.ensures in
    line_published c.args.self.now m k c.args.at c.in-Some.found.now c.in-Some.ensures (λ s. outcome_of (counts_of s) m) c.count_published.result (λ s. refl)
    (c.count_published.ensures p.published p.related)

pub returns-in-Some-state_at : goal.returns-in-Some-state_at
returns-in-Some-state_at c = λ m k.
    let n = at_some c.args.self.now m k c.args.at c.in-Some-state_at.state.now c.in-Some-state_at.ensures in
    performs_in_memory c.args.self.now m k c.args.at (commands.Manifest c.args.at) counts_of refl c.in_default.ensures c.in-Some-state_at.state.now c.in-Some-state_at.ensures c.count_manifest.result
    (c.count_manifest.ensures n.0 n.1)

pub returns-in-None : goal.returns-in-None
returns-in-None c = λ m k. line_none c.args.self.now m k c.args.at c.in_default.ensures c.in-None.ensures (λ s. outcome_of (counts_of s) m)
