use Rattle.std.proofs.Common.{sym, ◌∙◌}
use Rattle.std.proofs.lemmas.Result.{IfOk-weaker}
use Rattle.disk_model.specs.OnlyReads.{reads_only_none}
use Rattle.height_store.specs.Laws.{stacks_found}
use Rattle.sync_plan.specs.Views.{ask_of}
use Rattle.sync_serve.proofs.Heights.{target_found, served_here, served_gone}
use Rattle.sync_serve.proofs.answers.content_for.Goals as goal

pub content_of-requires : goal.content_of-requires
content_of-requires g c = λ told.
    let ask = c.args.ask.now in
    let hs = c.args.store.now.heights in
    stacks_found _ hs ask.target.height c.in-Some.found.now (target_found hs ask.target.height ask.target.root c.in-Some.found.now c.in-Some.ensures) (c.requires told)

pub returns-in-Some-clause-content : goal.returns-in-Some-clause-content
returns-in-Some-clause-content g c = λ told ps shows.
    let served = served_here _ c.args.store.now.heights ps (ask_of c.args.ask.now) shows c.in-Some.found.now c.in-Some.ensures in
    IfOk-weaker c.content_of.result _ _ (λ content is. is ∙ sym served.2) (c.content_of.ensures.content told served.0 served.1)

pub returns-in-None-clause-content : goal.returns-in-None-clause-content
returns-in-None-clause-content g c = λ told ps shows. sym (served_gone _ c.args.store.now.heights ps (ask_of c.args.ask.now) shows c.in-None.ensures)

pub returns-in-None-clause-reads_only : goal.returns-in-None-clause-reads_only
returns-in-None-clause-reads_only g c = λ told. reads_only_none _ _
