use Rattle.std.proofs.Common.{◌∙◌, ap, sym, subst, refl, arith}
use Rattle.std.specs.Prelude.{IsTrue}
use Rattle.disk_model.specs.Writing.{writes_spend}
use Rattle.height_store.specs.Errors.{not_a_height}
use Rattle.height_store.specs.Kept.{MatchesFiles}
use Rattle.height_store.specs.Laws.{over_after}
use Rattle.script_text.specs.declared.command.Command.TheVariants as commands
use Rattle.state_manager.specs.Kept.{ManagerView, DoesLine}
use Rattle.state_manager.proofs.Purging.{Purges, RepliesTo, purge_line}
use Rattle.state_manager.proofs.manager.Manager.purge.Goals as goal
use Rattle.state_manager.proofs.manager.Manager.purge.Goals.{in-Ok, in-Err}

pub refused_purge-requires : goal.refused_purge-requires
refused_purge-requires g c = λ bad. not_a_height c.in-Err.error bad c.in-Err.ensures.cause.only

pub returns-clause-line : goal.returns-clause-line
returns-clause-line g c =
    let over : IsTrue g.D.Disk.tells → MatchesFiles c.self.inside.store (g.D.Disk.view c.args.disk.now).state.files = λ told. subst (λ (h : ManagerView). MatchesFiles h.store (g.D.Disk.view c.args.disk.now).state.files) (sym c.self.view_is) (c.requires.over told) in
    let old : ManagerView = record { live = c.self.inside.live; memory = c.self.inside.memory.items; store = c.self.inside.store; stopped = c.self.inside.stopped } in
    let now : ManagerView = record { live = c.self.inside.live; memory = c.self.inside.memory.items; store = c.purge.new.self; stopped = c.self.inside.stopped } in
    let says : RepliesTo c.purge.result c.match-purge.result = elim c.match-purge.branch [
      | in-Ok w ↦ subst (λ r. RepliesTo r c.match-purge.result) (sym w.in-Ok.is) w.result-is
      | in-Err w ↦ subst (λ r. RepliesTo r c.match-purge.result) (sym w.in-Err.is) (w.result-is ∙ w.refused_purge.ensures)
    ] in
    let purges : Purges g.D.Disk.tells old now (g.D.Disk.view c.args.disk.now) (g.D.Disk.view c.purge.new.disk) c.args.height c.purge.result = record {
      no_height = c.purge.ensures.no_height;
      last_height = c.purge.ensures.last_height;
      refused = λ h. let same = c.purge.ensures.refused h in (same.0, ap g.D.Disk.view same.1);
      numbers_given = record { least = omega (arith, c.purge.ensures.numbers_given); most = omega (arith, c.purge.ensures.numbers_given) };
      over = λ told. over_after c.purge.result c.self.inside.store c.purge.new.self _ _ (over told) (c.purge.ensures.readable told) (c.purge.ensures.writable told);
      spends = λ told. writes_spend c.purge.result _ _ _ _ (c.purge.ensures.writes told);
      stands = c.purge.ensures.stands;
      images = c.purge.ensures.images;
      settled = λ told. (c.purge.ensures.writes told).settles;
    } in
    subst (λ (h : ManagerView). DoesLine g.D.Disk.tells h now (g.D.Disk.view c.args.disk.now) (g.D.Disk.view c.purge.new.disk) c.match-purge.result (commands.Purge c.args.height)) c.self.view_is
    (purge_line g.D.Disk.tells old now (g.D.Disk.view c.args.disk.now) (g.D.Disk.view c.purge.new.disk) c.args.height c.purge.result c.match-purge.result says purges refl refl refl over (λ told. g.met.D.Disk.reads_as_image c.purge.new.disk told))
