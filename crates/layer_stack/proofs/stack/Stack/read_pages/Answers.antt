use Rattle.std.proofs.Common.{◌-◌, ◌*◌, ℕ, List, length, take, drop, arith, sym, ap, ◌∙◌, subst}
use Rattle.std.proofs.lemmas.List.{length-drop, take_rest}
use Rattle.format_spec.specs.Bytes.{Bytes}
use Rattle.format_spec.specs.declared.limits.TheConstants.{PAGE_SIZE}
use Rattle.disk_model.specs.State.{DiskState}
use Rattle.disk_model.specs.OnlyReads.{OnlyReads, reads_only_then, reads_only_more}
use Rattle.layer_stack.specs.Stacks.{AreLayers, pages_from}
use Rattle.layer_stack.proofs.RunBytes.{pages_more}
use Rattle.layer_stack.proofs.stack.Stack.read_pages.Goals as goal

pub returns-in_err-done-clause-reads_only : goal.returns-in_err-done-clause-reads_only
returns-in_err-done-clause-reads_only g c = λ told.
    reads_only_more _ _ _ _ (omega (arith, c.loop-done.invariant.within, length-drop c.loop-done.done c.args.pages.now))
    (reads_only_then (PAGE_SIZE * c.loop-done.done) (PAGE_SIZE * length (drop c.loop-done.done c.args.pages.now)) (g.D.Disk.view c.args.disk.now) (g.D.Disk.view c.loop-done.disk) (g.D.Disk.view c.read_run.new.disk) (c.loop-done.invariant.reads_only told)
    (subst (λ (l : List ℕ). OnlyReads (PAGE_SIZE * length l) (g.D.Disk.view c.loop-done.disk) (g.D.Disk.view c.read_run.new.disk)) (take_rest c.args.pages.now c.loop-done.done) (c.read_run.ensures.reads_at_most told)))

pub loop-done-preserved : goal.loop-done-preserved
loop-done-preserved g c =
    let done = c.loop-done.done in
    let count = c.in_ok-done.field-0 in
    let fits = c.in_ok-done.ensures.count in
    let same = take_rest c.args.pages.now done in
    let rest = ap (λ (l : List ℕ). length l) same ∙ length-drop done c.args.pages.now in
    record {
      within = omega (arith, fits.1, rest, c.loop-done.invariant.within);
      faults = omega (arith, c.loop-done.invariant.faults, c.read_run.ensures.cause.never_falls);
      reads_only = λ told. reads_only_more _ _ _ _ (omega arith) (reads_only_then (PAGE_SIZE * done) (PAGE_SIZE * count) _ _ _ (c.loop-done.invariant.reads_only told) (c.in_ok-done.ensures.reads_only told));
      bytes = λ told layers are.
          let here = subst (λ (s : DiskState). AreLayers s.files c.args.self.now layers) (sym (c.loop-done.invariant.reads_only told).state) are in
          pages_more layers c.args.pages.now done count (length c.loop-done.into - done * PAGE_SIZE) c.loop-done.into c.read_run.new.into
          (omega (arith, c.loop-done.auto.into, c.requires.size)) (omega (arith, fits.1, rest, c.loop-done.invariant.within)) (omega arith)
          (c.read_run.auto.into ∙ ap (λ (l : Bytes). length l) (take_rest c.loop-done.into (done * PAGE_SIZE)) ∙ length-drop (done * PAGE_SIZE) c.loop-done.into)
          (c.loop-done.invariant.bytes told layers are) (c.in_ok-done.ensures.bytes told layers here ∙ ap (λ (l : List ℕ). pages_from layers (take count l)) same);
    }
