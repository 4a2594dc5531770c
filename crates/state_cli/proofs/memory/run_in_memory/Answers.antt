use Rattle.std.proofs.Common.{◌≡◌, ◌++◌, true, [], Some, None, refl, ◌∙◌, ap, sym, subst, inl, inr, arith, ⊎_elim}
use Rattle.std.proofs.lemmas.List.{append-nil}
use Rattle.std.specs.Io.KnownBytes.{IsAtEnd}
use Rattle.disk_model.specs.Mem.{mem_view}
use Rattle.disk_model.specs.View.{DiskView}
use Rattle.machine_spec.specs.Machine.{start}
use Rattle.machine_spec.specs.Script.{output_by}
use Rattle.script_text.specs.declared.status.Status.{Status}
use Rattle.state_cli.proofs.Endings.{done, empty_stands}
use Rattle.state_cli.specs.Ends.{Closes, Ends, StandsAs, all_shown}
use Rattle.state_cli.proofs.memory.run_in_memory.Goals as goal

pub returns : goal.returns
returns c = λ fresh within read write disk.
    let old = mem_view c.args.disk.now in
    let new = mem_view c.run.new.disk in
    let ended = IsAtEnd (Some c.run.new.source.left) in
    let entry : StandsAs old.state (start []) = subst (λ (v : DiskView). StandsAs v.state (start [])) (sym fresh) (record { heights = []; first_is = refl; each = empty_stands }) in
    let ends = c.run.ensures.complete (λ none. cc) refl (start []) entry c.args.source.now.left refl within (λ rose. omega (arith, rose, read)) (λ rose. omega (arith, rose, write)) (λ rose. omega (arith, rose, disk)) in
    let m = c.run.ensures.session in
    ⊎_elim (λ is.
    let e = subst (λ (s : Status). Ends s true (StandsAs old.state) all_shown (Closes c.args.sink.now.faults c.run.new.sink.faults) ended old new m.taken m.gained) is m.holds in
    let all = done true (StandsAs old.state) c.args.sink.now.faults c.run.new.sink.faults ended old new m.taken m.gained (start []) e refl entry in
    let script : c.args.source.now.left ≡ m.taken = m.from_source ∙ ap (λ l. m.taken ++ l) all.2 ∙ append-nil m.taken in
    inl (is, m.to_sink ∙ ap (λ g. c.args.sink.now.written ++ g) (all.0 ∙ ap (output_by (start [])) (sym script)))) inr ends
