use Rattle.std.proofs.Common.{◌∷◌, [], sym, ◌∙◌}
use Rattle.std.proofs.lemmas.Result.{err_from_is_err_and}
use Rattle.format_spec.proofs.Each.{each_more, each_ends}
use Rattle.state_spec.specs.SystemText.{entry_after}
use Rattle.state_spec.specs.State.{IsByteEntry}
use Rattle.state_spec.proofs.Entries.{pushed}
use Rattle.format_spec.proofs.Lists.{all_join}
use Rattle.byte_codec.proofs.Stops.{stops}
use Rattle.sys_state.proofs.reading.entries.read_entries.Goals as goal

pub returns-in_err-entry-clause-read : goal.returns-in_err-entry-clause-read
returns-in_err-entry-clause-read c =
    let p = err_from_is_err_and c.from_residual.result c.from_residual.ensures.1 in
    rw (p.1, p.2) (stops c.in_err-entry.field-0.0 entry_after c.args.count c.loop.counter c.loop.entries.items c.loop.reader _ c.loop-test.true (rw c.deref.ensures.value at c.in_err-entry.ensures.read) c.loop.invariant.read)

pub loop-preserved : goal.loop-preserved
loop-preserved c =
    let before = c.loop.entries.items in
    let e = c.in_ok-entry.entry in
    let done = pushed before e c.loop.invariant.sorted c.loop.invariant.apart (rw c.deref.ensures.value at c.in_ok-entry.ensures.fits) in
    rw c.in_ok-push.ensures.items (record {
      read = sym (each_more entry_after c.args.count c.loop.counter before c.loop.reader e c.read_entry.new.reader c.loop-test.true (rw c.deref.ensures.value at c.in_ok-entry.ensures.read)) ∙ c.loop.invariant.read;
      sorted = done.sorted;
      apart = done.apart;
      bytes = all_join IsByteEntry before (e ∷ []) c.loop.invariant.bytes (c.in_ok-entry.ensures.bytes, tt);
    })

pub returns-clause-read : goal.returns-clause-read
returns-clause-read c = sym c.loop.invariant.read ∙ each_ends entry_after c.args.count c.loop.counter c.loop.entries.items c.loop.reader c.loop-test.false
