use Rattle.std.proofs.Common.{◌≡◌, ◌+◌, ◌-◌, ◌++◌, ◌∷◌, [], suc, ap, sym, ◌∙◌, arith, Err}
use Rattle.format_spec.specs.Bytes.{Bytes}
use Rattle.format_spec.specs.Fields.{string8}
use Rattle.sys_state.proofs.Labels.{took, one_more, label_cut, all_read}
use Rattle.sys_state.proofs.reading.entries.read_labels.Goals as goal

pub returns-in_default-string8 : goal.returns-in_default-string8
returns-in_default-string8 c =
    let left : c.in-Ok.count - c.loop.counter ≡ suc (c.in-Ok.count - (c.loop.counter + 1)) = omega arith in
    label_cut _ c.loop.labels.items c.args.reader.now c.loop.reader (rw left at c.loop.invariant) c.in_default-string8.ensures.read.0 ∙ ap Err (sym c.at-at.ensures)

pub loop-preserved : goal.loop-preserved
loop-preserved c =
    let left : c.in-Ok.count - c.loop.counter ≡ suc (c.in-Ok.count - (c.loop.counter + 1)) = omega arith in
    let label : Bytes = c.in-Ok-string8.label.now in
    let items : c.push.new.self.items ≡ c.loop.labels.items ++ label ∷ [] = rw c.in_ok-from_slice.ensures.value at c.in_ok-push.ensures.items in
    rw items (one_more _ c.loop.labels.items label c.args.reader.now c.loop.reader c.string8.new.self (rw left at c.loop.invariant) (took string8 c.loop.reader label c.string8.new.self c.in-Ok-string8.ensures.read))

pub returns : goal.returns
returns c =
    let none : c.in-Ok.count - c.loop.counter ≡ 0 = omega arith in
    all_read c.loop.labels.items c.args.reader.now c.loop.reader (rw none at c.loop.invariant)
