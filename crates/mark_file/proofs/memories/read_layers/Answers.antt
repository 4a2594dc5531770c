use Rattle.std.proofs.Common.{sym, subst, ◌∙◌}
use Rattle.std.proofs.lemmas.Result.{err_from_is_err_and}
use Rattle.format_spec.proofs.Each.{each_ends}
use Rattle.byte_codec.specs.Gives.{Fails}
use Rattle.mark_file.specs.Reading.{layer_after}
use Rattle.mark_file.proofs.Looping.{stops_here, goes_on, layer_by}
use Rattle.mark_file.proofs.memories.read_layers.Goals as goal

pub returns-in_err-read_layer : goal.returns-in_err-read_layer
returns-in_err-read_layer c =
    let p = err_from_is_err_and c.from_residual.result c.from_residual.ensures.1 in
    rw (p.1, p.2)
    (stops_here layer_after c.args.count c.loop.counter c.loop.layers.items c.loop.reader c.args.reader.now c.loop-test.true c.loop.invariant c.in_err-read_layer.field-0.0
    (subst (Fails c.in_err-read_layer.field-0.0) (layer_by c.deref.result.now c.loop.layers.items c.loop.reader c.deref.ensures.value) c.in_err-read_layer.ensures))

pub loop-preserved : goal.loop-preserved
loop-preserved c =
    goes_on layer_after c.args.count c.loop.counter c.loop.layers.items c.loop.reader c.args.reader.now c.loop-test.true c.loop.invariant
    c.in_ok-read_layer.field-0 c.read_layer.new.reader c.push.new.self.items
    (sym (layer_by c.deref.result.now c.loop.layers.items c.loop.reader c.deref.ensures.value) ∙ c.in_ok-read_layer.ensures) c.in_ok-push.ensures.items

pub returns : goal.returns
returns c = sym c.loop.invariant ∙ each_ends layer_after c.args.count c.loop.counter c.loop.layers.items c.loop.reader c.loop-test.false
