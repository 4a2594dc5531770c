use Rattle.std.proofs.Common.{sym, ◌∙◌}
use Rattle.std.proofs.lemmas.Result.{err_from_is_err_and}
use Rattle.format_spec.proofs.Each.{each_ends}
use Rattle.mark_file.specs.Reading.{sum_after}
use Rattle.mark_file.proofs.Looping.{stops_here, goes_on}
use Rattle.mark_file.proofs.memories.read_sums.Goals as goal

pub returns-in_err-read_sum : goal.returns-in_err-read_sum
returns-in_err-read_sum c =
    let p = err_from_is_err_and c.from_residual.result c.from_residual.ensures.1 in
    rw (p.1, p.2)
    (stops_here (sum_after c.args.version) c.args.count c.loop.counter c.loop.sums.items c.loop.reader c.args.reader.now c.loop-test.true c.loop.invariant c.in_err-read_sum.field-0.0 c.in_err-read_sum.ensures)

pub loop-preserved : goal.loop-preserved
loop-preserved c =
    goes_on (sum_after c.args.version) c.args.count c.loop.counter c.loop.sums.items c.loop.reader c.args.reader.now c.loop-test.true c.loop.invariant
    c.in_ok-read_sum.field-0 c.read_sum.new.reader c.push.new.self.items c.in_ok-read_sum.ensures c.in_ok-push.ensures.items

pub returns : goal.returns
returns c = sym c.loop.invariant ∙ each_ends (sum_after c.args.version) c.args.count c.loop.counter c.loop.sums.items c.loop.reader c.loop-test.false
