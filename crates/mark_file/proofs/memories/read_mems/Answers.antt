use Rattle.std.proofs.Common.{sym, subst, length, ◌∙◌}
use Rattle.std.proofs.lemmas.Result.{err_from_is_err_and}
use Rattle.format_spec.proofs.Each.{each_ends}
use Rattle.byte_codec.specs.Gives.{Fails}
use Rattle.mark_file.specs.Reading.{memory_after}
use Rattle.mark_file.proofs.Looping.{stops_here, goes_on, memory_next, length_more}
use Rattle.mark_file.proofs.memories.read_mems.Goals as goal

pub returns-in_err-read_mem : goal.returns-in_err-read_mem
returns-in_err-read_mem c =
    let p = err_from_is_err_and c.from_residual.result c.from_residual.ensures.1 in
    rw (p.1, p.2)
    (stops_here (memory_after c.args.version c.args.pages.now) (length c.args.pages.now) c.loop-count.count-index c.loop-count.mems.items c.loop-count.reader c.args.reader.now c.loop-count-test.true c.loop-count.invariant.0 c.in_err-read_mem.field-0.0
    (subst (Fails c.in_err-read_mem.field-0.0) (sym (memory_next c.args.version c.args.pages.now c.loop-count.count-index c.loop-count.mems.items c.loop-count.reader c.loop-count.invariant.1 c.loop-count-test.true)) c.in_err-read_mem.ensures))

pub loop-count-preserved : goal.loop-count-preserved
loop-count-preserved c = (
  goes_on (memory_after c.args.version c.args.pages.now) (length c.args.pages.now) c.loop-count.count-index c.loop-count.mems.items c.loop-count.reader c.args.reader.now c.loop-count-test.true c.loop-count.invariant.0
      c.in_ok-read_mem.field-0 c.read_mem.new.reader c.push.new.self.items
      (memory_next c.args.version c.args.pages.now c.loop-count.count-index c.loop-count.mems.items c.loop-count.reader c.loop-count.invariant.1 c.loop-count-test.true ∙ c.in_ok-read_mem.ensures) c.in_ok-push.ensures.items,
  length_more c.loop-count.mems.items c.push.new.self.items c.in_ok-read_mem.field-0 c.loop-count.count-index c.loop-count.invariant.1 c.in_ok-push.ensures.items,
)

pub returns : goal.returns
returns c = sym c.loop-count.invariant.0 ∙ each_ends (memory_after c.args.version c.args.pages.now) (length c.args.pages.now) c.loop-count.count-index c.loop-count.mems.items c.loop-count.reader c.loop-count-test.false
