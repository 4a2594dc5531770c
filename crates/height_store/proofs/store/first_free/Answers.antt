use Rattle.std.proofs.Common.{arith}
use Rattle.height_store.proofs.Numbers.{run_more, ends_before}
use Rattle.height_store.proofs.store.first_free.Goals as goal

pub loop-number-preserved : goal.loop-number-preserved
loop-number-preserved c = record {
  count = omega (arith, c.loop-number.invariant.count);
  run = run_more c.args.numbers.now c.args.from c.loop-number.free c.loop-number.number-index c.loop-number-test.true c.loop-number.invariant.count c.if-number-free.false c.loop-number.invariant.run;
}

pub returns-then-number-free-clause-free : goal.returns-then-number-free-clause-free
returns-then-number-free-clause-free c =
    ends_before c.args.numbers.now c.args.from _ _ c.requires.ascend c.requires.from c.loop-number.invariant.count c.loop-number.invariant.run c.loop-number.auto.number-index-end (λ _. c.if-number-free.true)

pub returns-then-number-free-clause-near : goal.returns-then-number-free-clause-near
returns-then-number-free-clause-near c = omega (arith, c.loop-number.invariant.count, c.loop-number.auto.number-index-end)

pub returns-clause-free : goal.returns-clause-free
returns-clause-free c =
    ends_before c.args.numbers.now c.args.from _ _ c.requires.ascend c.requires.from c.loop-number.invariant.count c.loop-number.invariant.run c.loop-number.auto.number-index-end (λ lt _. absurd (omega (arith, lt, c.loop-number-test.false)))
