use Rattle.std.proofs.Common.{◌∙◌, sym, rules, ne_eqb}
use Rattle.std.specs.Slice.Iter.{chunks_rest}
use Rattle.hash_domain.proofs.Zeros.{run_more, run_other, zeros_none}
use Rattle.hash_domain.proofs.sums.is_zeros.Goals as goal

pub returns-then-joined-ne0 : goal.returns-then-joined-ne0
returns-then-joined-ne0 c =
    run_other (chunks_rest c.runs.run-iterator) c.in-Some.run'.now (chunks_rest c.next.new.self) c.args.bytes.now c.joined.result
    c.in-Some.ensures.steps.1.0 c.joined.ensures (ne_eqb c.joined.result 0 c.if-joined-ne0.true) c.runs.invariant.2

pub runs-preserved : goal.runs-preserved
runs-preserved c = (
  search rules,
  tt,
  run_more (chunks_rest c.runs.run-iterator) c.in-Some.run'.now (chunks_rest c.next.new.self) c.args.bytes.now c.joined.result
      c.in-Some.ensures.steps.1.0 c.joined.ensures c.if-joined-ne0.false c.runs.invariant.2,
)

pub returns : goal.returns
returns c = sym (zeros_none (chunks_rest c.runs.run-iterator) c.in-None.ensures.steps.1.0) ∙ c.runs.invariant.2
