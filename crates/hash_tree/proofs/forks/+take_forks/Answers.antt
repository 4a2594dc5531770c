use Rattle.std.proofs.Common.{◌++◌, arith, ap, ◌∙◌}
use Rattle.std.specs.Option.{option_to_list}
use Rattle.hash_tree.specs.Stack.{Takes}
use Rattle.hash_tree.proofs.Stacking.{takes_none, takes_one, takes_halves, takes_fewer, ok_then}
use Rattle.hash_tree.proofs.forks.+take_forks.Goals as goal

pub returns-then-count-eq0 : goal.returns-then-count-eq0
returns-then-count-eq0 t c = record { taken = takes_none _ _ _ (omega arith) c.empty.ensures }

pub returns-then-count-eq1 : goal.returns-then-count-eq1
returns-then-count-eq1 t c =
    record { taken = takes_one _ _ _ _ (omega arith) (c.pop.ensures.items ∙ ap (λ o. c.pop.new.self.items ++ option_to_list o) c.unwrap.ensures) }

pub take_forks-requires-2 : goal.take_forks-requires-2
take_forks-requires-2 t c =
    let left = takes_fewer _ _ _ _ (omega arith) c.in_ok-right.ensures.taken in
    (omega arith, omega (arith, left))

pub returns : goal.returns
returns t c = record {
  taken = ok_then c.beside.result _ (Takes c.args.branches.now.items c.take_forks-2.new.branches.items c.args.count) c.beside.ensures
      (λ b e. takes_halves _ _ _ _ _ b _ (omega arith) c.in_ok-right.ensures.taken c.in_ok-left.ensures.taken e);
}
