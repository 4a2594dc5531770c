use Rattle.std.proofs.Common.{◌≡◌, ◌+◌, ◌-◌, ◌*◌, ◌^◌, ◌≤◌, length, drop}
use Rattle.std.specs.List.{sum}
use Rattle.std.specs.Option.{option_map}
use Rattle.page_spec.specs.Layers.{plan}
use Rattle.layer_stack.proofs.merging.plan.Given as goal

abbrev pub invariant-loop-i : goal.invariant-loop-i
invariant-loop-i l = record {
  later : l.later ≡ sum (drop l.i l.sizes);
  few : l.later ≤ 2 ^ 32 * (length l.sizes - l.i);
  from : l.from ≡ option_map (λ k. k + l.i) (plan (drop l.i l.sizes));
}
