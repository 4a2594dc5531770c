use Rattle.std.proofs.Common.{◌+◌, ℕ, subst, slice_index}
use Rattle.layer_stack.specs.Found.{IsNewest}
use Rattle.layer_stack.proofs.RunBytes.{run_more}
use Rattle.layer_stack.proofs.stack.Stack.run_of.Goals as goal

pub loop-k-preserved : goal.loop-k-preserved
loop-k-preserved c =
    let page = slice_index c.args.pages.now c.loop-k.k in
    run_more c.args.self.now c.args.i c.args.place c.loop-k.k c.args.pages.now c.loop-k-test.true c.loop-k.invariant
    (subst (λ (layer : ℕ). IsNewest c.args.self.now page layer (c.args.place + c.loop-k.k)) c.if-layer-i.true (subst (IsNewest c.args.self.now page c.in-Some.layer) c.if-at-place.true c.in-Some.ensures))
