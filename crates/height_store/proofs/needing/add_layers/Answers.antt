use Rattle.std.proofs.Common.{◌∙◌, ◌++◌, ℕ, nat_eq, List, ap}
use Rattle.std.specs.List.{list_any}
use Rattle.std.proofs.lemmas.List.Folds.{list_any-append}
use Rattle.store_spec.specs.Mark.{MarkMemory}
use Rattle.height_store.proofs.Needs.{named_more}
use Rattle.height_store.proofs.needing.add_layers.Goals as goal

pub loop-mem-preserved : goal.loop-mem-preserved
loop-mem-preserved c = λ n.
    named_more (λ memory. list_any (nat_eq n) memory.layers) (list_any (nat_eq n) c.args.numbers.now.items) (list_any (nat_eq n) c.loop-mem.numbers.items) _ c.args.mems.now c.loop-mem.mem-index c.mem-item.result c.loop-mem-test.true
    (ap (list_any (nat_eq n)) (c.in_ok-extend_from_slice.ensures.items ∙ ap (λ (l : List ℕ). c.loop-mem.numbers.items ++ l) (c.deref.ensures.value ∙ ap (λ (m : MarkMemory). m.layers) (c.mem.view_is ∙ c.mem-item.is)))
    ∙ list_any-append (nat_eq n) c.loop-mem.numbers.items _)
    (c.loop-mem.invariant n)
