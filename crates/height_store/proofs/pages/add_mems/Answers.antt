use Rattle.std.proofs.Common.{◌∙◌, ap}
use Rattle.store_spec.specs.Mark.{MarkMemory}
use Rattle.height_store.proofs.Namings.{rows_more}
use Rattle.height_store.proofs.pages.add_mems.Goals as goal

pub loop-i-preserved : goal.loop-i-preserved
loop-i-preserved c =
    rows_more c.args.all.now.items c.loop-i.all.items c.add_mem.new.all.items c.args.mems.now c.args.pages.now c.deref.result.now c.loop-i.i c.index-mems-i.result c.loop-i-test.true c.requires c.index-mems-i.is
    (c.deref.ensures.value ∙ ap (λ (m : MarkMemory). m.layers) c.mem.view_is) c.in_ok-add_mem.ensures c.loop-i.invariant
