use Rattle.std.proofs.Common.{sym, subst, arith}
use Rattle.page_file.specs.Ranges.{AreRanges}
use Rattle.page_file.proofs.Find.{range_fits}
use Rattle.page_file.proofs.Steps.{numbers_more}
use Rattle.page_file.proofs.index.FileIndex.pages.Goals as goal

pub push_pages-requires : goal.push_pages-requires
push_pages-requires c =
    let h = subst (AreRanges c.self.inside.memory 0 0) (sym c.deref-range-items.ensures.value) c.self.invariant.ascend in
    omega (arith, range_fits c.self.inside.memory 0 0 c.deref-range-items.result.now h (omega arith) c.loop-range.range-index (record { first = 0; length = 0; place = 0 }) c.loop-range-test.true, c.self.invariant.memory_fits)

pub loop-range-preserved : goal.loop-range-preserved
loop-range-preserved c = numbers_more c.loop-range.pages.items c.push_pages.new.pages.items c.deref-range-items.result.now c.loop-range.range-index _ c.loop-range-test.true c.loop-range.invariant c.in_ok-push_pages.ensures
