use Rattle.std.proofs.Common.{◌≡◌, take}
use Rattle.page_file.specs.Ranges.{numbers_in}
use Rattle.page_file.proofs.index.FileIndex.pages.Given as goal

abbrev pub invariant-loop-range : goal.invariant-loop-range
invariant-loop-range l = l.pages.items ≡ numbers_in (take l.range-index l.range-items)
