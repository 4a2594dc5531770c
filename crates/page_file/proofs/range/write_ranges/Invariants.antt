use Rattle.std.proofs.Common.{◌≡◌, ◌++◌, take}
use Rattle.page_file.specs.Ranges.{text_of}
use Rattle.page_file.proofs.range.write_ranges.Given as goal

abbrev pub invariant-loop-range : goal.invariant-loop-range
invariant-loop-range l = l.out ≡ l.initial.out ++ text_of (take l.range-index l.ranges)
