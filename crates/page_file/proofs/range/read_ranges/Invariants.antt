use Rattle.std.proofs.Common.{◌≡◌, ◌*◌, take}
use Rattle.page_file.specs.Ranges.{ranges_from, text_of}
use Rattle.page_file.proofs.range.read_ranges.Given as goal

abbrev pub invariant-loop-i : goal.invariant-loop-i
invariant-loop-i l = record {
  value : l.ranges.items ≡ ranges_from l.i l.bytes;
  text : text_of l.ranges.items ≡ take (12 * l.i) l.bytes;
}
