use Rattle.std.proofs.Common.{◌≡◌, ◌≤◌, ◌+◌, drop, length}
use Rattle.page_file.specs.Ranges.{numbers_in, are_ranges}
use Rattle.page_file.proofs.range.pages_in.Given as goal

abbrev pub invariant-loop-range : goal.invariant-loop-range
invariant-loop-range l = record {
  rest : are_ranges l.memory l.least l.place (drop l.range-index l.ranges) ≡ are_ranges l.memory 0 0 l.ranges;
  count : l.place + length (numbers_in (drop l.range-index l.ranges)) ≡ length (numbers_in l.ranges);
  before : l.place ≤ l.least;
  within : l.least ≤ l.memory + 1;
}
