use Rattle.std.proofs.Common.{◌≡◌, ◌++◌, take}
use Rattle.std.specs.List.{flat_map}
use Rattle.store_spec.specs.Mark.{sum_text}
use Rattle.mark_file.proofs.encoding.put_sums.Given as goal

abbrev pub invariant-loop-sum : goal.invariant-loop-sum
invariant-loop-sum l = l.text.items ≡ l.initial.text.items ++ flat_map (sum_text l.version) (take l.sum-index l.sums)
