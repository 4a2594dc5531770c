use Rattle.std.proofs.Common.{◌≡◌, ◌++◌, take}
use Rattle.std.specs.List.{flat_map}
use Rattle.store_spec.specs.Mark.{mark_memory_text}
use Rattle.mark_file.proofs.encoding.put_mems.Given as goal

abbrev pub invariant-loop-mem : goal.invariant-loop-mem
invariant-loop-mem l = l.text.items ≡ l.initial.text.items ++ flat_map (mark_memory_text l.version) (take l.mem-index l.mems)
