use Rattle.std.proofs.Common.{◌≡◌, map, take}
use Rattle.mark_file.proofs.ending.memory_sums.Given as goal

abbrev pub invariant-loop-mem : goal.invariant-loop-mem
invariant-loop-mem l = map (λ list. list.items) l.lists.items ≡ map (λ mem. mem.sums) (take l.mem-index l.mems)
