use Rattle.std.proofs.Common.{IsTrue, map, sum_by, take}
use Rattle.std.specs.List.{AllByRecursion, AllZip}
use Rattle.store_spec.specs.Whole.{file_bytes}
use Rattle.disk_model.specs.Writing.{Wrote}
use Rattle.whole_state.specs.Written.{GivesNumbers, IsWholeStack, AreUsed, is_given_since}
use Rattle.whole_state.proofs.Giving.{WritesSome}
use Rattle.whole_state.proofs.writing.write_memories.Given as goal

abbrev pub invariant-loop-memory : goal.invariant-loop-memory
invariant-loop-memory g l = record {
  gives : GivesNumbers l.memory-index l.initial.store l.store;
  whole : AllZip IsWholeStack (map (λ memory. memory.items) (take l.memory-index l.memories)) l.stacks.items;
  used : AllByRecursion (AreUsed l.store) l.stacks.items;
  writes : Wrote g.D.Disk (is_given_since l.initial.store l.store) (sum_by file_bytes (map (λ memory. memory.items) (take l.memory-index l.memories))) l.initial.disk l.disk;
  written : IsTrue g.D.Disk.tells → WritesSome l.store (map (λ memory. memory.items) (take l.memory-index l.memories)) l.stacks.items (g.D.Disk.view l.disk);
}
