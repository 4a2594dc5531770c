use Rattle.std.proofs.Common.{◌≡◌, ◌+◌, ◌++◌, ◌∷◌, [], ℕ, Vec, Global, length, arith, map, take}
use Rattle.format_spec.specs.Bytes.{Bytes}
use Rattle.whole_state.specs.Written.{IsMemoryBytes}
use Rattle.disk_model.specs.Writing.{write_done, write_failed, write_stopped}
use Rattle.whole_state.proofs.Giving.{gives_then, gives_most, writes_more, memory_written, fewer_cost, taken_more, this_memory, whole_more, used_push}
use Rattle.whole_state.proofs.writing.write_memories.Goals as goal

abbrev bytes : Vec ℕ Global → Bytes
bytes memory = memory.items

pub write_memory-requires-clause-memory : goal.write_memory-requires-clause-memory
write_memory-requires-clause-memory g c =
    this_memory IsMemoryBytes bytes c.args.memories.now c.loop-memory.memory-index c.memory-item.result c.deref.result.now c.loop-memory-test.true c.memory-item.is c.deref.ensures.value c.requires.memories

pub write_memory-requires-clause-numbers : goal.write_memory-requires-clause-numbers
write_memory-requires-clause-numbers g c = omega (arith, c.loop-memory.invariant.gives.given_most, c.requires.numbers, c.requires.few, c.loop-memory-test.true)

pub write_memory-requires-clause-room : goal.write_memory-requires-clause-room
write_memory-requires-clause-room g c = λ told. (c.loop-memory.invariant.written told).room

pub returns-in_err-write_memory-clause-store : goal.returns-in_err-write_memory-clause-store
returns-in_err-write_memory-clause-store g c =
    gives_most (c.loop-memory.memory-index + 1) (length c.args.memories.now) c.args.store.now c.write_memory.new.store (omega (arith, c.loop-memory-test.true))
    (gives_then c.loop-memory.memory-index c.args.store.now c.loop-memory.store c.write_memory.new.store c.loop-memory.invariant.gives c.write_memory.ensures.store)

pub returns-in_err-write_memory-clause-writes : goal.returns-in_err-write_memory-clause-writes
returns-in_err-write_memory-clause-writes g c =
    let i = c.loop-memory.memory-index in
    let step : map bytes (take (i + 1) c.args.memories.now) ≡ map bytes (take i c.args.memories.now) ++ c.deref.result.now ∷ [] =
    taken_more bytes c.args.memories.now i c.memory-item.result c.deref.result.now c.loop-memory-test.true c.memory-item.is c.deref.ensures.value in
    write_failed g.D.Disk c.write_memory.result _ _ _ _ _ _ _ c.from_residual-in_err-write_memory.ensures.1 c.in_err-write_memory.was (fewer_cost bytes c.args.memories.now (i + 1))
    (memory_written g.D.Disk c.write_memory.result i c.args.store.now c.loop-memory.store c.write_memory.new.store _ _ c.deref.result.now _ _ _ c.loop-memory.invariant.gives c.write_memory.ensures.store step c.loop-memory.invariant.writes c.write_memory.ensures.writes)

pub returns-in_err-push-clause-writes : goal.returns-in_err-push-clause-writes
returns-in_err-push-clause-writes g c =
    let i = c.loop-memory.memory-index in
    let step : map bytes (take (i + 1) c.args.memories.now) ≡ map bytes (take i c.args.memories.now) ++ c.deref.result.now ∷ [] =
    taken_more bytes c.args.memories.now i c.memory-item.result c.deref.result.now c.loop-memory-test.true c.memory-item.is c.deref.ensures.value in
    write_stopped g.D.Disk c.write_memory.result _ _ _ _ _ _ c.from_residual-in_err-push.ensures.1 (fewer_cost bytes c.args.memories.now (i + 1))
    (memory_written g.D.Disk c.write_memory.result i c.args.store.now c.loop-memory.store c.write_memory.new.store _ _ c.deref.result.now _ _ _ c.loop-memory.invariant.gives c.write_memory.ensures.store step c.loop-memory.invariant.writes c.write_memory.ensures.writes)

pub loop-memory-preserved : goal.loop-memory-preserved
loop-memory-preserved g c =
    let i = c.loop-memory.memory-index in
    let taken = map bytes (take i c.args.memories.now) in
    let step : map bytes (take (i + 1) c.args.memories.now) ≡ taken ++ c.deref.result.now ∷ [] =
    taken_more bytes c.args.memories.now i c.memory-item.result c.deref.result.now c.loop-memory-test.true c.memory-item.is c.deref.ensures.value in
    let pushed = c.in_ok-push.ensures.items in
    let before = c.loop-memory.invariant in
    let stack = c.in_ok-write_memory.field-0 in
    record {
      gives = gives_then i c.args.store.now c.loop-memory.store c.write_memory.new.store before.gives c.write_memory.ensures.store;
      whole = whole_more taken _ c.deref.result.now c.loop-memory.stacks.items c.push.new.self.items stack step pushed before.whole c.in_ok-write_memory.ensures.whole;
      used = used_push c.loop-memory.store c.write_memory.new.store c.loop-memory.stacks.items c.push.new.self.items stack pushed c.write_memory.ensures.store before.used c.in_ok-write_memory.ensures.used;
      writes = write_done g.D.Disk c.write_memory.result _ tt _ _ _ _ c.in_ok-write_memory.was
          (memory_written g.D.Disk c.write_memory.result i c.args.store.now c.loop-memory.store c.write_memory.new.store taken _ c.deref.result.now _ _ _ before.gives c.write_memory.ensures.store step before.writes c.write_memory.ensures.writes);
      written = λ told.
          writes_more c.loop-memory.store c.write_memory.new.store taken _ c.deref.result.now c.loop-memory.stacks.items c.push.new.self.items stack _ _ c.write_memory.ensures.store before.used step pushed
          (c.write_memory.ensures.writes.only told).touches (c.in_ok-write_memory.ensures.finished told) (before.written told);
    }
