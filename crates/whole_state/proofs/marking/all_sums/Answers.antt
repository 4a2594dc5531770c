use Rattle.std.proofs.Common.{List, Vec, Global, ℕ, Option}
use Rattle.format_spec.specs.Bytes.{Bytes}
use Rattle.manifest.proofs.States.{scratch_hashes}
use Rattle.whole_state.proofs.marking.all_sums.Goals as goal

abbrev hashes : Vec (Option Bytes) Global → List (Option Bytes)
hashes list = list.items

abbrev bytes : Vec ℕ Global → Bytes
bytes memory = memory.items

pub returns : goal.returns
returns c = scratch_hashes 1 hashes bytes c.loop-memory.sums.items c.args.memories.now c.loop-memory.memory-index c.loop-memory-test.false c.loop-memory.invariant
