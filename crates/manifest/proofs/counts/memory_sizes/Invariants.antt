use Rattle.std.proofs.Common.{◌≡◌, ◌*◌, ◌^◌, ◌≤◌, take, length}
use Rattle.manifest.specs.Counts.{rows_size, chunks_in}
use Rattle.manifest.proofs.Memories.{named}
use Rattle.manifest.proofs.counts.memory_sizes.Given as goal

abbrev pub invariant-loop-i : goal.invariant-loop-i
invariant-loop-i l =
    (l.memories ≡ length (named (take l.i l.sys.canisters))) × (l.rows ≡ rows_size (named (take l.i l.sys.canisters))) × (l.chunks ≡ chunks_in (named (take l.i l.sys.canisters)))
    × (l.memories ≡ 2 * l.i) × (l.rows ≤ 228 * l.i) × (l.chunks ≤ 2 ^ 26 * l.i)
