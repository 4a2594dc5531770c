use Rattle.std.proofs.Common.{List, ◌++◌, take}
use Rattle.state_spec.specs.Manifest.{ChunkRow}
use Rattle.chunk_index.specs.Index.{Indexes, rows_of}
use Rattle.chunk_index.proofs.index.ChunkIndex.with_file.Given as goal

abbrev pub invariant-loop-i : goal.invariant-loop-i
invariant-loop-i l = (rows : List ChunkRow) → Indexes l.initial.self-inside.places.entries rows → Indexes l.self-inside.places.entries (rows ++ rows_of l.file l.size (take l.i l.hashes))
