use Rattle.std.proofs.Common.{ℕ, List, ◌++◌, subst}
use Rattle.state_spec.specs.Manifest.{ChunkRow}
use Rattle.chunk_index.specs.Index.{Indexes, rows_at}
use Rattle.chunk_index.proofs.Rows.{turn}
use Rattle.chunk_index.proofs.index.ChunkIndex.with_file.Goals as goal

pub loop-i-preserved : goal.loop-i-preserved
loop-i-preserved c = λ rows indexed.
    turn c.args.file c.args.size c.loop-i.i c.index-hashes-i.result c.args.hashes.now rows c.loop-i.self-inside.places.entries c.put_row.new.places.entries c.loop-i-test.true c.index-hashes-i.is
    (subst (λ (n : ℕ). (rs : List ChunkRow) → Indexes c.loop-i.self-inside.places.entries rs → Indexes c.put_row.new.places.entries (rs ++ rows_at n c.index-hashes-i.result (record { file = c.args.file; chunk = c.loop-i.i }))) c.size_at.ensures c.in_ok-put_row.ensures)
    (c.loop-i.invariant rows indexed)
