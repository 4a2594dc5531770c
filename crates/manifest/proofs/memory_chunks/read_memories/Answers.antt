use Rattle.std.proofs.Common.{◌≡◌, ◌∙◌, Vec, Global, length, map, arith}
use Rattle.std.proofs.lemmas.Result.{IfOk-weaker}
use Rattle.state_spec.specs.Manifest.{ChunkRow}
use Rattle.state_spec.specs.ManifestText.{slot_of}
use Rattle.manifest.specs.Reading.{InOrder}
use Rattle.manifest.proofs.RowLoops.{slots_in_order}
use Rattle.manifest.proofs.memory_chunks.read_memories.Goals as goal

pub returns-then-version-eq1-clause-order : goal.returns-then-version-eq1-clause-order
returns-then-version-eq1-clause-order c =
    let memories = c.args.memories.now in
    IfOk-weaker c.read_chunks.result (λ (rows : Vec ChunkRow Global). map slot_of rows.items ≡ c.args.wanted.now) (λ (rows : Vec ChunkRow Global). InOrder 0 (length memories) rows.items)
    (λ rows is. slots_in_order memories 0 (length memories) rows.items (omega arith) (is ∙ c.requires.slots)) c.read_chunks.ensures.slots
