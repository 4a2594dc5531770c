use Rattle.height_store.proofs.ChunkSources.{known_manifests}
use Rattle.height_store.proofs.chunks.chunks_are_found_in_states.Goals as goal

pub returns : goal.returns
returns c = known_manifests
