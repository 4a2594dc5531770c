-- A chunk that is hashed in pieces.
use Rattle.sha2.specs.Hashers.{Holds256}
use Rattle.format_spec.specs.Bytes.{Bytes}
use Rattle.format_spec.specs.Hashes.{chunk_string}
use Rattle.hash_domain.specs.declared.chunks.ChunkHasher.{ChunkHasher}

-- the hasher was fed these bytes of a chunk
abbrev pub IsFed : ChunkHasher → Bytes → Type 0
IsFed hasher fed = Holds256 hasher.inner (chunk_string fed)
