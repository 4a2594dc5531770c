-- The fields of a mark up to its memories, as they are read.
use Rattle.std.specs.Prelude.{ℕ, ◌==◌, not, Bool, Option, Some, None, Err, List, [], length, codes, nat_le, slice_get}
use Rattle.std.specs.Prelude.{if◌then◌else◌}
use Rattle.std.specs.List.{list_any}
use Rattle.std.specs.Int.{w32, w64}
use Rattle.format_spec.specs.Bytes.{Bytes, part_count}
use Rattle.format_spec.specs.Fields.{Reading, ◌>>=◌, gives, field, byte, number, block, string32, any, magic, each}
use Rattle.format_spec.specs.Versions.{is_version}
use Rattle.format_spec.specs.declared.limits.TheConstants.{CHUNK_PAGES, MAX_LAYERS}
use Rattle.store_spec.specs.Mark.{MarkMemory}

-- the version and, behind this height, the system text
unfoldable pub head_fields : ℕ → Reading (ℕ × Bytes)
head_fields height = do
  _ ← magic (codes "ICMK")
  version ← field (number w32) is_version
  _ ← field (number w64) (λ n. n == height)
  system ← field string32 any
  gives (version, system)

-- how many layers a memory of so many pages has at most
abbrev pub most_layers : ℕ → ℕ
most_layers pages = if pages == 0 then 0 else MAX_LAYERS

-- a number that isn't among those before
abbrev pub is_new : List ℕ → ℕ → Bool
is_new before n = not (list_any (λ m. m == n) before)

abbrev pub layer_after : List ℕ → Reading ℕ
layer_after before = field (number w64) (is_new before)

-- 1 where a hash follows, and 0 where the chunk has none; version 1 has a hash always, and no byte for it
abbrev pub flag_of : ℕ → Reading ℕ
flag_of version = if version == 1 then gives 1 else field byte (λ n. nat_le n 1)

abbrev pub hash_field : Reading (Option Bytes)
hash_field = field (block 32) any >>= (λ hash. gives (Some hash))

abbrev pub sum_behind : ℕ → Reading (Option Bytes)
sum_behind flag = if flag == 0 then gives None else hash_field

unfoldable pub sum_of : ℕ → Reading (Option Bytes)
sum_of version = flag_of version >>= sum_behind

abbrev pub sum_after : ℕ → List (Option Bytes) → Reading (Option Bytes)
sum_after version before = sum_of version

-- a memory of so many pages, in a mark of this version
unfoldable pub memory_of : ℕ → ℕ → Reading MarkMemory
memory_of version pages = do
  count ← field (number w32) (λ n. nat_le n (most_layers pages))
  layers ← each layer_after count []
  sums ← each (sum_after version) (part_count CHUNK_PAGES pages) []
  gives (record { layers = layers; sums = sums })

abbrev pub memory_at : ℕ → Option ℕ → Reading MarkMemory
memory_at version None c = Err c.at
memory_at version (Some pages) c = memory_of version pages c

-- the memory behind those before, where the memories have these numbers of pages
abbrev pub memory_after : ℕ → List ℕ → List MarkMemory → Reading MarkMemory
memory_after version pages before = memory_at version (slice_get pages (length before))
