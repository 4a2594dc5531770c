-- A manifest with files added to it.
use Rattle.std.specs.Prelude.{◌≡◌, ℕ, ◌*◌, List, [], ◌∷◌, ◌++◌, length, map, Option}
use Rattle.format_spec.specs.Bytes.{Bytes}
use Rattle.format_spec.specs.Hashes.{ChunkSum}
use Rattle.format_spec.specs.declared.limits.TheConstants.{PAGE_SIZE}
use Rattle.state_spec.specs.State.{SystemPart}
use Rattle.state_spec.specs.Files.{heap_name, stable_name, memories_in}
use Rattle.state_spec.specs.Manifest.{Manifest, FileSums, file_row, chunk_sums, memory_sums}
use Rattle.sys_state.specs.declared.record.CanisterRecord.{CanisterRecord}

-- the rows of the file and of its chunks stand behind those before
pub record Adds (old new : Manifest) (file : FileSums) : Type 0 where
  pub version : new.version ≡ old.version
  pub files : new.files ≡ old.files ++ file_row file ∷ []
  pub chunks : new.chunks ≡ old.chunks ++ map (λ sum. record { file = length old.files; sum = sum }) (chunk_sums file)

-- the sums of the chunks of a file that have rows, whatever its name
abbrev pub sums_from : ℕ → List (Option Bytes) → List ChunkSum
sums_from size hashes = chunk_sums (record { name = []; size = size; hashes = hashes })

-- both memories of a canister
abbrev pub canister_sums : Bytes → CanisterRecord → List (Option Bytes) → List (Option Bytes) → List FileSums
canister_sums id c heap stable =
    record { name = heap_name id; size = c.heap * PAGE_SIZE; hashes = heap }
    ∷ record { name = stable_name id; size = c.stable * PAGE_SIZE; hashes = stable } ∷ []

-- the memories of all canisters
abbrev pub all_memory_sums : SystemPart → List (List (Option Bytes)) → List FileSums
all_memory_sums s hashes = memory_sums (memories_in s) hashes
