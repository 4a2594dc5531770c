-- What calls on manifests need: numbers that fit the fields of the text, and lists that fit the parts of a state.
use Rattle.std.specs.Prelude.{◌≡◌, ◌<◌, ◌*◌, ◌^◌, List, length, map, Option}
use Rattle.std.specs.List.{AllByRecursion}
use Rattle.format_spec.specs.Bytes.{Bytes, part_count}
use Rattle.format_spec.specs.declared.limits.TheConstants.{PAGE_SIZE, CHUNK_SIZE}
use Rattle.state_spec.specs.State.{SystemPart}
use Rattle.state_spec.specs.Files.{memories_in}
use Rattle.state_spec.specs.Manifest.{Manifest}

-- the numbers of rows fit four bytes, and the length of each name one
pub record FitsText (m : Manifest) : Type 0 where
  pub files : length m.files < 2 ^ 32
  pub chunks : length m.chunks < 2 ^ 32
  pub names : AllByRecursion (λ row. length row.name < 256) m.files

-- a list of sums for each memory in file order, with one sum for each chunk
abbrev pub FitSums : SystemPart → List (List (Option Bytes)) → Type 0
FitSums s hashes =
    map (λ list. length list) hashes ≡ map (λ memory. part_count CHUNK_SIZE (memory.1 * PAGE_SIZE)) (memories_in s)

-- the bytes of each memory in file order, as many as its pages have
abbrev pub FitMemories : SystemPart → List Bytes → Type 0
FitMemories s memories = map (λ bytes. length bytes) memories ≡ map (λ memory. memory.1 * PAGE_SIZE) (memories_in s)
