-- What a manifest tells of its files: which is the system text, and by which version the chunks of each have rows.
use Rattle.std.specs.Prelude.{ℕ, ◌-◌, ◌==◌, if◌then◌else◌, length, slice_get}
use Rattle.std.specs.Option.{option_map_or}
use Rattle.state_spec.specs.Manifest.{Manifest, ChunkRow}

-- the number of the last file, which is the system text
abbrev pub system_number : Manifest → ℕ
system_number m = length m.files - 1

-- each chunk of the system text has a row, in every version
abbrev pub file_version : Manifest → ℕ → ℕ
file_version m n = if n == system_number m then 1 else m.version

abbrev pub row_version : Manifest → ChunkRow → ℕ
row_version m row = file_version m row.file

-- the size of the file of this number
abbrev pub file_size : Manifest → ℕ → ℕ
file_size m n = option_map_or (λ r. r.size) (slice_get m.files n) 0
