-- How long the names and rows of a manifest are, and how many chunks a file has.
use Rattle.std.proofs.Common.{◌≡◌, ℕ, ◌+◌, ◌*◌, ◌++◌, length, codes, refl, arith, length-append, ◌∙◌}
use Rattle.hex.specs.Hex.{encode_lower, lower_digits}
use Rattle.hex.proofs.HexLemmas.{length-encode_with}
use Rattle.format_spec.specs.Bytes.{Bytes, be32, be64, short_string, part_count, parts}
use Rattle.format_spec.proofs.Cuts.{length-be32, length-be64}
use Rattle.state_spec.specs.Files.{file_name}
use Rattle.state_spec.specs.Manifest.{ChunkRow, FileRow, sum_of, chunk_hashes}
use Rattle.state_spec.specs.ManifestText.{chunk_row_text, file_row_text}
use Rattle.format_spec.specs.Hashes.{chunk_sum_text}
use Rattle.std.proofs.lemmas.List.{length-map}
use Rattle.format_spec.specs.declared.limits.TheConstants.{CHUNK_SIZE}
use Rattle.format_spec.proofs.Parts.{parts_length}

pub length-file_name : (id memory : Bytes) → length (file_name id memory) ≡ 10 + 2 * length id + length memory
length-file_name id memory =
    let a = length-append (codes "canister/" ++ encode_lower id ++ codes "/") memory in
    let b = length-append (codes "canister/" ++ encode_lower id) (codes "/") in
    let c = length-append (codes "canister/") (encode_lower id) in
    let d = length-encode_with lower_digits id in
    let slash : length (codes "/") ≡ 1 = refl in
    let front : length (codes "canister/") ≡ 9 = refl in
    omega (arith, a, b, c, d, slash, front)

pub length-file_row_text : (r : FileRow) → length r.hash ≡ 32 → length (file_row_text r) ≡ 41 + length r.name
length-file_row_text r h = omega (arith, h, length-be64 r.size, length-append (short_string r.name ++ be64 r.size) r.hash, length-append (short_string r.name) (be64 r.size))

pub length-chunk_row_text : (r : ChunkRow) → length r.sum.hash ≡ 32 → length (chunk_row_text r) ≡ 48
length-chunk_row_text r h =
    omega (arith, h, length-be32 r.file, length-be32 r.sum.size, length-be64 r.sum.offset, length-append (be32 r.file) (chunk_sum_text r.sum), length-append (be32 r.sum.size ++ be64 r.sum.offset) r.sum.hash, length-append (be32 r.sum.size) (be64 r.sum.offset))

pub length-chunk_hashes : (version : ℕ) (bytes : Bytes) → length (chunk_hashes version bytes) ≡ part_count CHUNK_SIZE (length bytes)
length-chunk_hashes version bytes = length-map (parts CHUNK_SIZE bytes) (sum_of version) ∙ parts_length CHUNK_SIZE bytes
