-- The strings that are hashed for the root of a state of bytes are byte strings.
use Rattle.std.proofs.Common.{if◌then◌else◌, ◌≡◌, ℕ, suc, ◌+◌, ◌/◌, ◌%◌, ◌<◌, ◌&&◌, Bool, true, false, List, [], ◌∷◌, ◌++◌, length, map, codes, Option, Some, None, IfSome, refl, arith, nat_lt, nat_le}
use Rattle.std.specs.List.{list_all, AllByRecursion, flat_map, enumerate_from}
use Rattle.std.specs.Prelude.{slice_index}
use Rattle.std.proofs.lemmas.Bool.{and_parts, leb-true}
use Rattle.hex.specs.Hex.{encode_with, encode_lower, lower_digits}
use Rattle.format_spec.specs.Bytes.{Bytes, IsBytes, AreByteStrings, be16, be32, be64, short_string, parts}
use Rattle.format_spec.specs.Hashes.{ChunkSum, chunk_sum_text, chunk_string, file_string, piece_string, root_string, chunk_hash, file_hash, piece_hash}
use Rattle.format_spec.specs.declared.limits.TheConstants.{CHUNK_SIZE, PIECE_SIZE, MAX_LABELS}
use Rattle.state_spec.specs.State.{State, Canister, CanisterPart, IsState, IsByteCanister, IsByteEntry, FitsCanister, FitsEntry, system_of, part_of, is_label, is_path}
use Rattle.state_spec.specs.SystemText.{system_text, canister_text, entry_text, path_text, wasm_text}
use Rattle.state_spec.specs.Files.{File, files, memory_files, system_file, file_name, system_name}
use Rattle.state_spec.specs.Manifest.{FileRow, ChunkRow, row_of, chunk_sums, file_row, chunk_rows, has_row, row_chunks, sums_of, manifest_from, manifest_of}
use Rattle.state_spec.specs.ManifestText.{manifest_text, file_row_text, chunk_row_text}
use Rattle.state_spec.specs.Root.{meta_of, pieces_of, hashed_strings}
use Rattle.soundness.proofs.Texts.{rows_from, numbered}
use Rattle.state_spec.proofs.SystemSizes.{id_size, label_size}
use Rattle.soundness.proofs.StateManifests.{named}
use Rattle.format_spec.proofs.ByteStrings.{by_test, one_byte, join_bytes, named_bytes, short_bytes, flat_bytes, parts_bytes, high_bytes, be32_bytes, sha_bytes, strings_join}
use Rattle.format_spec.proofs.Lists.{all_join, all_filtered}
use Rattle.state_spec.proofs.RowSizes.{length-file_name}

-- ---- names

digits : IsBytes lower_digits
digits = by_test lower_digits refl

hex_bytes : (s : Bytes) → IsBytes (encode_with lower_digits s)
unfolding encode_with
hex_bytes [] = by_test [] refl
hex_bytes (b ∷ s) =
    one_byte (slice_index lower_digits (b / 16)) (slice_index lower_digits (b % 16) ∷ encode_with lower_digits s) (digits (b / 16))
    (one_byte (slice_index lower_digits (b % 16)) (encode_with lower_digits s) (digits (b % 16)) (hex_bytes s))

name_bytes : (id memory : Bytes) → IsBytes memory → IsBytes (file_name id memory)
name_bytes id memory h = join_bytes (codes "canister/" ++ encode_lower id ++ codes "/") memory (join_bytes (codes "canister/" ++ encode_lower id) (codes "/") (join_bytes (codes "canister/") (encode_lower id) (by_test (codes "canister/") refl) (hex_bytes id)) (by_test (codes "/") refl)) h

-- ---- the system text

wasm_bytes : (m : Option Bytes) → IfSome m IsBytes → IsBytes (wasm_text m)
wasm_bytes None h = by_test (0 ∷ []) refl
wasm_bytes (Some m) h = one_byte 1 (be32 (length m) ++ m) (omega arith) (join_bytes (be32 (length m)) m (high_bytes 4 (length m)) h)

canister_bytes : (v : ℕ) (c : Bytes × Canister) → IsByteCanister c → FitsCanister v (named c) → IsBytes (canister_text (named c))
canister_bytes v c b f =
    let x : Bytes = short_string c.0 in
    let y : Bytes = wasm_text c.1.wasm in
    let z : Bytes = short_string c.1.certified in
    let part : CanisterPart = part_of c.1 in
    join_bytes (x ++ y ++ z ++ be32 part.heap) (be32 part.stable)
    (join_bytes (x ++ y ++ z) (be32 part.heap)
    (join_bytes (x ++ y) z (join_bytes x y (short_bytes c.0 (omega (arith, id_size c.0 f.id)) b.id) (wasm_bytes c.1.wasm b.wasm)) (short_bytes c.1.certified (omega (arith, f.certified)) b.certified))
    (high_bytes 4 part.heap))
    (high_bytes 4 part.stable)

canisters_bytes : (v : ℕ) (cs : List (Bytes × Canister)) → AllByRecursion IsByteCanister cs → AllByRecursion (FitsCanister v) (map named cs) → IsBytes (flat_map canister_text (map named cs))
canisters_bytes v [] p f = by_test [] refl
canisters_bytes v (c ∷ cs) p f = join_bytes (canister_text (named c)) (flat_map canister_text (map named cs)) (canister_bytes v c p.0 f.0) (canisters_bytes v cs p.1 f.1)

labels_bytes : (p : List Bytes) → AreByteStrings p → list_all is_label p ≡ true → IsBytes (flat_map short_string p)
labels_bytes [] h f = by_test [] refl
labels_bytes (l ∷ p) h f =
    let a = and_parts (is_label l) (list_all is_label p) f in
    join_bytes (short_string l) (flat_map short_string p) (short_bytes l (omega (arith, label_size l a.0)) h.0) (labels_bytes p h.1 a.1)

path_bytes : (p : List Bytes) → AreByteStrings p → is_path p ≡ true → IsBytes (path_text p)
path_bytes p h f =
    let a = and_parts (nat_lt 0 (length p) && nat_le (length p) MAX_LABELS) (list_all is_label p) f in
    let b = and_parts (nat_lt 0 (length p)) (nat_le (length p) MAX_LABELS) a.0 in
    one_byte (length p) (flat_map short_string p) (omega (arith, leb-true (length p) 8 b.1)) (labels_bytes p h a.1)

entries_bytes : (es : List (List Bytes × Bytes)) → AllByRecursion IsByteEntry es → AllByRecursion FitsEntry es → IsBytes (flat_map entry_text es)
entries_bytes [] h f = by_test [] refl
entries_bytes (e ∷ es) h f =
    join_bytes (entry_text e) (flat_map entry_text es)
    (join_bytes (path_text e.0 ++ be16 (length e.1)) e.1 (join_bytes (path_text e.0) (be16 (length e.1)) (path_bytes e.0 h.0.path f.0.path) (high_bytes 2 (length e.1))) h.0.value)
    (entries_bytes es h.1 f.1)

system_bytes : (s : State) → IsState s → IsBytes (system_text (system_of s))
unfolding system_text system_of
system_bytes s h =
    let cs : List (Bytes × CanisterPart) = map named s.canisters in
    let x : Bytes = codes "ICSY" ++ be32 1 ++ be64 s.time in
    let y : Bytes = x ++ be32 (length cs) in
    let z : Bytes = y ++ flat_map canister_text cs in
    let w : Bytes = z ++ be32 (length s.entries) in
    join_bytes w (flat_map entry_text s.entries)
    (join_bytes z (be32 (length s.entries))
    (join_bytes y (flat_map canister_text cs)
    (join_bytes x (be32 (length cs)) (join_bytes (codes "ICSY" ++ be32 1) (be64 s.time) (by_test (codes "ICSY" ++ be32 1) refl) (high_bytes 8 s.time)) (high_bytes 4 (length cs)))
    (canisters_bytes s.version s.canisters h.bytes.canisters h.system.canisters_fit))
    (high_bytes 4 (length s.entries)))
    (entries_bytes s.entries h.bytes.entries h.system.entries_fit)

-- ---- files

record ByteFile (f : File) : Type 0 where
  name : IsBytes f.name
  short : length f.name < 256
  bytes : IsBytes f.bytes

memory_files_bytes : (v : ℕ) (cs : List (Bytes × Canister)) → AllByRecursion IsByteCanister cs → AllByRecursion (FitsCanister v) (map named cs) → AllByRecursion ByteFile (memory_files v cs)
memory_files_bytes v [] b f = tt
memory_files_bytes v (c ∷ cs) b f =
    let id = id_size c.0 f.0.id in
    let four : length (codes "heap") ≡ 4 = refl in
    let six : length (codes "stable") ≡ 6 = refl in (
      record { name = name_bytes c.0 (codes "heap") (by_test (codes "heap") refl); short = omega (arith, length-file_name c.0 (codes "heap"), id, four); bytes = b.0.heap },
      (record { name = name_bytes c.0 (codes "stable") (by_test (codes "stable") refl); short = omega (arith, length-file_name c.0 (codes "stable"), id, six); bytes = b.0.stable }, memory_files_bytes v cs b.1 f.1),
    )

files_bytes : (s : State) → IsState s → AllByRecursion ByteFile (files s)
unfolding files system_of
files_bytes s h = all_join ByteFile (memory_files s.version s.canisters) (system_file (system_of s) ∷ []) (memory_files_bytes s.version s.canisters h.bytes.canisters h.system.canisters_fit) (record { name = by_test system_name refl; short = omega arith; bytes = system_bytes s h }, tt)

-- ---- rows

sum_bytes : (c : ChunkSum) → IsBytes c.hash → IsBytes (chunk_sum_text c)
sum_bytes c h = join_bytes (be32 c.size ++ be64 c.offset) c.hash (join_bytes (be32 c.size) (be64 c.offset) (high_bytes 4 c.size) (high_bytes 8 c.offset)) h

hash_sums : (v size n : ℕ) (xs : List Bytes) → AllByRecursion (λ (c : ChunkSum). IsBytes c.hash) (rows_from v size n xs)
unfolding chunk_hash
hash_sums v size n [] = tt
hash_sums v size n (x ∷ xs) = go (has_row v x) (hash_sums v size (n + 1) xs)
  where
    go : (b : Bool) → AllByRecursion (λ (c : ChunkSum). IsBytes c.hash) (rows_from v size (n + 1) xs)
        → AllByRecursion (λ (c : ChunkSum). IsBytes c.hash) (row_of size (n, (if b then Some (chunk_hash x) else None)) ++ rows_from v size (n + 1) xs)
    go true h = (sha_bytes _, h)
    go false h = h

sums_text : (cs : List ChunkSum) → AllByRecursion (λ (c : ChunkSum). IsBytes c.hash) cs → IsBytes (flat_map chunk_sum_text cs)
sums_text [] h = by_test [] refl
sums_text (c ∷ cs) h = join_bytes (chunk_sum_text c) (flat_map chunk_sum_text cs) (sum_bytes c h.0) (sums_text cs h.1)

own_rows : (n : ℕ) (cs : List ChunkSum) → AllByRecursion (λ (c : ChunkSum). IsBytes c.hash) cs → AllByRecursion (λ r. IsBytes (chunk_row_text r)) (map (numbered n) cs)
own_rows n [] h = tt
own_rows n (c ∷ cs) h = (join_bytes (be32 n) (chunk_sum_text c) (high_bytes 4 n) (sum_bytes c h.0), own_rows n cs h.1)

chunk_rows_bytes : (n : ℕ) (fs : List File) → AllByRecursion (λ r. IsBytes (chunk_row_text r)) (chunk_rows n (map sums_of fs))
chunk_rows_bytes n [] = tt
chunk_rows_bytes n (f ∷ fs) = all_join (λ r. IsBytes (chunk_row_text r)) (map (numbered n) (chunk_sums (sums_of f))) (chunk_rows (suc n) (map sums_of fs)) (own_rows n (chunk_sums (sums_of f)) (hash_sums f.version (length f.bytes) 0 (parts CHUNK_SIZE f.bytes))) (chunk_rows_bytes (suc n) fs)

file_rows_bytes : (fs : List File) → AllByRecursion ByteFile fs → AllByRecursion (λ r. IsBytes (file_row_text r)) (map file_row (map sums_of fs))
unfolding file_hash
file_rows_bytes [] h = tt
file_rows_bytes (f ∷ fs) h = (join_bytes (short_string f.name ++ be64 (length f.bytes)) _ (join_bytes (short_string f.name) (be64 (length f.bytes)) (short_bytes f.name h.0.short h.0.name) (high_bytes 8 (length f.bytes))) (sha_bytes (file_string (chunk_sums (sums_of f)))), file_rows_bytes fs h.1)

manifest_bytes : (v : ℕ) (fs : List File) → AllByRecursion ByteFile fs → IsBytes (manifest_text (manifest_from v (map sums_of fs)))
unfolding manifest_text manifest_from
manifest_bytes v fs h =
    let rows : List FileRow = map file_row (map sums_of fs) in
    let chunks : List ChunkRow = chunk_rows 0 (map sums_of fs) in
    let x : Bytes = codes "ICMF" ++ be32 v in
    let y : Bytes = x ++ be32 (length rows) in
    let z : Bytes = y ++ flat_map file_row_text rows in
    let w : Bytes = z ++ be32 (length chunks) in
    join_bytes w (flat_map chunk_row_text chunks)
    (join_bytes z (be32 (length chunks)) (join_bytes y (flat_map file_row_text rows) (join_bytes x (be32 (length rows)) (join_bytes (codes "ICMF") (be32 v) (by_test (codes "ICMF") refl) (high_bytes 4 v)) (high_bytes 4 (length rows))) (flat_bytes file_row_text rows (file_rows_bytes fs h)))
    (high_bytes 4 (length chunks)))
    (flat_bytes chunk_row_text chunks (chunk_rows_bytes 0 fs))

-- ---- the strings

pub chunk_string_bytes : (xs : List Bytes) → AreByteStrings xs → AreByteStrings (map chunk_string xs)
chunk_string_bytes [] h = tt
chunk_string_bytes (x ∷ xs) h = (named_bytes (codes "ic-state-chunk") x refl h.0, chunk_string_bytes xs h.1)

pub piece_string_bytes : (xs : List Bytes) → AreByteStrings xs → AreByteStrings (map piece_string xs)
piece_string_bytes [] h = tt
piece_string_bytes (x ∷ xs) h = (named_bytes (codes "ic-state-sub-manifest") x refl h.0, piece_string_bytes xs h.1)

chunk_strings : (fs : List File) → AllByRecursion ByteFile fs → AreByteStrings (flat_map (λ f. map chunk_string (row_chunks f)) fs)
chunk_strings [] h = tt
chunk_strings (f ∷ fs) h = strings_join (map chunk_string (row_chunks f)) (flat_map (λ g. map chunk_string (row_chunks g)) fs)
    (chunk_string_bytes (row_chunks f) (all_filtered IsBytes (has_row f.version) (parts CHUNK_SIZE f.bytes) (parts_bytes CHUNK_SIZE f.bytes h.0.bytes))) (chunk_strings fs h.1)

file_strings : (fs : List File) → AreByteStrings (map (λ f. file_string (chunk_sums (sums_of f))) fs)
file_strings [] = tt
file_strings (f ∷ fs) =
    let sums : List ChunkSum = chunk_sums (sums_of f) in
    let count : Bytes = be32 (length sums) in (
      named_bytes (codes "ic-state-file") (count ++ flat_map chunk_sum_text sums) refl
          (join_bytes count (flat_map chunk_sum_text sums) (be32_bytes (length sums)) (sums_text sums (hash_sums f.version (length f.bytes) 0 (parts CHUNK_SIZE f.bytes)))),
      file_strings fs,
    )

piece_hashes : (xs : List Bytes) → IsBytes (flat_map (λ h. h) (map piece_hash xs))
unfolding piece_hash
piece_hashes [] = by_test [] refl
piece_hashes (x ∷ xs) = join_bytes (piece_hash x) (flat_map (λ h. h) (map piece_hash xs)) (sha_bytes (piece_string x)) (piece_hashes xs)

pub root_bytes : (v : ℕ) (xs : List Bytes) → IsBytes (root_string v (map piece_hash xs))
root_bytes v xs =
    let n : ℕ = length (map piece_hash xs) in
    let hashes : Bytes = flat_map (λ h. h) (map piece_hash xs) in
    named_bytes (codes "ic-state-meta-manifest") (be32 v ++ be32 n ++ hashes) refl
    (join_bytes (be32 v ++ be32 n) hashes (join_bytes (be32 v) (be32 n) (be32_bytes v) (be32_bytes n)) (piece_hashes xs))

pub state_strings : (s : State) → IsState s → AreByteStrings (hashed_strings s)
unfolding hashed_strings meta_of manifest_of
state_strings s h =
    let fs = files_bytes s h in
    let cs : List Bytes = flat_map (λ f. map chunk_string (row_chunks f)) (files s) in
    let gs : List Bytes = map (λ f. file_string (chunk_sums (sums_of f))) (files s) in
    let ps : List Bytes = map piece_string (pieces_of (manifest_of s)) in
    strings_join (cs ++ gs ++ ps) (root_string s.version (meta_of (manifest_of s)).pieces ∷ [])
    (strings_join (cs ++ gs) ps (strings_join cs gs (chunk_strings (files s) fs) (file_strings (files s)))
    (piece_string_bytes (pieces_of (manifest_of s)) (parts_bytes PIECE_SIZE (manifest_text (manifest_of s)) (manifest_bytes s.version (files s) fs))))
    (root_bytes s.version (pieces_of (manifest_of s)), tt)
