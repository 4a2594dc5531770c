-- What the manifest of a state counts, by the sizes of its parts.
use Rattle.std.proofs.Common.{◌≡◌, ℕ, suc, ◌+◌, ◌*◌, ◌≤◌, List, [], ◌∷◌, ◌++◌, length, map, take, codes, Option, Some, None, refl, sym, ap, subst, ◌∙◌, arith}
use Rattle.std.specs.Prelude.{slice_get}
use Rattle.std.specs.List.{flat_map, AllByRecursion, enumerate_from}
use Rattle.std.proofs.lemmas.List.{length-map, length-append, take_more}
use Rattle.std.proofs.lemmas.Option.{slice_get_within, get_or_from_slice_get}
use Rattle.sha2.proofs.Facts256.{length-sha256}
use Rattle.format_spec.proofs.Cuts.{heads}
use Rattle.format_spec.specs.Bytes.{Bytes, be32, part_count, parts}
use Rattle.format_spec.specs.Hashes.{ChunkSum, chunk_hash, file_hash}
use Rattle.format_spec.specs.declared.limits.TheConstants.{CHUNK_SIZE, PAGE_SIZE, PIECE_SIZE}
use Rattle.format_spec.specs.Versions.{memory_limit}
use Rattle.format_spec.proofs.StateLimits.{memory_limit-2}
use Rattle.format_spec.proofs.Lists.{all_join}
use Rattle.state_spec.specs.State.{State, SystemPart, CanisterPart, FitsCanister, system_of, memory_bytes}
use Rattle.state_spec.specs.SystemText.{system_text}
use Rattle.state_spec.specs.Files.{heap_name, stable_name, memory_pages, memories_in, system_name}
use Rattle.state_spec.specs.Manifest.{Manifest, FileSums, FileRow, ChunkRow, chunk_sums, chunk_rows, file_row, memory_sums, file_sums, manifest_from, manifest_of, chunk_hashes, sum_of, row_of}
use Rattle.state_spec.specs.ManifestText.{manifest_text, file_row_text, chunk_row_text}
use Rattle.state_spec.specs.Root.{pieces_of}
use Rattle.state_spec.proofs.SystemSizes.{id_size, system_size}
use Rattle.sys_state.specs.declared.record.CanisterRecord.{CanisterRecord}
use Rattle.sys_state.specs.System.{System, IsWithinLimits, part_of, kept_of}
use Rattle.manifest.specs.declared.counts.Counts.{Counts}
use Rattle.manifest.specs.Counts.{counts_by, counts_in, sized_counts, rows_size, chunks_in}
use Rattle.manifest.specs.Fits.{FitMemories}
use Rattle.manifest.proofs.Memories.{named}
use Rattle.sys_state.proofs.OfState.{parts_of_state}
use Rattle.manifest.proofs.States.{of_state}
use Rattle.state_spec.proofs.RowSizes.{length-file_name, length-file_row_text, length-chunk_row_text, length-chunk_hashes}
use Rattle.format_spec.proofs.Parts.{parts_length}

-- ---- rows

file_text : (f : FileSums) → length (file_row_text (file_row f)) ≡ 41 + length f.name
unfolding file_hash
file_text f = length-file_row_text (file_row f) (length-sha256 _)

-- ---- files by name and number of chunks

abbrev rows_total : List FileSums → ℕ
rows_total [] = 0
rows_total (f ∷ fs) = 41 + length f.name + rows_total fs

abbrev chunks_total : List FileSums → ℕ
chunks_total [] = 0
chunks_total (f ∷ fs) = length f.hashes + chunks_total fs

-- each chunk has its hash
abbrev Is32 : Option Bytes → Type 0
Is32 None = ⊥
Is32 (Some hash) = length hash ≡ 32

abbrev Are32 : List (Option Bytes) → Type 0
Are32 hashes = AllByRecursion Is32 hashes

abbrev Hashed : FileSums → Type 0
Hashed f = Are32 f.hashes

chunks_32 : (cs : List Bytes) → Are32 (map (sum_of 1) cs)
unfolding chunk_hash
chunks_32 [] = tt
chunks_32 (c ∷ cs) = (length-sha256 _, chunks_32 cs)

each_row : (size k : ℕ) (hs : List (Option Bytes)) → Are32 hs → length (flat_map (row_of size) (enumerate_from k hs)) ≡ length hs
each_row size k [] h = refl
each_row size k (None ∷ hs) h = absurd h.0
each_row size k (Some x ∷ hs) h = ap suc (each_row size (k + 1) hs h.1)

files_text : (fs : List FileSums) → length (flat_map file_row_text (map file_row fs)) ≡ rows_total fs
files_text [] = refl
files_text (f ∷ fs) = omega (arith, file_text f, files_text fs, length-append (file_row_text (file_row f)) (flat_map file_row_text (map file_row fs)))

abbrev own_rows : ℕ → FileSums → List ChunkRow
own_rows n f = map (λ c. record { file = n; sum = c }) (chunk_sums f)

own_count : (n : ℕ) (f : FileSums) → Hashed f → length (own_rows n f) ≡ length f.hashes
own_count n f h = length-map (chunk_sums f) (λ c. record { file = n; sum = c }) ∙ each_row f.size 0 f.hashes h

rows_count : (n : ℕ) (fs : List FileSums) → AllByRecursion Hashed fs → length (chunk_rows n fs) ≡ chunks_total fs
rows_count n [] h = refl
rows_count n (f ∷ fs) h = omega (arith, own_count n f h.0, rows_count (suc n) fs h.1, length-append (own_rows n f) (chunk_rows (suc n) fs))

all_text : (rs : List ChunkRow) → AllByRecursion (λ r. length r.sum.hash ≡ 32) rs → length (flat_map chunk_row_text rs) ≡ 48 * length rs
all_text [] h = refl
all_text (r ∷ rs) h = omega (arith, length-chunk_row_text r h.0, all_text rs h.1, length-append (chunk_row_text r) (flat_map chunk_row_text rs))

abbrev Long : ChunkRow → Type 0
Long r = length r.sum.hash ≡ 32

own_hashed : (n size k : ℕ) (hs : List (Option Bytes)) → Are32 hs → AllByRecursion Long (map (λ (c : ChunkSum). record { file = n; sum = c }) (flat_map (row_of size) (enumerate_from k hs)))
own_hashed n size k [] h = tt
own_hashed n size k (None ∷ hs) h = absurd h.0
own_hashed n size k (Some x ∷ hs) h = (h.0, own_hashed n size (k + 1) hs h.1)

rows_hashed : (n : ℕ) (fs : List FileSums) → AllByRecursion Hashed fs → AllByRecursion Long (chunk_rows n fs)
rows_hashed n [] h = tt
rows_hashed n (f ∷ fs) h = all_join Long (own_rows n f) (chunk_rows (suc n) fs) (own_hashed n f.size 0 f.hashes h.0) (rows_hashed (suc n) fs h.1)

-- ---- the text

pub record Counted (m : Manifest) (files rows chunks : ℕ) : Type 0 where
  pub files_are : length m.files ≡ files
  pub chunks_are : length m.chunks ≡ chunks
  pub bytes_are : length (manifest_text m) ≡ 16 + rows + 48 * chunks

counted : (fs : List FileSums) → AllByRecursion Hashed fs → Counted (manifest_from 1 fs) (length fs) (rows_total fs) (chunks_total fs)
unfolding manifest_from manifest_text
counted fs hashed =
    let rows : List FileRow = map file_row fs in
    let chunks : List ChunkRow = chunk_rows 0 fs in
    let a : Bytes = codes "ICMF" ++ be32 1 in
    let b : Bytes = a ++ be32 (length rows) in
    let c : Bytes = b ++ flat_map file_row_text rows in
    let d : Bytes = c ++ be32 (length chunks) in
    let eight : length a ≡ 8 = refl in
    let four : length (be32 (length rows)) ≡ 4 = refl in
    let four' : length (be32 (length chunks)) ≡ 4 = refl in
    record {
      files_are = length-map fs file_row;
      chunks_are = rows_count 0 fs hashed;
      bytes_are = omega (
        arith,
        eight,
        four,
        four',
        length-append a (be32 (length rows)),
        length-append b (flat_map file_row_text rows),
        length-append c (be32 (length chunks)),
        length-append d (flat_map chunk_row_text chunks),
        files_text fs,
        all_text chunks (rows_hashed 0 fs hashed),
        rows_count 0 fs hashed,
      );
    }

-- ---- the files of a state

record Totals (fs : List FileSums) (ms : List (Bytes × ℕ)) (size : ℕ) : Type 0 where
  count : length fs ≡ length ms + 1
  rows : rows_total fs ≡ rows_size ms + 47
  chunks : chunks_total fs ≡ chunks_in ms + part_count CHUNK_SIZE size
  hashed : AllByRecursion Hashed fs

totals : (ms : List (Bytes × ℕ)) (bs : List Bytes) (text : Bytes) → map (λ (b : Bytes). length b) bs ≡ map (λ (m : Bytes × ℕ). m.1 * PAGE_SIZE) ms
    → Totals (memory_sums ms (map (chunk_hashes 1) bs) ++ record { name = system_name; size = length text; hashes = chunk_hashes 1 text } ∷ []) ms (length text)
totals [] [] text e =
    let one : length (chunk_hashes 1 text) ≡ part_count CHUNK_SIZE (length text) = length-chunk_hashes 1 text in
    record { count = refl; rows = refl; chunks = omega (arith, one); hashed = (chunks_32 (parts CHUNK_SIZE text), tt) }
totals [] (b ∷ bs) text e = absurd cc
totals (m ∷ ms) [] text e = absurd cc
totals (m ∷ ms) (b ∷ bs) text e =
    let h = heads (length b) (m.1 * PAGE_SIZE) (map (λ (x : Bytes). length x) bs) (map (λ (x : Bytes × ℕ). x.1 * PAGE_SIZE) ms) e in
    let t = totals ms bs text h.1 in
    let own : length (chunk_hashes 1 b) ≡ part_count CHUNK_SIZE (m.1 * PAGE_SIZE) = length-chunk_hashes 1 b ∙ ap (part_count CHUNK_SIZE) h.0 in
    record {
      count = omega (arith, t.count);
      rows = omega (arith, t.rows);
      chunks = omega (arith, t.chunks, own);
      hashed = (chunks_32 (parts CHUNK_SIZE b), t.hashed);
    }

pub state_counted : (p : SystemPart) (s : State) (text : Bytes) → text ≡ system_text p → s.version ≡ 1 → system_of s ≡ p → FitMemories p (memory_bytes s)
    → Counted (manifest_of s) (length (memories_in p) + 1) (rows_size (memories_in p) + 47) (chunks_in (memories_in p) + part_count CHUNK_SIZE (length text))
unfolding file_sums
state_counted p s text is one parts-are fit =
    let ms = memories_in p in
    let bs = memory_bytes s in
    let t = totals ms bs (system_text p) fit in
    let fs : List FileSums = file_sums p (map (chunk_hashes 1) bs) in
    let c = counted fs t.hashed in
    let at : (m : Manifest) → manifest_from 1 fs ≡ m → Counted m (length fs) (rows_total fs) (chunks_total fs) = λ m e. subst (λ (x : Manifest). Counted x (length fs) (rows_total fs) (chunks_total fs)) e c in
    let here = at (manifest_of s) (of_state 1 s p bs fit one parts-are refl) in
    let size : length text ≡ length (system_text p) = ap length is in
    record {
      files_are = here.files_are ∙ t.count;
      chunks_are = here.chunks_are ∙ t.chunks ∙ ap (λ (n : ℕ). chunks_in ms + part_count CHUNK_SIZE n) (sym size);
      bytes_are = here.bytes_are ∙ ap (λ (n : ℕ). 16 + n + 48 * chunks_total fs) t.rows
          ∙ ap (λ (n : ℕ). 16 + (rows_size ms + 47) + 48 * n) (t.chunks ∙ ap (λ (n : ℕ). chunks_in ms + part_count CHUNK_SIZE n) (sym size));
    }

-- ---- the loop over canisters

both_names : (id : Bytes) → length (heap_name id) + length (stable_name id) ≡ 30 + 4 * length id
both_names id =
    let four : length (codes "heap") ≡ 4 = refl in
    let six : length (codes "stable") ≡ 6 = refl in
    omega (arith, length-file_name id (codes "heap"), length-file_name id (codes "stable"), four, six)

sizes_push : (cs : List (Bytes × CanisterRecord)) (c : Bytes × CanisterRecord)
    → (length (named (cs ++ c ∷ [])) ≡ length (named cs) + 2)
    × (rows_size (named (cs ++ c ∷ [])) ≡ rows_size (named cs) + (112 + 4 * length c.0))
    × (chunks_in (named (cs ++ c ∷ [])) ≡ chunks_in (named cs) + (part_count CHUNK_SIZE (c.1.heap * PAGE_SIZE) + part_count CHUNK_SIZE (c.1.stable * PAGE_SIZE)))
sizes_push [] c = let names = both_names c.0 in (refl, omega (arith, names), omega arith)
sizes_push (d ∷ cs) c = let r = sizes_push cs c in (omega (arith, r.0), omega (arith, r.1), omega (arith, r.2))

pub sizes_more : (cs : List (Bytes × CanisterRecord)) (i : ℕ) (id : Bytes) (c : CanisterRecord) → slice_get cs i ≡ Some (id, c)
    → (length (named (take (i + 1) cs)) ≡ length (named (take i cs)) + 2)
    × (rows_size (named (take (i + 1) cs)) ≡ rows_size (named (take i cs)) + (112 + 4 * length id))
    × (chunks_in (named (take (i + 1) cs)) ≡ chunks_in (named (take i cs)) + (part_count CHUNK_SIZE (c.heap * PAGE_SIZE) + part_count CHUNK_SIZE (c.stable * PAGE_SIZE)))
sizes_more cs i id c there =
    let lt = slice_get_within cs i (id, c) there in
    let next : take (i + 1) cs ≡ take i cs ++ (id, c) ∷ [] = take_more cs i (id, c) lt ∙ ap (λ (x : Bytes × CanisterRecord). take i cs ++ x ∷ []) (get_or_from_slice_get cs i (id, c) (id, c) there) in
    let r = sizes_push (take i cs) (id, c) in (
      ap (λ (ds : List (Bytes × CanisterRecord)). length (named ds)) next ∙ r.0,
      ap (λ (ds : List (Bytes × CanisterRecord)). rows_size (named ds)) next ∙ r.1,
      ap (λ (ds : List (Bytes × CanisterRecord)). chunks_in (named ds)) next ∙ r.2,
    )

-- ---- how much there is at most

few_parts : (pages : ℕ) → pages ≤ memory_limit 2 → part_count CHUNK_SIZE (pages * PAGE_SIZE) ≤ 512
few_parts pages few = omega (arith, few, memory_limit-2)

few_sizes : (cs : List (Bytes × CanisterPart)) → AllByRecursion (FitsCanister 2) cs
    → (rows_size (memory_pages cs) ≤ 228 * length cs) × (chunks_in (memory_pages cs) ≤ 1024 * length cs) × (length (memory_pages cs) ≡ 2 * length cs)
few_sizes [] h = (omega arith, omega arith, refl)
few_sizes (c ∷ cs) h =
    let r = few_sizes cs h.1 in
    let id = id_size c.0 h.0.id in
    (omega (arith, r.0, id, both_names c.0), omega (arith, r.1, few_parts c.1.heap h.0.heap, few_parts c.1.stable h.0.stable), omega (arith, r.2))

pub record Few (s : System) (text : Bytes) : Type 0 where
  pub rows : rows_size (memories_in (part_of s)) ≤ 233472
  pub chunks : chunks_in (memories_in (part_of s)) ≤ 1048576
  pub text_chunks : part_count CHUNK_SIZE (length text) ≤ 64
  pub memories : length (memories_in (part_of s)) ≤ 2048

pub few : (s : System) (text : Bytes) → IsWithinLimits s → text ≡ system_text (part_of s) → Few s text
few s text kept is =
    let r = few_sizes (part_of s).canisters kept.system.canisters_fit in
    let n : length (part_of s).canisters ≤ 1024 = kept.system.few_canisters in
    let size : length text ≤ 67108864 = subst (λ (n : ℕ). n ≤ 67108864) (sym (ap length is)) (system_size 2 (part_of s) kept.system).1 in
    record {
      rows = omega (arith, r.0, n);
      chunks = omega (arith, r.1, n);
      text_chunks = omega (arith, size);
      memories = omega (arith, r.2, n);
    }

-- ---- the result

abbrev pub four_counts : ℕ → ℕ → ℕ → ℕ → Counts
four_counts a b c d = record { files = a; chunks = b; pieces = c; bytes = d }

pub by_state : (s : State) (sys : System) → s.version ≡ 1 → kept_of s ≡ sys → FitMemories (part_of sys) (memory_bytes s) → counts_by (part_of sys) ≡ counts_in (manifest_of s)
by_state s sys one kept fit =
    let p = part_of sys in
    let parts-are : system_of s ≡ p = sym (parts_of_state s) ∙ ap part_of kept in
    let all = state_counted p s (system_text p) refl one parts-are fit in
    let m = manifest_of s in
    let chunks : ℕ = chunks_in (memories_in p) + part_count CHUNK_SIZE (length (system_text p)) in
    let bytes : ℕ = 16 + (rows_size (memories_in p) + 47) + 48 * chunks in
    let files_are : length (memories_in p) + 1 ≡ length m.files = sym all.files_are in
    let chunks_are : chunks ≡ length m.chunks = sym all.chunks_are in
    let bytes_are : bytes ≡ length (manifest_text m) = sym all.bytes_are in
    let pieces_are : part_count PIECE_SIZE bytes ≡ length (pieces_of m) = ap (part_count PIECE_SIZE) bytes_are ∙ sym (parts_length PIECE_SIZE (manifest_text m)) in
    λ i. four_counts (files_are i) (chunks_are i) (pieces_are i) (bytes_are i)

-- as the code has it
pub by_sizes : (p : SystemPart) (text : Bytes) (memories rows own more : ℕ) → text ≡ system_text p → memories ≡ length (memories_in p) → rows ≡ rows_size (memories_in p) → own ≡ chunks_in (memories_in p)
    → more ≡ part_count CHUNK_SIZE (length text) → sized_counts memories rows (own + more) ≡ counts_by p
by_sizes p text memories rows own more is memories-are rows-are own-are more-are =
    let all : own + more ≡ chunks_in (memories_in p) + part_count CHUNK_SIZE (length (system_text p)) = (λ i. own-are i + (more-are ∙ ap (λ (t : Bytes). part_count CHUNK_SIZE (length t)) is) i) in
    λ i. sized_counts (memories-are i) (rows-are i) (all i)
