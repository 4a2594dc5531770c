-- The manifest of a valid state is one that its text spells.
use Rattle.std.proofs.Common.{◌≡◌, ℕ, suc, ◌+◌, ◌-◌, ◌*◌, ◌/◌, ◌%◌, ◌<◌, ◌≤◌, ◌==◌, ◌&&◌, Bool, true, false, cond, List, [], ◌∷◌, ◌++◌, length, map, take, drop, filter, Option, Some, None, refl, sym, ap, ◌∙◌, subst, arith, append_assoc, append-nil, length-append, eqb, is_lt}
use Rattle.std.specs.List.{AllByRecursion, list_all, enumerate_from, range_with_len, flat_map}
use Rattle.std.specs.FinMap.{is_sorted}
use Rattle.std.specs.FinMap.Entries.{below_all}
use Rattle.std.proofs.lemmas.Bool.{and_parts, and_from, eq-eqb, ne_eqb}
use Rattle.std.proofs.lemmas.List.{map-append, length-map, take_at, drop_at}
use Rattle.std.proofs.lemmas.List.Elements.{filter-append}
use Rattle.std.proofs.lemmas.List.Sums.{sum_by-cons}
use Rattle.format_spec.proofs.Cuts.{Are32, chunks_32}
use Rattle.format_spec.specs.Bytes.{Bytes, are_bytes, bytes_cmp, ascending, parts, part_count}
use Rattle.format_spec.specs.Hashes.{ChunkSum, file_hash}
use Rattle.format_spec.specs.declared.limits.TheConstants.{CHUNK_SIZE, PAGE_SIZE, MAX_SYSTEM}
use Rattle.format_spec.specs.Versions.{memory_limit, state_limit}
use Rattle.format_spec.proofs.ByteStrings.{tested}
use Rattle.format_spec.proofs.Lists.{all_join, all_weaker}
use Rattle.format_spec.proofs.Parts.{parts_length}
use Rattle.state_spec.specs.State.{State, Canister, IsByteCanister, CanisterPart, Memory, IsState, IsMemory, FitsCanister, system_of, part_of, pages_of, pages_in, all_pages, is_id}
use Rattle.state_spec.specs.Files.{File, files, memory_files, heap_file, stable_file, system_file, heap_name, stable_name, system_name}
use Rattle.state_spec.specs.Manifest.{FileRow, ChunkRow, FileSums, row_of, chunk_sums, file_row, chunk_rows, sum_of, sums_of, manifest_from, manifest_of, sums_in, chunk_size_at, chunk_offset}
use Rattle.state_spec.specs.ManifestText.{IsManifest, AreSome, HaveRows, HaveTrueHashes, Slot, slots_of, slots, slot_of, system_slots, memory_rows as first_rows, file_names, all_sizes}
use Rattle.state_spec.proofs.ManifestRows.{some_more, some_join}
use Rattle.soundness.proofs.Texts.{chunks_in, hashes_in, row_hashes, rows_32, rows_from, numbered}
use Rattle.state_spec.proofs.SystemSizes.{system_size}

-- ---- the rows of files

abbrev pub rows_of : List File → List FileRow
rows_of fs = map file_row (map sums_of fs)

abbrev pub memory_rows : ℕ → List (Bytes × Canister) → List FileRow
memory_rows v cs = rows_of (memory_files v cs)

abbrev pub system_row : State → FileRow
system_row s = file_row (sums_of (system_file (system_of s)))

pub rows_are : (s : State) → rows_of (files s) ≡ memory_rows s.version s.canisters ++ system_row s ∷ []
unfolding files
rows_are s =
    let last : List File = system_file (system_of s) ∷ [] in
    ap (map file_row) (map-append sums_of (memory_files s.version s.canisters) last) ∙ map-append file_row (map sums_of (memory_files s.version s.canisters)) (map sums_of last)

abbrev pub ids_of : List (Bytes × Canister) → List Bytes
ids_of cs = map (λ c. c.0) cs

abbrev pub named : Bytes × Canister → Bytes × CanisterPart
named c = (c.0, part_of c.1)

pub row_count : (v : ℕ) (cs : List (Bytes × Canister)) → length (memory_rows v cs) ≡ 2 * length (ids_of cs)
row_count v [] = refl
row_count v (c ∷ cs) = omega (arith, row_count v cs)

row_names : (v : ℕ) (cs : List (Bytes × Canister)) (last : FileRow) → last.name ≡ system_name → map (λ (r : FileRow). r.name) (memory_rows v cs ++ last ∷ []) ≡ file_names (ids_of cs)
row_names v [] last e = ap (λ (x : Bytes). x ∷ []) e
row_names v (c ∷ cs) last e = ap (λ (x : List Bytes). heap_name c.0 ∷ stable_name c.0 ∷ x) (row_names v cs last e)

abbrev FitsMemory : ℕ → FileRow → Type 0
FitsMemory v r = (r.size % PAGE_SIZE ≡ 0) × (r.size ≤ memory_limit v * PAGE_SIZE)

memory_size : (v : ℕ) (m : Memory) → IsMemory m → pages_of m ≤ memory_limit v → (length m.bytes % PAGE_SIZE ≡ 0) × (length m.bytes ≤ memory_limit v * PAGE_SIZE)
memory_size v m h p = (h.whole_pages, omega (arith, h.whole_pages, p))

rows_fit : (v : ℕ) (cs : List (Bytes × Canister)) → AllByRecursion (FitsCanister v) (map named cs) → AllByRecursion (λ c. IsMemory c.1.heap × IsMemory c.1.stable) cs → AllByRecursion (FitsMemory v) (memory_rows v cs)
rows_fit v [] p q = tt
rows_fit v (c ∷ cs) p q = (memory_size v c.1.heap q.0.0 p.0.heap, (memory_size v c.1.stable q.0.1 p.0.stable, rows_fit v cs p.1 q.1))

pub rows_sum : (v : ℕ) (cs : List (Bytes × Canister)) → AllByRecursion (λ c. IsMemory c.1.heap × IsMemory c.1.stable) cs → all_sizes (memory_rows v cs) ≡ all_pages (map named cs) * PAGE_SIZE
rows_sum v [] q = refl
rows_sum v (c ∷ cs) q =
    let size : FileRow → ℕ = λ r. r.size in
    let pages : Bytes × CanisterPart → ℕ = λ d. pages_in d.1 in
    let heap : FileRow = file_row (sums_of (heap_file v c)) in
    let stable : FileRow = file_row (sums_of (stable_file v c)) in
    let rest : List FileRow = rows_of (memory_files v cs) in
    let before : all_sizes rest ≡ all_pages (map named cs) * PAGE_SIZE = rows_sum v cs q.1 in
    let one : all_sizes (heap ∷ stable ∷ rest) ≡ length c.1.heap.bytes + all_sizes (stable ∷ rest) = sum_by-cons size heap (stable ∷ rest) in
    let two : all_sizes (stable ∷ rest) ≡ length c.1.stable.bytes + all_sizes rest = sum_by-cons size stable rest in
    let sum : all_pages (named c ∷ map named cs) ≡ pages_of c.1.heap + pages_of c.1.stable + all_pages (map named cs) = sum_by-cons pages (named c) (map named cs) in
    step (length c.1.heap.bytes) (length c.1.stable.bytes) (all_sizes (heap ∷ stable ∷ rest)) (all_sizes (stable ∷ rest)) (all_sizes rest) (all_pages (named c ∷ map named cs)) (all_pages (map named cs)) q.0.0.whole_pages q.0.1.whole_pages before one two sum
  where
    step : (h k a b r p o : ℕ) → h % 4096 ≡ 0 → k % 4096 ≡ 0 → r ≡ o * 4096 → a ≡ h + b → b ≡ k + r → p ≡ h / 4096 + k / 4096 + o → a ≡ p * 4096
    step h k a b r p o x y z u v w = omega arith

-- ---- the ids

ids_good : (v : ℕ) (cs : List (Bytes × Canister)) → AllByRecursion (FitsCanister v) (map named cs) → AllByRecursion IsByteCanister cs → list_all (λ id. is_id id && are_bytes id) (ids_of cs) ≡ true
ids_good v [] p q = refl
ids_good v (c ∷ cs) p q = and_from (is_id c.0 && are_bytes c.0) (list_all (λ id. is_id id && are_bytes id) (ids_of cs)) (and_from (is_id c.0) (are_bytes c.0) p.0.id (tested c.0 q.0.id)) (ids_good v cs p.1 q.1)

ids_below : (k : Bytes) (cs : List (Bytes × Canister)) → below_all bytes_cmp k (map named cs) ≡ true → list_all (λ j. is_lt (bytes_cmp k j)) (ids_of cs) ≡ true
ids_below k [] h = refl
ids_below k (c ∷ cs) h =
    let p = and_parts (is_lt (bytes_cmp k c.0)) (below_all bytes_cmp k (map named cs)) h in
    and_from (is_lt (bytes_cmp k c.0)) (list_all (λ j. is_lt (bytes_cmp k j)) (ids_of cs)) p.0 (ids_below k cs p.1)

ids_ascend : (cs : List (Bytes × Canister)) → is_sorted bytes_cmp (map named cs) ≡ true → ascending bytes_cmp (ids_of cs) ≡ true
ids_ascend [] h = refl
ids_ascend (c ∷ cs) h =
    let p = and_parts (below_all bytes_cmp c.0 (map named cs)) (is_sorted bytes_cmp (map named cs)) h in
    and_from (list_all (λ j. is_lt (bytes_cmp c.0 j)) (ids_of cs)) (ascending bytes_cmp (ids_of cs)) (ids_below c.0 cs p.0) (ids_ascend cs p.1)

-- ---- the slots

abbrev slot_at : ℕ → ℕ → ℕ → Slot
slot_at n size i = record { file = n; size = chunk_size_at size i; offset = chunk_offset i }

-- the slots of a file's rows: of some of its chunks, in order; in version 1 of all
some_own : (n size k : ℕ) (hs : List (Option Bytes)) → AreSome (map slot_of (map (numbered n) (flat_map (row_of size) (enumerate_from k hs)))) (map (slot_at n size) (range_with_len k (length hs)))
some_own n size k [] = tt
some_own n size k (None ∷ hs) = some_more _ _ (slot_at n size k) (some_own n size (k + 1) hs)
some_own n size k (Some h ∷ hs) = ([], map (slot_at n size) (range_with_len (k + 1) (length hs)), refl, some_own n size (k + 1) hs)

own_slots : (n size k : ℕ) (ps : List Bytes) → map slot_of (map (numbered n) (rows_from 1 size k ps)) ≡ map (slot_at n size) (range_with_len k (length ps))
own_slots n size k [] = refl
own_slots n size k (p ∷ ps) = ap (λ (x : List Slot). slot_at n size k ∷ x) (own_slots n size (k + 1) ps)

parts_count : (v : ℕ) (s : Bytes) → length (map (sum_of v) (parts CHUNK_SIZE s)) ≡ part_count CHUNK_SIZE (length s)
parts_count v s = length-map (parts CHUNK_SIZE s) (sum_of v) ∙ parts_length CHUNK_SIZE s

slots_some : (n : ℕ) (fs : List File) → AreSome (map slot_of (chunk_rows n (map sums_of fs))) (slots n (rows_of fs))
slots_some n [] = tt
slots_some n (f ∷ fs) =
    let own : List ChunkRow = map (numbered n) (chunk_sums (sums_of f)) in
    let rest : List ChunkRow = chunk_rows (suc n) (map sums_of fs) in
    let here = subst (λ (k : ℕ). AreSome (map slot_of own) (map (slot_at n (length f.bytes)) (range_with_len 0 k))) (parts_count f.version f.bytes) (some_own n (length f.bytes) 0 (map (sum_of f.version) (parts CHUNK_SIZE f.bytes))) in
    subst (λ (ss : List Slot). AreSome ss (slots n (rows_of (f ∷ fs)))) (sym (map-append slot_of own rest)) (some_join (map slot_of own) (slots_of n (length f.bytes)) (map slot_of rest) (slots (suc n) (rows_of fs)) here (slots_some (suc n) fs))

-- all files have the version 1
abbrev First : List File → Type 0
First fs = AllByRecursion (λ f. f.version ≡ 1) fs

slots_are : (n : ℕ) (fs : List File) → First fs → map slot_of (chunk_rows n (map sums_of fs)) ≡ slots n (rows_of fs)
slots_are n [] first = refl
slots_are n (f ∷ fs) first =
    let own : List ChunkRow = map (numbered n) (chunk_sums (sums_of f)) in
    map-append slot_of own (chunk_rows (suc n) (map sums_of fs))
    ∙ ap (λ (x : List Slot). x ++ map slot_of (chunk_rows (suc n) (map sums_of fs)))
    (ap (λ (v : ℕ). map slot_of (map (numbered n) (rows_from v (length f.bytes) 0 (parts CHUNK_SIZE f.bytes)))) first.0
    ∙ own_slots n (length f.bytes) 0 (parts CHUNK_SIZE f.bytes) ∙ ap (λ (k : ℕ). map (slot_at n (length f.bytes)) (range_with_len 0 k)) (parts_length CHUNK_SIZE f.bytes))
    ∙ ap (λ (x : List Slot). slots_of n (length f.bytes) ++ x) (slots_are (suc n) fs first.1)

memories_first : (v : ℕ) (cs : List (Bytes × Canister)) → v ≡ 1 → First (memory_files v cs)
memories_first v [] one = tt
memories_first v (c ∷ cs) one = (one, (one, memories_first v cs one))

rows_join : (n : ℕ) (fs gs : List File) → chunk_rows n (map sums_of (fs ++ gs)) ≡ chunk_rows n (map sums_of fs) ++ chunk_rows (n + length fs) (map sums_of gs)
rows_join n [] gs = ap (λ (k : ℕ). chunk_rows k (map sums_of gs)) (omega arith)
rows_join n (f ∷ fs) gs =
    let own : List ChunkRow = map (numbered n) (chunk_sums (sums_of f)) in
    let later : suc n + length fs ≡ n + suc (length fs) = omega arith in
    ap (λ (x : List ChunkRow). own ++ x) (rows_join (suc n) fs gs ∙ ap (λ (k : ℕ). chunk_rows (suc n) (map sums_of fs) ++ chunk_rows k (map sums_of gs)) later)
    ∙ sym (append_assoc own (chunk_rows (suc n) (map sums_of fs)) (chunk_rows (n + suc (length fs)) (map sums_of gs)))

rows_had : (s : State) → HaveRows s.version (rows_of (files s)) (map slot_of (chunk_rows 0 (map sums_of (files s))))
unfolding files
rows_had s =
    let v : ℕ = s.version in
    let ms : List File = memory_files v s.canisters in
    let last : List File = system_file (system_of s) ∷ [] in
    let rows = rows_are s in
    let count : length (rows_of ms) ≡ length ms = length-map (map sums_of ms) file_row ∙ length-map ms sums_of in
    let total : length (rows_of (files s)) - 1 ≡ length ms = omega (arith, ap length rows, length-append (rows_of ms) (system_row s ∷ []), count) in
    let front : first_rows (rows_of (files s)) ≡ rows_of ms = ap (λ (k : ℕ). take k (rows_of (files s))) total ∙ ap (take (length ms)) rows ∙ take_at (rows_of ms) (system_row s ∷ []) (length ms) count in
    let back : system_slots (rows_of (files s)) ≡ slots (length ms) (rows_of last) = ap (λ (k : ℕ). slots k (drop k (rows_of (files s)))) total ∙ ap (λ (x : List FileRow). slots (length ms) (drop (length ms) x)) rows ∙ ap (slots (length ms)) (drop_at (rows_of ms) (system_row s ∷ []) (length ms) count) in
    record {
      memories = map slot_of (chunk_rows 0 (map sums_of ms));
      some = subst (λ (x : List FileRow). AreSome (map slot_of (chunk_rows 0 (map sums_of ms))) (slots 0 x)) (sym front) (slots_some 0 ms);
      each_first = λ one. slots_are 0 ms (memories_first v s.canisters one) ∙ ap (slots 0) (sym front);
      all = ap (map slot_of) (rows_join 0 ms last ∙ ap (λ (k : ℕ). chunk_rows 0 (map sums_of ms) ++ chunk_rows k (map sums_of last)) (omega arith)) ∙ map-append slot_of (chunk_rows 0 (map sums_of ms)) (chunk_rows (length ms) (map sums_of last))
          ∙ ap (λ (x : List Slot). map slot_of (chunk_rows 0 (map sums_of ms)) ++ x) (slots_are (length ms) last (refl, tt) ∙ sym back);
    }

-- ---- the hashes of files

sums_append : (n : ℕ) (xs ys : List ChunkRow) → sums_in n (xs ++ ys) ≡ sums_in n xs ++ sums_in n ys
sums_append n xs ys =
    let mine : ChunkRow → Bool = λ r. r.file == n in
    ap (map (λ (r : ChunkRow). r.sum)) (filter-append mine xs ys) ∙ map-append (λ (r : ChunkRow). r.sum) (filter mine xs) (filter mine ys)

sums_own : (n : ℕ) (cs : List ChunkSum) → sums_in n (map (numbered n) cs) ≡ cs
sums_own n [] = refl
sums_own n (c ∷ cs) =
    let same : eqb n n ≡ true = eq-eqb n n refl in
    ap (λ (b : Bool). map (λ (r : ChunkRow). r.sum) (cond b (numbered n c ∷ filter (λ r. r.file == n) (map (numbered n) cs)) (filter (λ r. r.file == n) (map (numbered n) cs)))) same
    ∙ ap (λ (x : List ChunkSum). c ∷ x) (sums_own n cs)

sums_none : (n : ℕ) (rs : List ChunkRow) → AllByRecursion (λ r. (r.file ≡ n) → ⊥) rs → sums_in n rs ≡ []
sums_none n [] h = refl
sums_none n (r ∷ rs) h =
    let other : eqb r.file n ≡ false = ne_eqb r.file n h.0 in
    ap (λ (b : Bool). map (λ (r : ChunkRow). r.sum) (cond b (r ∷ filter (λ r. r.file == n) rs) (filter (λ r. r.file == n) rs))) other ∙ sums_none n rs h.1

all_numbered : (P : ChunkRow → Type 0) (n : ℕ) (cs : List ChunkSum) → ((c : ChunkSum) → P (numbered n c)) → AllByRecursion P (map (numbered n) cs)
all_numbered P n [] f = tt
all_numbered P n (c ∷ cs) f = (f c, all_numbered P n cs f)

rows_later : (n m : ℕ) (gs : List FileSums) → n < m → AllByRecursion (λ r. (r.file ≡ n) → ⊥) (chunk_rows m gs)
rows_later n m [] lt = tt
rows_later n m (g ∷ gs) lt = all_join (λ r. (r.file ≡ n) → ⊥) (map (numbered m) (chunk_sums g)) (chunk_rows (suc m) gs) (all_numbered (λ r. (r.file ≡ n) → ⊥) m (chunk_sums g) (λ c e. omega (arith, e, lt))) (rows_later n (suc m) gs (omega arith))

true_from : (gs : List FileSums) (n : ℕ) (before : List ChunkRow) → AllByRecursion (λ r. r.file < n) before → HaveTrueHashes n (map file_row gs) (before ++ chunk_rows n gs)
true_from [] n before h = tt
true_from (g ∷ gs) n before h =
    let own : List ChunkRow = map (numbered n) (chunk_sums g) in
    let after : List ChunkRow = chunk_rows (suc n) gs in
    let a = sums_none n before (all_weaker (λ r. r.file < n) (λ r. (r.file ≡ n) → ⊥) (λ r lt e. omega (arith, lt, e)) before h) in
    let b = sums_none n after (rows_later n (suc n) gs (omega arith)) in
    let mine : sums_in n (before ++ (own ++ after)) ≡ chunk_sums g =
    sums_append n before (own ++ after) ∙ ap (λ (x : List ChunkSum). sums_in n before ++ x) (sums_append n own after)
    ∙ ap (λ (x : List ChunkSum). x ++ (sums_in n own ++ sums_in n after)) a
    ∙ ap (λ (x : List ChunkSum). x ++ sums_in n after) (sums_own n (chunk_sums g))
    ∙ ap (λ (x : List ChunkSum). chunk_sums g ++ x) b ∙ append-nil (chunk_sums g) in
    let lower : AllByRecursion (λ (r : ChunkRow). r.file < suc n) (before ++ own) =
    all_join (λ r. r.file < suc n) before own (all_weaker (λ r. r.file < n) (λ r. r.file < suc n) (λ r lt. omega (arith, lt)) before h) (all_numbered (λ r. r.file < suc n) n (chunk_sums g) (λ c. omega arith)) in
    (ap file_hash (sym mine), subst (λ (x : List ChunkRow). HaveTrueHashes (suc n) (map file_row gs) x) (append_assoc before own after) (true_from gs (suc n) (before ++ own) lower))

chunks_have : (rs : List ChunkRow) → Are32 (hashes_in rs) → AllByRecursion (λ r. length r.sum.hash ≡ 32) rs
chunks_have [] h = tt
chunks_have (r ∷ rs) h = (h.0, chunks_have rs h.1)

-- ---- all together

pub manifest_good : (s : State) → IsState s → IsManifest (manifest_of s)
unfolding manifest_of manifest_from system_of
manifest_good s h =
    let cs : List (Bytes × Canister) = s.canisters in
    let n : ℕ = 2 * length (ids_of cs) in
    let rows = rows_are s in
    let front : take n (rows_of (files s)) ≡ memory_rows s.version cs = ap (take n) rows ∙ take_at (memory_rows s.version cs) (system_row s ∷ []) n (row_count s.version cs) in
    let back : drop n (rows_of (files s)) ≡ system_row s ∷ [] = ap (drop n) rows ∙ drop_at (memory_rows s.version cs) (system_row s ∷ []) n (row_count s.version cs) in
    let count = length-map cs (λ (c : Bytes × Canister). c.0) in
    let parts_count = length-map cs named in
    record {
      version = h.version;
      ids = ids_of cs;
      few_ids = omega (arith, count, parts_count, h.system.few_canisters);
      ids_good = ids_good s.version cs h.system.canisters_fit h.bytes.canisters;
      ids_ascend = ids_ascend cs h.system.ids_ascend;
      names = ap (map (λ (r : FileRow). r.name)) rows ∙ row_names s.version cs (system_row s) refl;
      memories_fit = subst (λ (x : List FileRow). AllByRecursion (FitsMemory s.version) x) (sym front) (rows_fit s.version cs h.system.canisters_fit h.memories);
      memories_fit_together = subst (λ (x : List FileRow). all_sizes x ≤ state_limit s.version * PAGE_SIZE) (sym front) (omega (arith, rows_sum s.version cs h.memories, h.system.pages_fit));
      system_fits = subst (λ (x : List FileRow). AllByRecursion (λ r. (24 ≤ r.size) × (r.size ≤ MAX_SYSTEM)) x) (sym back) (system_size s.version (system_of s) h.system, tt);
      file_hashes = rows_32 (files s);
      chunk_hashes = chunks_have (chunk_rows 0 (map sums_of (files s))) (subst Are32 (sym (row_hashes 0 (files s))) (chunks_32 (chunks_in (files s))));
      rows = rows_had s;
      true_hashes = true_from (map sums_of (files s)) 0 [] tt;
    }
