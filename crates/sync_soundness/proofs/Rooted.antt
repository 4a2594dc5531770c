-- The state that is installed is valid and has the root that was asked for.
use Rattle.std.proofs.Common.{◌≡◌, ℕ, zero, suc, ◌+◌, ◌*◌, ◌<◌, cond, Bool, true, false, List, [], ◌∷◌, ◌++◌, length, map, find, replicate, zip, Some, Ok, IsTrue, slice_get, refl, sym, ap, ◌∙◌, subst, arith}
use Rattle.std.specs.List.{AllByRecursion, range_with_len}
use Rattle.std.specs.Option.{option_map_or}
use Rattle.std.proofs.lemmas.List.FromFn.{map-range_with_len_more}
use Rattle.format_spec.specs.Bytes.{Bytes, IsBytes, AreByteStrings, are_bytes}
use Rattle.format_spec.proofs.ByteStrings.{by_test, flat_bytes}
use Rattle.state_spec.specs.State.{State, SystemPart, IsState, IsSystem, IsByteEntry, system_of, canisters_from, state_from}
use Rattle.state_spec.specs.Files.{File, files, memory_files, system_name}
use Rattle.state_spec.specs.SystemText.{system_text, read_system}
use Rattle.state_spec.specs.Manifest.{Manifest, FileRow, ChunkRow, manifest_of, manifest_from, file_row, sums_of}
use Rattle.state_spec.specs.ManifestText.{Slot, slots_of, slot_of, IsManifest}
use Rattle.state_spec.specs.Root.{meta_of, root_of, root_of_meta}
use Rattle.state_spec.proofs.BothWays.{system_found}
use Rattle.sync_spec.specs.Messages.{Item, chunk}
use Rattle.sync_spec.specs.Rows.{system_number, file_version, file_size}
use Rattle.sync_spec.specs.Serving.{is_chunk, rows}
use Rattle.sync_spec.specs.Install.{bytes_had, chunks_had, stands_at, slot_bytes, bytes_by, file_bytes, system_for, installed_state}
use Rattle.sync_spec.specs.Sync.{Sync, system_had}
use Rattle.sync_spec.specs.SyncLaws.{IsHeld, KnowsManifest}
use Rattle.sync_soundness.specs.Held.{HoldsChunks}
use Rattle.sync_soundness.proofs.Failing.{held, holds_manifest}
use Rattle.sync_soundness.proofs.Slots.{Pair}
use Rattle.sync_soundness.proofs.Filled.{memory_version, system_version, rows_of, Fit}
use Rattle.sync_soundness.proofs.Pieces.{all_range}
use Rattle.sync_soundness.proofs.Remade.{fits, size_in, named_files, joined_files, Remade, remade}
use Rattle.sync_soundness.proofs.Installing.{Agrees, agreed, Made, made, manifest_is, same_root}
use Rattle.state_spec.proofs.TextBytes.{HasBytes, system_bytes}

zeros_bytes : (k : ℕ) → IsBytes (replicate k 0)
zeros_bytes k = by_test (replicate k 0) (each k)
  where
    each : (k : ℕ) → are_bytes (replicate k 0) ≡ true
    each zero = refl
    each (suc k) = each k

-- a file of byte strings is one
slot_of_bytes : (rs : List ChunkRow) (cs : List Bytes) (slot : Slot) → AreByteStrings cs → IsBytes (slot_bytes (zip rs cs) slot)
slot_of_bytes [] cs slot h = zeros_bytes slot.size
slot_of_bytes (r ∷ rs) [] slot h = zeros_bytes slot.size
slot_of_bytes (r ∷ rs) (c ∷ cs) slot h = by (stands_at slot (r, c)) (slot_of_bytes rs cs slot h.1)
  where
    by : (b : Bool) → IsBytes (slot_bytes (zip rs cs) slot) → IsBytes (option_map_or (λ (x : Pair). x.1) (cond b (Some (r, c)) (find (stands_at slot) (zip rs cs))) (replicate slot.size 0))
    by true k = h.0
    by false k = k

file_of_bytes : (m : Manifest) (cs : List Bytes) (n : ℕ) → AreByteStrings cs → IsBytes (file_bytes m cs n)
file_of_bytes m cs n h = flat_bytes (slot_bytes (zip m.chunks cs)) (slots_of n (file_size m n)) (each (slots_of n (file_size m n)))
  where
    each : (ss : List Slot) → AllByRecursion (λ s. IsBytes (slot_bytes (zip m.chunks cs) s)) ss
    each [] = tt
    each (s ∷ ss) = (slot_of_bytes m.chunks cs s h, each ss)

sizes_of : (v : ℕ → ℕ) (n a : ℕ) (fs : List FileRow) (g : ℕ → Bytes)
    → map (λ r. r.size) (map file_row (map sums_of (named_files v n fs (map g (range_with_len a (length fs)))))) ≡ map (λ b. length b) (map g (range_with_len a (length fs)))
sizes_of v n a [] g = refl
sizes_of v n a (f ∷ fs) g = ap (λ (x : List ℕ). length (g a) ∷ x) (sizes_of v (suc n) (a + 1) fs g)

module _ (height : ℕ) (m : Manifest) (had : List (Item × Bytes)) (good : IsManifest m) (holds : HoldsChunks m had) (parts : SystemPart) (read : system_for m (file_bytes m (chunks_had m had) (system_number m)) ≡ Ok parts) where
  abbrev bytes_of_file : ℕ → Bytes
  bytes_of_file = file_bytes m (chunks_had m had)

  abbrev memories : List Bytes
  memories = map bytes_of_file (range_with_len 0 (system_number m))

  abbrev state : State
  state = installed_state height m parts (chunks_had m had)

  strings : AreByteStrings (chunks_had m had)
  strings = all_range IsBytes (λ i. bytes_had had (chunk i)) 0 (length m.chunks) (λ i low high. (holds i (omega (arith, high))).byte_string)

  fit : Fit (file_version m) m.chunks (chunks_had m had)
  fit = fits m m.chunks (λ i. bytes_had had (chunk i)) 0 (λ i below. at i (holds i below).right)
    where
      at : (i : ℕ) → IsTrue (is_chunk m (bytes_had had (chunk i)) (slice_get m.chunks i)) → IsTrue (is_chunk m (bytes_had had (chunk (0 + i))) (slice_get m.chunks i))
      at i h = let e : i ≡ 0 + i = omega arith in subst (λ (j : ℕ). IsTrue (is_chunk m (bytes_had had (chunk j)) (slice_get m.chunks i))) e h

  again : Remade 0 m.files m.chunks (joined_files (file_version m) 0 m.files bytes_of_file)
  again =
      remade (file_version m) 0 m.files m.chunks (chunks_had m had) m.chunks bytes_of_file (rows_of m (map slot_of m.chunks) good.rows) fit good.true_hashes (λ j above. refl)
      (λ k. let e : 0 + k ≡ k = omega arith in ap (λ (j : ℕ). bytes_by (zip m.chunks (chunks_had m had)) (0 + k) (size_in m.files j)) e)

  agree : (read_system m.version (bytes_of_file (system_number m)) ≡ Ok parts) × Agrees parts m.files
  unfolding system_for
  agree = agreed m.version (bytes_of_file (system_number m)) m.files parts read

  spelled : (bytes_of_file (system_number m) ≡ system_text parts) × IsSystem m.version parts
  spelled = system_found m.version (bytes_of_file (system_number m)) parts (file_of_bytes m (chunks_had m had) (system_number m) strings) agree.0

  all_bytes : map bytes_of_file (range_with_len 0 (length m.files)) ≡ memories ++ bytes_of_file (system_number m) ∷ []
  all_bytes =
      let one_more : length m.files ≡ system_number m + 1 = omega (arith, agree.1.count) in
      ap (λ (n : ℕ). map bytes_of_file (range_with_len 0 n)) one_more ∙ map-range_with_len_more bytes_of_file 0 (system_number m) (system_number m) (omega arith)

  part_strings : AllByRecursion HasBytes parts.canisters × AllByRecursion IsByteEntry parts.entries
  part_strings = system_bytes parts (subst IsBytes spelled.0 (file_of_bytes m (chunks_had m had) (system_number m) strings))

  canisters : Made height m.version 0 (file_version m) parts.canisters m.files memories (bytes_of_file (system_number m))
  canisters =
      made height 20 m.version 0 (file_version m) parts.canisters good.ids m.files memories (bytes_of_file (system_number m)) good.names good.ids_good agree.1.count
      (ap (map (λ (r : FileRow). r.size)) (sym again.files) ∙ sizes_of (file_version m) 0 0 m.files bytes_of_file ∙ ap (map (λ (b : Bytes). length b)) all_bytes)
      (all_range IsBytes bytes_of_file 0 (system_number m) (λ i low high. file_of_bytes m (chunks_had m had) i strings)) part_strings.0 agree.1.each
      (λ i low high. memory_version m i (omega (arith, high, agree.1.count)))
      (let last : 0 + 2 * length parts.canisters ≡ system_number m = omega (arith, agree.1.count) in ap (file_version m) last ∙ system_version m)

  parts_are : system_of state ≡ parts
  unfolding installed_state state_from system_of
  parts_are = λ i. record { time = parts.time; canisters = canisters.parts i; entries = parts.entries }

  files_are : files state ≡ joined_files (file_version m) 0 m.files bytes_of_file
  unfolding installed_state state_from files
  files_are =
      ap (λ (t : Bytes). memory_files m.version (canisters_from height parts.canisters memories) ++ record { version = 1; name = system_name; bytes = t } ∷ []) (ap system_text parts_are ∙ sym spelled.0)
      ∙ canisters.files
      ∙ ap (named_files (file_version m) 0 m.files) (sym all_bytes)

  manifest_again : manifest_of state ≡ m
  unfolding installed_state state_from manifest_of manifest_from
  manifest_again =
      ap (λ (fs : List File). manifest_from m.version (map sums_of fs)) files_are
      ∙ (λ i. record { version = m.version; files = again.files i; chunks = again.chunks i })

  valid : IsState state
  unfolding installed_state state_from
  valid = record {
    version = good.version;
    system = subst (IsSystem m.version) (sym parts_are) spelled.1;
    memories = canisters.whole;
    bytes = record { canisters = canisters.byte_strings; entries = part_strings.1 };
  }

  pub valid_again : IsState state × (manifest_of state ≡ m)
  valid_again = (valid, manifest_again)

pub rooted : (s : Sync) (m : Manifest) (parts : SystemPart) → KnowsManifest s m → ((i : ℕ) → i < length m.chunks → IsHeld s (rows m) (chunk i)) → system_for m (system_had s m) ≡ Ok parts
    → IsState (installed_state s.height m parts (chunks_had m s.had)) × (manifest_of (installed_state s.height m parts (chunks_had m s.had)) ≡ m) × (root_of (installed_state s.height m parts (chunks_had m s.had)) ≡ s.root)
unfolding root_of
rooted s m parts knows chunks read =
    let holds = holds_manifest s knows.of knows.knows_meta knows.pieces_held in
    let good = manifest_is knows.of s.had knows.knows_meta.good holds m knows.spelled in
    let a = valid_again s.height m s.had good (λ i below. held s (rows m) (chunk i) (chunks i below)) parts read in
    (a.0, a.1, ap (λ (n : Manifest). root_of_meta (meta_of n)) a.1 ∙ same_root knows.of s.had knows.knows_meta.good holds m knows.spelled knows.same_version ∙ knows.knows_meta.root)
