-- Right chunks, against the valid state whose manifest they were judged by.
use Rattle.std.proofs.Common.{◌≡◌, ◌⊎◌, ℕ, zero, suc, ◌+◌, ◌-◌, ◌*◌, ◌<◌, ◌&&◌, ◌==◌, not, if◌then◌else◌, Bool, true, List, [], ◌∷◌, ◌++◌, length}
use Rattle.std.proofs.Common.{map, Option, Some, None, Ok, Err, Result, IsTrue, Contains, slice_get, slice_index_or, get_or, refl, sym, ap, ◌∙◌, subst, inl, inr, arith, length-append}
use Rattle.std.specs.List.{flat_map, AllByRecursion, range_with_len}
use Rattle.std.proofs.lemmas.Bool.{eq-eqb, and_parts}
use Rattle.std.proofs.lemmas.List.{length-map}
use Rattle.std.proofs.lemmas.List.FromFn.{fill_by_all}
use Rattle.format_spec.specs.Bytes.{Bytes, IsBytes, AreByteStrings, same_bytes}
use Rattle.format_spec.specs.Hashes.{Clash, chunk_string, chunk_hash}
use Rattle.format_spec.specs.declared.limits.TheConstants.{PAGE_SIZE}
use Rattle.format_spec.proofs.Readings.{same_bytes_is, bytes_same}
use Rattle.state_spec.specs.State.{State, Canister, CanisterPart, SystemPart, IsState, IsMemory, part_of, pages_of, system_of}
use Rattle.state_spec.specs.Files.{File, files, memory_files, system_file, heap_file, stable_file, heap_name}
use Rattle.state_spec.specs.SystemText.{system_text, canister_text}
use Rattle.state_spec.specs.Manifest.{Manifest, FileRow, ChunkRow, manifest_of, manifest_from, file_row, sums_of, has_row, row_chunks}
use Rattle.state_spec.specs.Root.{hashed_strings}
use Rattle.state_spec.proofs.BothWays.{system_again}
use Rattle.soundness.proofs.Strings.{or_clash}
use Rattle.soundness.proofs.StateBytes.{state_strings, chunk_string_bytes}
use Rattle.soundness.proofs.Synced.{chunks_or_meet}
use Rattle.sync_spec.specs.Messages.{Item, chunk}
use Rattle.sync_spec.specs.Rows.{system_number, row_version}
use Rattle.sync_spec.specs.Serving.{is_chunk, rows}
use Rattle.sync_spec.specs.Install.{bytes_had, chunks_had, file_bytes, disagreement, disagreement_from, unless_disagrees, agreeing_parts, system_for}
use Rattle.sync_spec.specs.Sync.{item_string}
use Rattle.sync_soundness.specs.Held.{Holds}
use Rattle.sync_soundness.proofs.Pieces.{all_range, in_all, in_map, map_twice, clash_within}
use Rattle.sync_soundness.proofs.Files.{file_at}
use Rattle.state_spec.proofs.FileOrder.{length-in_turn}
use Rattle.state_spec.proofs.FileSums.{whole_pages}

-- ---- the text of a state agrees with the rows of its files

pass : (a b c : Bool) (x y z r : Option ℕ) → a ≡ true → b ≡ true → c ≡ true → (if not a then x else if not b then y else if not c then z else r) ≡ r
pass a b c x y z r ea eb ec =
    ap (λ a. if not a then x else if not b then y else if not c then z else r) ea
    ∙ ap (λ b. if not b then y else if not c then z else r) eb
    ∙ ap (λ c. if not c then z else r) ec

abbrev file_rows : List File → List FileRow
file_rows fs = map file_row (map sums_of fs)

abbrev in_parts : List (Bytes × Canister) → List (Bytes × CanisterPart)
in_parts cs = map (λ c. (c.0, part_of c.1)) cs

agrees : (v at : ℕ) (cs : List (Bytes × Canister)) (end : List File) → AllByRecursion (λ c. IsMemory c.1.heap × IsMemory c.1.stable) cs → disagreement_from at (in_parts cs) (file_rows (memory_files v cs ++ end)) ≡ None
agrees v at [] end good = refl
agrees v at (c ∷ cs) end good =
    pass (same_bytes (heap_name c.0) (heap_name c.0)) (pages_of c.1.heap * PAGE_SIZE == length c.1.heap.bytes) (pages_of c.1.stable * PAGE_SIZE == length c.1.stable.bytes)
    (Some at) (Some (at + length (canister_text (c.0, part_of c.1)) - 8)) (Some (at + length (canister_text (c.0, part_of c.1)) - 4))
    (disagreement_from (at + length (canister_text (c.0, part_of c.1))) (in_parts cs) (file_rows (memory_files v cs ++ end)))
    (bytes_same (heap_name c.0)) (eq-eqb _ _ (whole_pages c.1.heap good.0.0)) (eq-eqb _ _ (whole_pages c.1.stable good.0.1))
    ∙ agrees v (at + length (canister_text (c.0, part_of c.1))) cs end good.1

count_rows : (fs : List File) → length (file_rows fs) ≡ length fs
count_rows fs = length-map (map sums_of fs) file_row ∙ length-map fs sums_of

rows_agree : (s : State) → IsState s → disagreement (system_of s) (file_rows (files s)) ≡ None
unfolding disagreement files system_of
rows_agree s valid =
    let end : List File = system_file (system_of s) ∷ [] in
    let all : List File = memory_files s.version s.canisters ++ end in
    let n : length (file_rows all) ≡ 2 * length s.canisters + 1 = count_rows all ∙ length-append (memory_files s.version s.canisters) end ∙ ap (λ k. k + 1) (length-in_turn (heap_file s.version) (stable_file s.version) s.canisters) in
    let many : 2 * length (in_parts s.canisters) + 1 ≡ length (file_rows all) = ap (λ k. 2 * k + 1) (length-map s.canisters (λ c. (c.0, part_of c.1))) ∙ sym n in
    ap (λ b. if not b then Some 16 else disagreement_from 20 (in_parts s.canisters) (file_rows all)) (eq-eqb _ _ many)
    ∙ agrees s.version 20 s.canisters end valid.memories

at_seam : (xs : List File) (y d : File) → slice_index_or (xs ++ y ∷ []) (length xs) d ≡ y
at_seam [] y d = refl
at_seam (x ∷ xs) y d = at_seam xs y d

-- the last file is the system text
system_bytes : (s : State) → file_bytes (manifest_of s) (flat_map row_chunks (files s)) (system_number (manifest_of s)) ≡ system_text (system_of s)
unfolding manifest_of manifest_from files
system_bytes s =
    let mems : List File = memory_files s.version s.canisters in
    let last : File = system_file (system_of s) in
    let n : length (mems ++ last ∷ []) ≡ length mems + 1 = length-append mems (last ∷ []) in
    let r : length (file_rows (mems ++ last ∷ [])) ≡ length (mems ++ last ∷ []) = count_rows (mems ++ last ∷ []) in
    let number : system_number (manifest_of s) ≡ length mems = omega (arith, n, r) in
    ap (file_bytes (manifest_of s) (flat_map row_chunks (files s))) number
    ∙ file_at s.version (mems ++ last ∷ []) (length mems) last (omega (arith, n))
    ∙ ap (λ (f : File). f.bytes) (at_seam mems last last)

reads_again : (s : State) → IsState s → system_for (manifest_of s) (system_text (system_of s)) ≡ Ok (system_of s)
unfolding system_for manifest_of manifest_from
reads_again s valid =
    ap (λ (r : Result SystemPart ℕ). agreeing_parts r (file_rows (files s))) (system_again s.version (system_of s) valid.system)
    ∙ ap (unless_disagrees (system_of s)) (rows_agree s valid)

-- ---- hashes

hash_in : (m : Manifest) (r : ChunkRow) (bytes : Bytes) → is_chunk m bytes (Some r) ≡ true → chunk_hash bytes ≡ r.sum.hash
hash_in m r bytes h =
    let sized : Bool = length bytes == r.sum.size in
    let hashed : Bool = same_bytes (chunk_hash bytes) r.sum.hash in
    same_bytes_is (chunk_hash bytes) r.sum.hash (and_parts sized hashed (and_parts (sized && hashed) (has_row (row_version m r) bytes) h).0).1

hash_at : (m : Manifest) (rs : List ChunkRow) (k : ℕ) (d bytes : Bytes) → k < length rs → IsTrue (is_chunk m bytes (slice_get rs k)) → get_or (map (λ r. r.sum.hash) rs) k d ≡ chunk_hash bytes
hash_at m [] k d bytes below h = absurd (omega (arith, below))
hash_at m (r ∷ rs) zero d bytes below h = sym (hash_in m r bytes h)
hash_at m (r ∷ rs) (suc k) d bytes below h = hash_at m rs k d bytes (omega (arith, below)) h

module _ (s : State) (had : List (Item × Bytes)) (valid : IsState s) (holds : (i : ℕ) → i < length (manifest_of s).chunks → Holds (rows (manifest_of s)) had (chunk i)) where
  right : map chunk_hash (chunks_had (manifest_of s) had) ≡ map (λ r. r.sum.hash) (manifest_of s).chunks
  right =
      map_twice chunk_hash (λ i. bytes_had had (chunk i)) (range_with_len 0 (length (manifest_of s).chunks))
      ∙ sym (fill_by_all (λ i. chunk_hash (bytes_had had (chunk i))) (map (λ r. r.sum.hash) (manifest_of s).chunks) (length (manifest_of s).chunks) [] (length-map (manifest_of s).chunks (λ r. r.sum.hash))
      (λ k below. hash_at (manifest_of s) (manifest_of s).chunks k [] (bytes_had had (chunk k)) below (holds k below).right))

  bytes : AreByteStrings (chunks_had (manifest_of s) had)
  bytes = all_range IsBytes (λ i. bytes_had had (chunk i)) 0 (length (manifest_of s).chunks) (λ i low high. (holds i (omega (arith, high))).byte_string)

  among : (x : Bytes) → Contains (map chunk_string (chunks_had (manifest_of s) had)) x → Contains (map item_string had) x
  among x c =
      in_all (Contains (map item_string had)) (map chunk_string (chunks_had (manifest_of s) had)) x
      (subst (AllByRecursion (Contains (map item_string had))) (sym (map_twice chunk_string (λ i. bytes_had had (chunk i)) (range_with_len 0 (length (manifest_of s).chunks))))
      (all_range (Contains (map item_string had)) (λ i. chunk_string (bytes_had had (chunk i))) 0 (length (manifest_of s).chunks) (λ i low high. in_map item_string had (chunk i, bytes_had had (chunk i)) (holds i (omega (arith, high))).listed)))
      c

  pub chunks_or_clash : (chunks_had (manifest_of s) had ≡ flat_map row_chunks (files s)) ⊎ Clash (hashed_strings s) (map item_string had)
  chunks_or_clash = by (or_clash (chunks_had (manifest_of s) had ≡ flat_map row_chunks (files s)) (hashed_strings s) (map chunk_string (chunks_had (manifest_of s) had))
      (state_strings s valid) (chunk_string_bytes (chunks_had (manifest_of s) had) bytes) (chunks_or_meet s (chunks_had (manifest_of s) had) right))
    where
      by : (chunks_had (manifest_of s) had ≡ flat_map row_chunks (files s)) ⊎ Clash (hashed_strings s) (map chunk_string (chunks_had (manifest_of s) had))
          → (chunks_had (manifest_of s) had ≡ flat_map row_chunks (files s)) ⊎ Clash (hashed_strings s) (map item_string had)
      by (inl e) = inl e
      by (inr c) = inr (clash_within (hashed_strings s) (map chunk_string (chunks_had (manifest_of s) had)) (map item_string had) among c)

  pub bad_system_or_clash : (place : ℕ) → system_for (manifest_of s) (file_bytes (manifest_of s) (chunks_had (manifest_of s) had) (system_number (manifest_of s))) ≡ Err place → Clash (hashed_strings s) (map item_string had)
  bad_system_or_clash place e = by chunks_or_clash
    where
      ok_err : (a : SystemPart) (b : ℕ) → Ok a ≡ Err b → ⊥
      ok_err a b h = cc

      by : (chunks_had (manifest_of s) had ≡ flat_map row_chunks (files s)) ⊎ Clash (hashed_strings s) (map item_string had) → Clash (hashed_strings s) (map item_string had)
      by (inl same) =
          let text : file_bytes (manifest_of s) (chunks_had (manifest_of s) had) (system_number (manifest_of s)) ≡ system_text (system_of s) =
          ap (λ (cs : List Bytes). file_bytes (manifest_of s) cs (system_number (manifest_of s))) same ∙ system_bytes s in
          absurd (ok_err (system_of s) place (sym (ap (system_for (manifest_of s)) text ∙ reads_again s valid) ∙ e))
      by (inr c) = c
