-- How long names and lists of a state within the limits are.
use Rattle.std.proofs.Common.{◌≡◌, ℕ, suc, ◌+◌, ◌*◌, ◌<◌, ◌≤◌, List, [], ◌∷◌, ◌++◌, length, map, Option, arith}
use Rattle.std.specs.Prelude.{codes}
use Rattle.std.specs.List.{AllByRecursion}
use Rattle.std.proofs.lemmas.List.{length-map, length-append}
use Rattle.hex.specs.Hex.{encode_lower, lower_digits}
use Rattle.hex.proofs.HexLemmas.{length-encode_with}
use Rattle.format_spec.specs.Bytes.{Bytes, part_count}
use Rattle.format_spec.specs.Hashes.{ChunkSum}
use Rattle.format_spec.specs.declared.limits.TheConstants.{CHUNK_SIZE, PAGE_SIZE}
use Rattle.format_spec.specs.Versions.{memory_limit}
use Rattle.format_spec.proofs.StateLimits.{memory_limit-2}
use Rattle.format_spec.proofs.Lists.{all_join}
use Rattle.state_spec.specs.State.{SystemPart, CanisterPart, IsSystem, FitsCanister}
use Rattle.state_spec.specs.SystemText.{system_text}
use Rattle.state_spec.specs.Files.{file_name, heap_pages, stable_pages, memory_pages, memories_in, system_name}
use Rattle.state_spec.proofs.FileOrder.{by_two}
use Rattle.state_spec.specs.Manifest.{FileSums, ChunkRow, chunk_sums, chunk_rows, file_row, memory_sums, file_sums, manifest_from, chunk_hashes}
use Rattle.state_spec.proofs.SystemSizes.{id_size, system_size}
use Rattle.sys_state.specs.declared.record.CanisterRecord.{CanisterRecord}
use Rattle.sys_state.specs.System.{System, IsWithinLimits, part_of_record}
use Rattle.manifest.specs.Fits.{FitsText, FitSums}
use Rattle.manifest.proofs.Growing.{few_sums}
use Rattle.state_spec.proofs.RowSizes.{length-chunk_hashes}

abbrev part_in : Bytes × CanisterRecord → Bytes × CanisterPart
part_in d = (d.0, part_of_record d.1)

pub few_canisters : (s : System) → IsWithinLimits s → length s.canisters ≤ 1024
few_canisters s kept =
    let few = kept.system.few_canisters in
    let count = length-map s.canisters part_in in
    omega (arith, few, count)

-- ---- each file

pub record Small (f : FileSums) : Type 0 where
  pub name : length f.name < 256
  pub hashes : length f.hashes ≤ 512

pub name_size : (id memory : Bytes) → length id ≤ 29 → length memory ≤ 6 → length (file_name id memory) < 256
name_size id memory short few =
    let a : Bytes = codes "canister/" ++ encode_lower id in
    omega (arith, short, few, length-encode_with lower_digits id, length-append (codes "canister/") (encode_lower id), length-append a (codes "/"), length-append (a ++ codes "/") memory)

few_chunks : (pages n : ℕ) → pages ≤ memory_limit 2 → n ≡ part_count CHUNK_SIZE (pages * PAGE_SIZE) → n ≤ 512
few_chunks pages n few is = omega (arith, few, is, memory_limit-2)

small_memories : (cs : List (Bytes × CanisterPart)) (ls : List (List (Option Bytes))) → AllByRecursion (FitsCanister 2) cs → map (λ (l : List (Option Bytes)). length l) ls ≡ map (λ (m : Bytes × ℕ). part_count CHUNK_SIZE (m.1 * PAGE_SIZE)) (memory_pages cs)
    → AllByRecursion Small (memory_sums (memory_pages cs) ls) × (length (memory_sums (memory_pages cs) ls) ≤ 2 * length cs)
small_memories cs ls fit e =
    by_two heap_pages stable_pages (λ (l : List (Option Bytes)). length l) (λ (m : Bytes × ℕ). part_count CHUNK_SIZE (m.1 * PAGE_SIZE))
    (λ (cs : List (Bytes × CanisterPart)) (ls : List (List (Option Bytes))). AllByRecursion (FitsCanister 2) cs → AllByRecursion Small (memory_sums (memory_pages cs) ls) × (length (memory_sums (memory_pages cs) ls) ≤ 2 * length cs))
    (λ fit. (tt, omega arith)) more cs ls e fit
  where
    more : (c : Bytes × CanisterPart) (cs : List (Bytes × CanisterPart)) (a b : List (Option Bytes)) (ls : List (List (Option Bytes))) → length a ≡ part_count CHUNK_SIZE (c.1.heap * PAGE_SIZE) → length b ≡ part_count CHUNK_SIZE (c.1.stable * PAGE_SIZE)
        → (AllByRecursion (FitsCanister 2) cs → AllByRecursion Small (memory_sums (memory_pages cs) ls) × (length (memory_sums (memory_pages cs) ls) ≤ 2 * length cs))
        → AllByRecursion (FitsCanister 2) (c ∷ cs) → AllByRecursion Small (memory_sums (memory_pages (c ∷ cs)) (a ∷ b ∷ ls)) × (length (memory_sums (memory_pages (c ∷ cs)) (a ∷ b ∷ ls)) ≤ 2 * length (c ∷ cs))
    more c cs a b ls heap stable before fit =
        let id = id_size c.0 fit.0.id in
        let rest = before fit.1 in (
          (
            record { name = name_size c.0 (codes "heap") id (omega arith); hashes = few_chunks c.1.heap (length a) fit.0.heap heap },
            (record { name = name_size c.0 (codes "stable") id (omega arith); hashes = few_chunks c.1.stable (length b) fit.0.stable stable }, rest.0),
          ),
          (let k = rest.1 in omega arith),
        )

-- ---- all files

rows_few : (n : ℕ) (fs : List FileSums) → AllByRecursion Small fs → length (chunk_rows n fs) ≤ 512 * length fs
rows_few n [] small = omega arith
rows_few n (f ∷ fs) small =
    let own : List ChunkRow = map (λ (c : ChunkSum). record { file = n; sum = c }) (chunk_sums f) in
    let len : length own ≡ length (chunk_sums f) = length-map (chunk_sums f) (λ (c : ChunkSum). record { file = n; sum = c }) in
    let few : length (chunk_sums f) ≤ length f.hashes = few_sums f.size f.hashes in
    omega (arith, rows_few (suc n) fs small.1, length-append own (chunk_rows (suc n) fs), len, few, small.0.hashes)

names_short : (fs : List FileSums) → AllByRecursion Small fs → AllByRecursion (λ row. length row.name < 256) (map file_row fs)
names_short [] small = tt
names_short (f ∷ fs) small = (small.0.name, names_short fs small.1)

pub few_memories : (s : SystemPart) (hashes : List (List (Option Bytes))) → IsSystem 2 s → FitSums s hashes → length (memory_sums (memories_in s) hashes) ≤ 2048
few_memories s hashes good fit =
    let few = (small_memories s.canisters hashes good.canisters_fit fit).1 in
    let count : length s.canisters ≤ 1024 = good.few_canisters in
    omega (arith, few, count)

pub few_system_chunks : (s : SystemPart) → IsSystem 2 s → length (chunk_hashes 1 (system_text s)) ≤ 64
few_system_chunks s good =
    let text : Bytes = system_text s in
    let size : length text ≤ 67108864 = (system_size 2 s good).1 in
    let chunks : length (chunk_hashes 1 text) ≡ part_count CHUNK_SIZE (length text) = length-chunk_hashes 1 text in
    omega (arith, chunks, size)

pub fits_text : (v : ℕ) (s : SystemPart) (hashes : List (List (Option Bytes))) → IsSystem 2 s → FitSums s hashes → FitsText (manifest_from v (file_sums s hashes))
unfolding manifest_from file_sums
fits_text v s hashes good fit =
    let ms = small_memories s.canisters hashes good.canisters_fit fit in
    let text : Bytes = system_text s in
    let chunks : length (chunk_hashes 1 text) ≤ 64 = few_system_chunks s good in
    let last : FileSums = record { name = system_name; size = length text; hashes = chunk_hashes 1 text } in
    let last_small : Small last = record { name = omega arith; hashes = omega (arith, chunks) } in
    let fs : List FileSums = memory_sums (memories_in s) hashes ++ last ∷ [] in
    let small : AllByRecursion Small fs = all_join Small (memory_sums (memories_in s) hashes) (last ∷ []) ms.0 (last_small, tt) in
    let count : length fs ≡ length (memory_sums (memories_in s) hashes) + 1 = length-append (memory_sums (memories_in s) hashes) (last ∷ []) in
    let few : length s.canisters ≤ 1024 = good.few_canisters in
    let many = ms.1 in
    record {
      files = omega (arith, length-map fs file_row, count, few, many);
      chunks = omega (arith, rows_few 0 fs small, count, few, many);
      names = names_short fs small;
    }
