-- The manifest that is made of a state's parts is that of the state.
use Rattle.std.proofs.Common.{◌≡◌, ℕ, ◌*◌, ◌^◌, ◌<◌, ◌≤◌, List, [], ◌∷◌, ◌++◌, length, map, take, Option, refl, sym, ap, subst, ◌∙◌, arith}
use Rattle.std.proofs.lemmas.List.{length-map, take_all}
use Rattle.format_spec.specs.Bytes.{Bytes, part_count}
use Rattle.format_spec.specs.declared.limits.TheConstants.{CHUNK_SIZE, PAGE_SIZE}
use Rattle.state_spec.specs.State.{State, SystemPart, IsSystem, system_of, memory_bytes}
use Rattle.state_spec.specs.SystemText.{system_text}
use Rattle.state_spec.specs.Files.{system_name, memories_in}
use Rattle.state_spec.proofs.FileSums.{manifest_by_sizes}
use Rattle.state_spec.specs.Manifest.{Manifest, FileSums, sums_of, chunk_hashes, file_sums, file_row, manifest_from, manifest_of}
use Rattle.manifest.specs.Fits.{FitSums, FitMemories}
use Rattle.manifest.specs.Adding.{Adds, all_memory_sums}
use Rattle.manifest.proofs.Growing.{added}
use Rattle.manifest.proofs.Bounds.{few_memories, few_system_chunks}
use Rattle.format_spec.proofs.Cuts.{heads}
use Rattle.state_spec.proofs.RowSizes.{length-chunk_hashes}

-- ---- the system text behind the memories

pub made : (v : ℕ) (mid new : Manifest) (s : SystemPart) (hashes : List (List (Option Bytes))) (name text : Bytes) (size : ℕ) (own : List (Option Bytes))
    → mid ≡ manifest_from v (all_memory_sums s hashes) → Adds mid new (record { name = name; size = size; hashes = own })
    → name ≡ system_name → size ≡ length text → own ≡ chunk_hashes 1 text → text ≡ system_text s → new ≡ manifest_from v (file_sums s hashes)
unfolding file_sums
made v mid new s hashes name text size own is adds named sized hashed texted =
    let last : FileSums = record { name = name; size = size; hashes = own } in
    let same : last ≡ sums_of (record { version = 1; name = system_name; bytes = text }) = λ i. record { name = named i; size = sized i; hashes = hashed i } in
    added v mid new (all_memory_sums s hashes) last adds is
    ∙ ap (λ (f : FileSums). manifest_from v (all_memory_sums s hashes ++ f ∷ [])) (same ∙ ap (λ (t : Bytes). sums_of (record { version = 1; name = system_name; bytes = t })) texted)

pub few_files : (v : ℕ) (m : Manifest) (s : SystemPart) (hashes : List (List (Option Bytes))) → IsSystem 2 s → FitSums s hashes → m ≡ manifest_from v (all_memory_sums s hashes) → length m.files < 2 ^ 32
unfolding manifest_from
few_files v m s hashes good fit is =
    let count : length m.files ≡ length (all_memory_sums s hashes) = ap (λ (x : Manifest). length x.files) is ∙ length-map (all_memory_sums s hashes) file_row in
    let few = few_memories s hashes good fit in
    omega (arith, count, few)

pub few_hashes : (s : SystemPart) (text : Bytes) (own : List (Option Bytes)) → IsSystem 2 s → own ≡ chunk_hashes 1 text → text ≡ system_text s → length own < 2 ^ 32
few_hashes s text own good is texted =
    let few = few_system_chunks s good in
    let same : length own ≡ length (chunk_hashes 1 (system_text s)) = ap length (is ∙ ap (chunk_hashes 1) texted) in
    omega (arith, few, same)

-- ---- hashes of bytes that fit

pub fit_hashes : (v : ℕ) (s : SystemPart) (memories : List Bytes) → FitMemories s memories → FitSums s (map (chunk_hashes v) memories)
fit_hashes v s memories fit = go memories (memories_in s) fit
  where
    go : (bs : List Bytes) (ms : List (Bytes × ℕ)) → map (λ (b : Bytes). length b) bs ≡ map (λ (m : Bytes × ℕ). m.1 * PAGE_SIZE) ms
        → map (λ (l : List (Option Bytes)). length l) (map (chunk_hashes v) bs) ≡ map (λ (m : Bytes × ℕ). part_count CHUNK_SIZE (m.1 * PAGE_SIZE)) ms
    go [] [] e = refl
    go [] (m ∷ ms) e = absurd cc
    go (b ∷ bs) [] e = absurd cc
    go (b ∷ bs) (m ∷ ms) e =
        let h = heads (length b) (m.1 * PAGE_SIZE) (map (λ (x : Bytes). length x) bs) (map (λ (x : Bytes × ℕ). x.1 * PAGE_SIZE) ms) e in
        let count : length (chunk_hashes v b) ≡ part_count CHUNK_SIZE (m.1 * PAGE_SIZE) = length-chunk_hashes v b ∙ ap (part_count CHUNK_SIZE) h.0 in
        let rest = go bs ms h.1 in
        λ i. count i ∷ rest i

-- ---- a plain state

pub of_state : (v : ℕ) (s : State) (p : SystemPart) (memories : List Bytes) → FitMemories p memories → s.version ≡ v → system_of s ≡ p → memory_bytes s ≡ memories
    → manifest_from v (file_sums p (map (chunk_hashes v) memories)) ≡ manifest_of s
of_state v s p memories fit same parts-are bytes-are =
    (λ i. manifest_from (sym same i) (file_sums (sym parts-are i) (map (chunk_hashes (sym same i)) (sym bytes-are i))))
    ∙ sym (manifest_by_sizes s (subst (λ (q : SystemPart). FitMemories q (memory_bytes s)) (sym parts-are) (subst (FitMemories p) (sym bytes-are) fit)))

-- the hashes of all memories, one memory after another
pub scratch_hashes : {V W : Type 0} (v : ℕ) (hashes : V → List (Option Bytes)) (bytes : W → Bytes) (sums : List V) (memories : List W) (i : ℕ) → length memories ≤ i
    → map hashes sums ≡ map (λ m. chunk_hashes v (bytes m)) (take i memories) → map hashes sums ≡ map (chunk_hashes v) (map bytes memories)
scratch_hashes {W = W} v hashes bytes sums memories i le so_far =
    so_far ∙ ap (λ (ms : List W). map (λ m. chunk_hashes v (bytes m)) ms) (take_all i memories le) ∙ twice memories
  where
    twice : (ms : List W) → map (λ m. chunk_hashes v (bytes m)) ms ≡ map (chunk_hashes v) (map bytes ms)
    twice [] = refl
    twice (m ∷ ms) = ap (λ (rest : List (List (Option Bytes))). chunk_hashes v (bytes m) ∷ rest) (twice ms)
