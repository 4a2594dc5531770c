-- The mark of a state whose memories are written whole.
use Rattle.std.proofs.Common.{◌≡◌, ◌≢◌, ℕ, ◌*◌, ◌<◌, ◌≤◌, ◌^◌, ◌==◌, ◌⊎◌, List, [], ◌∷◌, length, map, Option, AllPairs, inl, inr, refl, sym, ap, subst, ◌∙◌, arith}
use Rattle.std.specs.List.{AllByRecursion, AllZip}
use Rattle.std.proofs.lemmas.Bool.{cases_Bool, false≢true, eqb-true}
use Rattle.std.proofs.lemmas.List.{length-map}
use Rattle.sha2.proofs.Facts256.{length-sha256}
use Rattle.format_spec.specs.Bytes.{Bytes, part_count, parts}
use Rattle.format_spec.specs.Hashes.{chunk_hash}
use Rattle.format_spec.specs.declared.limits.TheConstants.{CHUNK_SIZE, CHUNK_PAGES, PAGE_SIZE}
use Rattle.format_spec.proofs.Cuts.{heads}
use Rattle.state_spec.specs.State.{State, system_of}
use Rattle.state_spec.specs.Manifest.{Manifest, sum_of, chunk_hashes, file_sums, manifest_from}
use Rattle.state_spec.specs.Root.{root_of, root_of_meta, meta_of}
use Rattle.store_spec.specs.Mark.{MarkMemory, IsSum, FitsMemory}
use Rattle.sys_state.specs.System.{System, part_of}
use Rattle.manifest.specs.Fits.{FitMemories}
use Rattle.sys_state.proofs.OfState.{parts_of_state}
use Rattle.manifest.proofs.States.{of_state}
use Rattle.page_file.specs.Files.{NumberedFile}
use Rattle.height_store.specs.Store.{numbers_of}
use Rattle.whole_state.specs.Whole.{HasParts}
use Rattle.whole_state.specs.Written.{IsWholeStack, whole_stack, pages_in}
use Rattle.std.proofs.lemmas.Slice.Zip.{AllZip-long}
use Rattle.state_spec.proofs.RowSizes.{length-chunk_hashes}

-- ---- the memories

length-chunk_hash : (bytes : Bytes) → length (chunk_hash bytes) ≡ 32
unfolding chunk_hash
length-chunk_hash bytes = length-sha256 _

each_fits : (ps : List Bytes) → AllByRecursion (IsSum 1) (map (sum_of 1) ps)
each_fits [] = tt
each_fits (p ∷ ps) = (length-chunk_hash p, each_fits ps)

one_or_none : (number pages : ℕ) → ((pages ≡ 0) × (numbers_of (whole_stack number pages) ≡ [])) ⊎ ((pages ≡ 0 → ⊥) × (numbers_of (whole_stack number pages) ≡ number ∷ []))
one_or_none number pages = elim (cases_Bool (pages == 0)) [
  | inl none ↦ inl (eqb-true pages 0 none, rw none refl)
  | inr some ↦ inr (λ is. false≢true (sym some ∙ ap (λ (n : ℕ). n == 0) is), rw some refl)
]

fits_one : (m : MarkMemory) (f : Bytes × ℕ) (bytes : Bytes) (stack : List NumberedFile) → m.layers ≡ numbers_of stack → m.sums ≡ chunk_hashes 1 bytes → length bytes ≡ f.1 * PAGE_SIZE → IsWholeStack bytes stack → FitsMemory 1 m f
fits_one m f bytes stack layers sums size whole =
    let pages : pages_in bytes ≡ f.1 = omega (arith, size) in
    let count : length m.sums ≡ part_count CHUNK_SIZE (length bytes) = ap length sums ∙ length-chunk_hashes 1 bytes in
    let each : length m.sums ≡ part_count CHUNK_PAGES f.1 = omega (arith, count, size) in
    let good = subst (AllByRecursion (IsSum 1)) (sym sums) (each_fits (parts CHUNK_SIZE bytes)) in
    let named : m.layers ≡ numbers_of (whole_stack whole.number (pages_in bytes)) = layers ∙ ap numbers_of whole.whole in
    elim (one_or_none whole.number (pages_in bytes)) [
      | inl none ↦ fits_layers m f [] (named ∙ none.1) (omega arith) (λ i j d below last. absurd (omega arith)) tt (λ _. refl) each good
      | inr some ↦ fits_layers m f (whole.number ∷ []) (named ∙ some.1) (omega arith) (λ i j d below last. absurd (omega arith)) (whole.fits, tt) (λ is. absurd (some.0 (pages ∙ is))) each good
    ]
  where
    fits_layers : (m : MarkMemory) (f : Bytes × ℕ) (layers : List ℕ) → m.layers ≡ layers → length layers ≤ 32 → AllPairs (λ a b. a ≢ b) layers → AllByRecursion (λ n. n < 2 ^ 64) layers → (f.1 ≡ 0 → layers ≡ [])
        → length m.sums ≡ part_count CHUNK_PAGES f.1 → AllByRecursion (IsSum 1) m.sums → FitsMemory 1 m f
    fits_layers m f layers is few different numbers none each good = record {
      few = subst (λ (ns : List ℕ). length ns ≤ 32) (sym is) few;
      different = subst (λ (ns : List ℕ). AllPairs (λ a b. a ≢ b) ns) (sym is) different;
      numbers = subst (AllByRecursion (λ n. n < 2 ^ 64)) (sym is) numbers;
      none_if_empty = λ empty. is ∙ none empty;
      each_chunk = each;
      sums_fit = good;
    }

pub memories_fit : (ms : List MarkMemory) (fs : List (Bytes × ℕ)) (memories : List Bytes) (stacks : List (List NumberedFile)) → map (λ m. m.layers) ms ≡ map numbers_of stacks → map (λ m. m.sums) ms ≡ map (chunk_hashes 1) memories
    → map (λ bytes. length bytes) memories ≡ map (λ f. f.1 * PAGE_SIZE) fs → AllZip IsWholeStack memories stacks → AllZip (FitsMemory 1) ms fs
memories_fit [] [] [] [] layers sums sizes whole = tt
memories_fit ms fs [] (s ∷ stacks) layers sums sizes whole = absurd whole
memories_fit ms fs (b ∷ memories) [] layers sums sizes whole = absurd whole
memories_fit (m ∷ ms) fs [] [] layers sums sizes whole = absurd cc
memories_fit [] (f ∷ fs) [] [] layers sums sizes whole = absurd cc
memories_fit [] fs (b ∷ memories) (s ∷ stacks) layers sums sizes whole = absurd cc
memories_fit (m ∷ ms) [] (b ∷ memories) (s ∷ stacks) layers sums sizes whole = absurd cc
memories_fit (m ∷ ms) (f ∷ fs) (b ∷ memories) (s ∷ stacks) layers sums sizes whole =
    let l = heads m.layers (numbers_of s) (map (λ (x : MarkMemory). x.layers) ms) (map numbers_of stacks) layers in
    let h = heads m.sums (chunk_hashes 1 b) (map (λ (x : MarkMemory). x.sums) ms) (map (chunk_hashes 1) memories) sums in
    let n = heads (length b) (f.1 * PAGE_SIZE) (map (λ (x : Bytes). length x) memories) (map (λ (x : Bytes × ℕ). x.1 * PAGE_SIZE) fs) sizes in
    (fits_one m f b s l.0 h.0 n.0 whole.0, memories_fit ms fs memories stacks l.1 h.1 n.1 whole.1)

-- ---- the root

pub root_is : (root : Bytes) (system : System) (memories : List Bytes) (s : State) → FitMemories (part_of system) memories → HasParts s system memories → root ≡ root_of_meta (meta_of (manifest_from 1 (file_sums (part_of system) (map (chunk_hashes 1) memories)))) → root ≡ root_of s
unfolding root_of
root_is root system memories s fit parts root_made =
    let parts_are : system_of s ≡ part_of system = sym (parts_of_state s) ∙ ap part_of parts.parts in
    root_made ∙ ap (λ (m : Manifest). root_of_meta (meta_of m)) (of_state 1 s (part_of system) memories fit parts.version parts_are parts.bytes)

pub counted : {V W : Type 0} (sums : List V) (memories : List W) (stacks : List (List NumberedFile)) (hashes : V → List (Option Bytes)) (bytes : W → Bytes) → map hashes sums ≡ map (chunk_hashes 1) (map bytes memories) → AllZip IsWholeStack (map bytes memories) stacks → length sums ≡ length stacks
counted sums memories stacks hashes bytes is whole = sym (length-map sums hashes) ∙ ap length is ∙ length-map (map bytes memories) (chunk_hashes 1) ∙ sym (AllZip-long IsWholeStack (map bytes memories) stacks whole)
