-- How many bytes are appended and read.
use Rattle.std.proofs.Common.{◌≡◌, ℕ, ◌+◌, ◌==◌, true, false, List, [], ◌∷◌, length, map, filter, suc, sum_by, inl, inr, refl, sym, ap, ◌∙◌, arith, if◌then◌else◌}
use Rattle.std.specs.List.{AllByRecursion, AllZip}
use Rattle.std.proofs.lemmas.Bool.{cases_Bool, eqb-true, eq-eqb, ne_eqb, false≢true}
use Rattle.format_spec.specs.Bytes.{Bytes, part_count, parts}
use Rattle.format_spec.specs.Hashes.{chunk_hash}
use Rattle.format_spec.proofs.Parts.{parts_length}
use Rattle.std.proofs.lemmas.List.{length-map}
use Rattle.format_spec.specs.declared.limits.TheConstants.{CHUNK_SIZE}
use Rattle.format_spec.proofs.Cuts.{heads}
use Rattle.state_spec.specs.State.{SystemPart}
use Rattle.state_spec.specs.SystemText.{system_text}
use Rattle.state_spec.specs.Manifest.{sum_of, has_row, chunk_hashes}
use Rattle.store_spec.specs.Mark.{Mark, MarkMemory, IsMark, mark_text, mark_length, memory_counts, hash_count}
use Rattle.store_spec.proofs.MarkLengths.{mark_long}
use Rattle.page_file.specs.Files.{NumberedFile}
use Rattle.height_store.specs.Store.{numbers_of}
use Rattle.store_spec.specs.Whole.{file_bytes, whole_counts, whole_length}
use Rattle.whole_state.specs.Written.{IsMemoryBytes, IsWholeStack, whole_stack, pages_in}
use Rattle.state_spec.proofs.RowSizes.{length-chunk_hashes}

-- ---- a mark of memories that are written whole

-- each chunk has a hash
rows_counted : (ps : List Bytes) → hash_count (map (sum_of 1) ps) ≡ length (filter (has_row 1) ps)
rows_counted [] = refl
rows_counted (p ∷ ps) = ap suc (rows_counted ps)

one_memory : (m : MarkMemory) (bytes : Bytes) (stack : List NumberedFile) → m.layers ≡ numbers_of stack → m.sums ≡ chunk_hashes 1 bytes → IsMemoryBytes bytes → IsWholeStack bytes stack → memory_counts m ≡ whole_counts 1 bytes
one_memory m bytes stack layers sums good whole =
    let count : length m.sums ≡ part_count CHUNK_SIZE (length bytes) = ap length sums ∙ length-chunk_hashes 1 bytes in
    let hashes : hash_count m.sums ≡ length (filter (has_row 1) (parts CHUNK_SIZE bytes)) = ap hash_count sums ∙ rows_counted (parts CHUNK_SIZE bytes) in
    λ i. record { layers = layer i; sums = count i; hashes = hashes i }
  where
    named : length m.layers ≡ length (numbers_of (whole_stack whole.number (pages_in bytes)))
    named = ap length (layers ∙ ap numbers_of whole.whole)

    layer : length m.layers ≡ (if length bytes == 0 then 0 else 1)
    layer = elim (cases_Bool (length bytes == 0)) [
      | inl empty ↦
          let pages : (pages_in bytes == 0) ≡ true = eq-eqb (pages_in bytes) 0 (omega (arith, eqb-true (length bytes) 0 empty)) in
          let none : length (numbers_of (whole_stack whole.number (pages_in bytes))) ≡ 0 = rw pages refl in
          rw empty (named ∙ none)
      | inr some ↦
          let more : length bytes ≡ 0 → ⊥ = λ is. false≢true (sym some ∙ eq-eqb (length bytes) 0 is) in
          let pages : (pages_in bytes == 0) ≡ false = ne_eqb (pages_in bytes) 0 (λ is. more (omega (arith, is, good.whole))) in
          let one : length (numbers_of (whole_stack whole.number (pages_in bytes))) ≡ 1 = rw pages refl in
          rw some (named ∙ one)
    ]

all_memories : (ms : List MarkMemory) (memories : List Bytes) (stacks : List (List NumberedFile)) → map (λ m. m.layers) ms ≡ map numbers_of stacks → map (λ m. m.sums) ms ≡ map (chunk_hashes 1) memories
    → AllByRecursion IsMemoryBytes memories → AllZip IsWholeStack memories stacks → map memory_counts ms ≡ map (whole_counts 1) memories
all_memories [] [] stacks layers sums good whole = refl
all_memories [] (b ∷ memories) stacks layers sums good whole = absurd cc
all_memories (m ∷ ms) [] stacks layers sums good whole = absurd cc
all_memories (m ∷ ms) (b ∷ memories) [] layers sums good whole = absurd whole
all_memories (m ∷ ms) (b ∷ memories) (s ∷ stacks) layers sums good whole =
    let l = heads m.layers (numbers_of s) (map (λ (x : MarkMemory). x.layers) ms) (map numbers_of stacks) layers in
    let h = heads m.sums (chunk_hashes 1 b) (map (λ (x : MarkMemory). x.sums) ms) (map (chunk_hashes 1) memories) sums in
    λ i. one_memory m b s l.0 h.0 good.0 whole.0 i ∷ all_memories ms memories stacks l.1 h.1 good.1 whole.1 i

-- What the page files of whole memories and the mark over them have in all.
pub whole_spent : (m : Mark) (s : SystemPart) (memories : List Bytes) (stacks : List (List NumberedFile)) → IsMark m s → m.version ≡ 1 → map (λ x. x.layers) m.memories ≡ map numbers_of stacks → map (λ x. x.sums) m.memories ≡ map (chunk_hashes 1) memories
    → AllByRecursion IsMemoryBytes memories → AllZip IsWholeStack memories stacks → sum_by file_bytes memories + length (mark_text m) ≡ whole_length 1 (length (system_text s)) memories
whole_spent m s memories stacks good one layers sums fit whole =
    let text : length m.system ≡ length (system_text s) = ap (λ (t : Bytes). length t) good.system_spelled in
    let chunks : length m.system_sums ≡ part_count CHUNK_SIZE (length (system_text s)) = ap length good.system_sums ∙ length-map (parts CHUNK_SIZE m.system) chunk_hash ∙ parts_length CHUNK_SIZE m.system ∙ ap (part_count CHUNK_SIZE) text in
    let counts = all_memories m.memories memories stacks layers sums fit whole in
    ap (λ (n : ℕ). sum_by file_bytes memories + n) (mark_long m s good ∙ (λ i. mark_length (one i) (text i) (counts i) (chunks i)))
