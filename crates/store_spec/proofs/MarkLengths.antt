-- The length of a mark by sizes and counts, and the bound on it.
use Rattle.std.proofs.Common.{◌≡◌, inl, inr, ℕ, suc, ◌+◌, ◌*◌, ◌≤◌, ◌==◌, Bool, true, false, Option, Some, None, List, [], ◌∷◌, ◌++◌, length, map, sum_by, codes, refl, sym, ap, ◌∙◌, subst, arith, length-append, mul-suc}
use Rattle.std.specs.Prelude.{if◌then◌else◌}
use Rattle.std.specs.List.{flat_map, AllByRecursion, AllZip}
use Rattle.std.proofs.lemmas.List.{length-map}
use Rattle.std.proofs.lemmas.List.Sums.{sum_by-cons}
use Rattle.sha2.specs.Sha256.{sha256}
use Rattle.sha2.proofs.Facts256.{length-sha256}
use Rattle.format_spec.specs.Bytes.{Bytes, be32, be64, part_count, parts}
use Rattle.format_spec.specs.Hashes.{chunk_hash, root_hash}
use Rattle.format_spec.specs.declared.limits.TheConstants.{CHUNK_SIZE}
use Rattle.format_spec.specs.Versions.{is_version}
use Rattle.format_spec.proofs.Cuts.{Are32, chunks_32}
use Rattle.format_spec.proofs.Parts.{parts_length}
use Rattle.format_spec.proofs.StateLimits.{state_limits}
use Rattle.state_spec.specs.State.{SystemPart, CanisterPart, all_pages}
use Rattle.state_spec.specs.Files.{memories_in, memory_pages}
use Rattle.state_spec.proofs.SystemSizes.{system_size}
use Rattle.state_spec.proofs.VersionCases.{version_cases}
use Rattle.store_spec.specs.declared.limits.TheConstants.{MAX_MARK}
use Rattle.store_spec.specs.Mark.{Mark, MarkMemory, hashes_text, sum_text, sums_text, mark_memory_text, mark_body, mark_text, hash_count, flag_size, counted, mark_length, memory_counts, IsSum, FitsMemory, IsMark, IsMarkText}
use Rattle.store_spec.proofs.Marks.{numbers_length, hashes_length}

-- ---- by counts

sum_length : (v : ℕ) (x : Option Bytes) → is_version v ≡ true → IsSum v x → length (sum_text v x) ≡ flag_size v + 32 * hash_count (x ∷ [])
sum_length v x h = elim (version_cases v h) [
  | inl one ↦ subst (λ (w : ℕ). IsSum w x → length (sum_text w x) ≡ flag_size w + 32 * hash_count (x ∷ [])) (sym one) (first x)
  | inr two ↦ subst (λ (w : ℕ). IsSum w x → length (sum_text w x) ≡ flag_size w + 32 * hash_count (x ∷ [])) (sym two) (second x)
]
  where
    first : (y : Option Bytes) → IsSum 1 y → length (sum_text 1 y) ≡ flag_size 1 + 32 * hash_count (y ∷ [])
    first None s = absurd (omega (arith, s))
    first (Some y) s = s

    second : (y : Option Bytes) → IsSum 2 y → length (sum_text 2 y) ≡ flag_size 2 + 32 * hash_count (y ∷ [])
    second None s = refl
    second (Some y) s = ap suc s

hash_count-cons : (x : Option Bytes) (xs : List (Option Bytes)) → hash_count (x ∷ xs) ≡ hash_count (x ∷ []) + hash_count xs
hash_count-cons None xs = omega arith
hash_count-cons (Some x) xs = omega arith

pub sums_length : (v : ℕ) (xs : List (Option Bytes)) → is_version v ≡ true → AllByRecursion (IsSum v) xs → length (sums_text v xs) ≡ flag_size v * length xs + 32 * hash_count xs
sums_length v [] h fit = omega arith
sums_length v (x ∷ xs) h fit = omega (
  arith,
  sum_length v x h fit.0,
  sums_length v xs h fit.1,
  hash_count-cons x xs,
  length-append (sum_text v x) (sums_text v xs),
  mul-suc (flag_size v) (length xs),
)

memory_length : (v : ℕ) (m : MarkMemory) → is_version v ≡ true → AllByRecursion (IsSum v) m.sums → length (mark_memory_text v m) ≡ counted v (memory_counts m)
memory_length v m h fit = omega (
  arith,
  numbers_length m.layers,
  sums_length v m.sums h fit,
  length-append (be32 (length m.layers)) (flat_map be64 m.layers),
  length-append (be32 (length m.layers) ++ flat_map be64 m.layers) (sums_text v m.sums),
)

memories_length : (v : ℕ) (ms : List MarkMemory) (fs : List (Bytes × ℕ)) → is_version v ≡ true → AllZip (FitsMemory v) ms fs
    → length (flat_map (mark_memory_text v) ms) ≡ sum_by (counted v) (map memory_counts ms)
memories_length v [] fs h fit = refl
memories_length v (m ∷ ms) [] h fit = absurd fit
memories_length v (m ∷ ms) (f ∷ fs) h fit = omega (
  arith,
  memory_length v m h fit.0.sums_fit,
  memories_length v ms fs h fit.1,
  length-append (mark_memory_text v m) (flat_map (mark_memory_text v) ms),
  sum_by-cons (counted v) (memory_counts m) (map memory_counts ms),
)

root_32 : (version : ℕ) (pieces : List Bytes) → length (root_hash version pieces) ≡ 32
unfolding root_hash
root_32 version pieces = length-sha256 _

root_long : (m : Mark) (s : SystemPart) → IsMark m s → length m.root ≡ 32
root_long m s good = ap length good.root ∙ root_32 _ _

pub mark_long : (m : Mark) (s : SystemPart) → IsMark m s → length (mark_text m) ≡ mark_length m.version (length m.system) (map memory_counts m.memories) (length m.system_sums)
unfolding mark_text
mark_long m s good =
    let a : Bytes = codes "ICMK" ++ be32 m.version in
    let b : Bytes = a ++ be64 m.height in
    let c : Bytes = b ++ be32 (length m.system) in
    let d : Bytes = c ++ m.system in
    let e : Bytes = d ++ flat_map (mark_memory_text m.version) m.memories in
    let f : Bytes = e ++ hashes_text m.system_sums in
    omega (
      arith,
      length-append (mark_body m) (sha256 (mark_body m)),
      length-sha256 (mark_body m),
      length-append f m.root,
      length-append e (hashes_text m.system_sums),
      length-append d (flat_map (mark_memory_text m.version) m.memories),
      length-append c m.system,
      length-append b (be32 (length m.system)),
      length-append a (be64 m.height),
      length-append (codes "ICMK") (be32 m.version),
      root_long m s good,
      memories_length m.version m.memories (memories_in s) good.version good.memories_fit,
      hashes_length m.system_sums (subst Are32 (sym good.system_sums) (chunks_32 (parts CHUNK_SIZE m.system))),
    )

-- ---- the bound

few_hashes : (xs : List (Option Bytes)) → hash_count xs ≤ length xs
few_hashes [] = omega arith
few_hashes (None ∷ xs) = omega (arith, few_hashes xs)
few_hashes (Some x ∷ xs) = omega (arith, few_hashes xs)

small_flag : (v n : ℕ) → flag_size v * n ≤ n
small_flag v n = by (v == 1)
  where
    by : (b : Bool) → (if b then 0 else 1) * n ≤ n
    by true = omega arith
    by false = omega arith

one_bound : (v : ℕ) (m : MarkMemory) (f : Bytes × ℕ) → FitsMemory v m f → counted v (memory_counts m) * 256 ≤ 293 * 256 + 33 * f.1
one_bound v m f fit = omega (arith, fit.few, fit.each_chunk, few_hashes m.sums, small_flag v (length m.sums))

-- of the memories of these canisters
bound : (v : ℕ) (cs : List (Bytes × CanisterPart)) (ms : List MarkMemory) → AllZip (FitsMemory v) ms (memory_pages cs)
    → sum_by (counted v) (map memory_counts ms) * 256 ≤ 586 * 256 * length cs + 33 * all_pages cs
bound v [] [] fit = omega arith
bound v [] (m ∷ ms) fit = absurd fit
bound v (c ∷ cs) [] fit = absurd fit
bound v (c ∷ cs) (m ∷ []) fit = absurd fit.1
bound v (c ∷ cs) (heap ∷ stable ∷ ms) fit = omega (
  arith,
  one_bound v heap _ fit.0,
  one_bound v stable _ fit.1.0,
  bound v cs ms fit.1.1,
  sum_by-cons (counted v) (memory_counts heap) (memory_counts stable ∷ map memory_counts ms),
  sum_by-cons (counted v) (memory_counts stable) (map memory_counts ms),
  sum_by-cons (λ (x : Bytes × CanisterPart). x.1.heap + x.1.stable) c cs,
)

pub mark_bounded : (height : ℕ) (text : Bytes) (m : Mark) (s : SystemPart) → IsMarkText height text m s → length text ≤ MAX_MARK
mark_bounded height text m s is =
    let good = is.good in
    let size : length m.system ≤ 67108864 = omega (arith, ap (λ (k : Bytes). length k) good.system_spelled, (system_size m.version s good.system_good).1) in
    let sums : length m.system_sums ≡ part_count 1048576 (length m.system) = ap length good.system_sums ∙ length-map (parts CHUNK_SIZE m.system) chunk_hash ∙ parts_length CHUNK_SIZE m.system in
    omega (
      arith,
      ap (λ (k : Bytes). length k) is.spelled,
      mark_long m s good,
      size,
      sums,
      bound m.version s.canisters m.memories good.memories_fit,
      good.system_good.few_canisters,
      good.system_good.pages_fit,
      (state_limits m.version).1,
    )
