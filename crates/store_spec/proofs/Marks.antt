-- A text is at most one mark, of at most one state's parts.
use Rattle.std.proofs.Common.{◌≡◌, inl, inr, ℕ, ◌*◌, ◌^◌, ◌<◌, true, List, [], ◌∷◌, ◌++◌, length, map, codes, Option, Some, None, refl, sym, ap, ◌∙◌, subst, arith, length-append, append_assoc}
use Rattle.std.specs.List.{flat_map, AllByRecursion, AllZip}
use Rattle.sha2.specs.Sha256.{sha256}
use Rattle.sha2.proofs.Facts256.{length-sha256}
use Rattle.format_spec.specs.Bytes.{Bytes, be32, be64, parts}
use Rattle.format_spec.specs.Hashes.{chunk_hash}
use Rattle.format_spec.specs.Versions.{is_version}
use Rattle.format_spec.specs.declared.limits.TheConstants.{CHUNK_SIZE}
use Rattle.format_spec.proofs.Cuts.{cons_same, heads, cut_front, cut_end, be32_same, be64_same, Are32}
use Rattle.format_spec.proofs.Parts.{joined}
use Rattle.state_spec.specs.State.{SystemPart, IsSystem}
use Rattle.state_spec.specs.SystemText.{system_text, read_system}
use Rattle.state_spec.specs.Files.{memories_in}
use Rattle.state_spec.specs.Manifest.{file_sums, manifest_from}
use Rattle.state_spec.specs.Root.{root_of_meta, meta_of}
use Rattle.state_spec.proofs.BothWays.{system_again}
use Rattle.state_spec.proofs.SystemSizes.{system_size}
use Rattle.state_spec.proofs.VersionCases.{version_cases, version_low}
use Rattle.store_spec.specs.Mark.{Mark, MarkMemory, hashes_text, sum_text, sums_text, mark_memory_text, mark_body, mark_text, IsSum, FitsMemory, IsMark, IsMarkText}
use Rattle.format_spec.proofs.Lists.{apart_four, apart_five}
use Rattle.format_spec.proofs.Readings.{ok_is}

-- ---- a memory

pub numbers_length : (xs : List ℕ) → length (flat_map be64 xs) ≡ 8 * length xs
numbers_length [] = refl
numbers_length (x ∷ xs) = omega (arith, numbers_length xs)

numbers_cut : (xs ys : List ℕ) → AllByRecursion (λ n. n < 2 ^ 64) xs → AllByRecursion (λ n. n < 2 ^ 64) ys → flat_map be64 xs ≡ flat_map be64 ys → xs ≡ ys
numbers_cut [] [] p q e = refl
numbers_cut [] (y ∷ ys) p q e = absurd cc
numbers_cut (x ∷ xs) [] p q e = absurd cc
numbers_cut (x ∷ xs) (y ∷ ys) p q e =
    let c = cut_front (be64 x) (flat_map be64 xs) (be64 y) (flat_map be64 ys) refl e in
    cons_same x y xs ys (be64_same x y p.0 q.0 c.0) (numbers_cut xs ys p.1 q.1 c.1)

-- ---- sums

pub hashes_length : (hs : List Bytes) → Are32 hs → length (joined hs) ≡ 32 * length hs
hashes_length [] h = refl
hashes_length (x ∷ hs) h = omega (arith, h.0, hashes_length hs h.1, length-append x (joined hs))

sum_cut-1 : (x y : Option Bytes) (a b : Bytes) → IsSum 1 x → IsSum 1 y → sum_text 1 x ++ a ≡ sum_text 1 y ++ b → (x ≡ y) × (a ≡ b)
sum_cut-1 None y a b p q e = absurd (omega (arith, p))
sum_cut-1 (Some x) None a b p q e = absurd (omega (arith, q))
sum_cut-1 (Some x) (Some y) a b p q e = let c = cut_front x a y b (p ∙ sym q) e in (ap Some c.0, c.1)

sum_cut-2 : (x y : Option Bytes) (a b : Bytes) → IsSum 2 x → IsSum 2 y → sum_text 2 x ++ a ≡ sum_text 2 y ++ b → (x ≡ y) × (a ≡ b)
sum_cut-2 None None a b p q e = (refl, (heads 0 0 a b e).1)
sum_cut-2 None (Some y) a b p q e = absurd (omega (arith, (heads 0 1 a (y ++ b) e).0))
sum_cut-2 (Some x) None a b p q e = absurd (omega (arith, (heads 1 0 (x ++ a) b e).0))
sum_cut-2 (Some x) (Some y) a b p q e = let c = cut_front x a y b (p ∙ sym q) (heads 1 1 (x ++ a) (y ++ b) e).1 in (ap Some c.0, c.1)

abbrev SumCut : ℕ → Type 0
SumCut v = (x y : Option Bytes) (a b : Bytes) → IsSum v x → IsSum v y → sum_text v x ++ a ≡ sum_text v y ++ b → (x ≡ y) × (a ≡ b)

sum_cut : (v : ℕ) → is_version v ≡ true → SumCut v
sum_cut v h = elim (version_cases v h) [ inl one ↦ subst SumCut (sym one) sum_cut-1 | inr two ↦ subst SumCut (sym two) sum_cut-2 ]

sums_cut : (v : ℕ) → is_version v ≡ true → (xs ys : List (Option Bytes)) (a b : Bytes) → length xs ≡ length ys → AllByRecursion (IsSum v) xs → AllByRecursion (IsSum v) ys
    → sums_text v xs ++ a ≡ sums_text v ys ++ b → (xs ≡ ys) × (a ≡ b)
sums_cut v h [] [] a b n p q e = (refl, e)
sums_cut v h [] (y ∷ ys) a b n p q e = absurd (omega (arith, n))
sums_cut v h (x ∷ xs) [] a b n p q e = absurd (omega (arith, n))
sums_cut v h (x ∷ xs) (y ∷ ys) a b n p q e =
    let c = sum_cut v h x y (sums_text v xs ++ a) (sums_text v ys ++ b) p.0 q.0 (sym (append_assoc (sum_text v x) (sums_text v xs) a) ∙ e ∙ append_assoc (sum_text v y) (sums_text v ys) b) in
    let more = sums_cut v h xs ys a b (omega (arith, n)) p.1 q.1 c.1 in
    (cons_same x y xs ys c.0 more.0, more.1)

pub same_memory : (m n : MarkMemory) → m.layers ≡ n.layers → m.sums ≡ n.sums → m ≡ n
same_memory m n p q = λ i. record { layers = p i; sums = q i }

module _ (v : ℕ) (is : is_version v ≡ true) where
  memory_cut : (f : Bytes × ℕ) (m n : MarkMemory) (a b : Bytes) → FitsMemory v m f → FitsMemory v n f → mark_memory_text v m ++ a ≡ mark_memory_text v n ++ b → (m ≡ n) × (a ≡ b)
  memory_cut f m n a b p q e =
      let lm : Bytes = flat_map be64 m.layers in
      let ln : Bytes = flat_map be64 n.layers in
      let sm : Bytes = sums_text v m.sums in
      let sn : Bytes = sums_text v n.sums in
      let c1 = cut_front (be32 (length m.layers)) (lm ++ (sm ++ a)) (be32 (length n.layers)) (ln ++ (sn ++ b)) refl (sym (apart_four (be32 (length m.layers)) lm sm a) ∙ e ∙ apart_four (be32 (length n.layers)) ln sn b) in
      let count : length m.layers ≡ length n.layers = be32_same (length m.layers) (length n.layers) (omega (arith, p.few)) (omega (arith, q.few)) c1.0 in
      let c2 = cut_front lm (sm ++ a) ln (sn ++ b) (numbers_length m.layers ∙ ap (λ (k : ℕ). 8 * k) count ∙ sym (numbers_length n.layers)) c1.1 in
      let c3 = sums_cut v is m.sums n.sums a b (p.each_chunk ∙ sym q.each_chunk) p.sums_fit q.sums_fit c2.1 in
      (same_memory m n (numbers_cut m.layers n.layers p.numbers q.numbers c2.0) c3.0, c3.1)

  memories_cut : (fs : List (Bytes × ℕ)) (ms ns : List MarkMemory) (a b : Bytes) → AllZip (FitsMemory v) ms fs → AllZip (FitsMemory v) ns fs
      → flat_map (mark_memory_text v) ms ++ a ≡ flat_map (mark_memory_text v) ns ++ b → (ms ≡ ns) × (a ≡ b)
  memories_cut [] [] [] a b p q e = (refl, e)
  memories_cut [] [] (n ∷ ns) a b p q e = absurd q
  memories_cut [] (m ∷ ms) ns a b p q e = absurd p
  memories_cut (f ∷ fs) [] ns a b p q e = absurd p
  memories_cut (f ∷ fs) (m ∷ ms) [] a b p q e = absurd q
  memories_cut (f ∷ fs) (m ∷ ms) (n ∷ ns) a b p q e =
      let c = memory_cut f m n (flat_map (mark_memory_text v) ms ++ a) (flat_map (mark_memory_text v) ns ++ b) p.0 q.0
      (sym (append_assoc (mark_memory_text v m) (flat_map (mark_memory_text v) ms) a) ∙ e ∙ append_assoc (mark_memory_text v n) (flat_map (mark_memory_text v) ns) b) in
      let more = memories_cut fs ms ns a b p.1 q.1 c.1 in
      (cons_same m n ms ns c.0 more.0, more.1)

-- ---- the whole

same_system : (v : ℕ) (s t : SystemPart) → IsSystem v s → IsSystem v t → system_text s ≡ system_text t → s ≡ t
same_system v s t p q e = ok_is s t (sym (system_again v s p) ∙ ap (read_system v) e ∙ system_again v t q)

root_from : ℕ → SystemPart → List MarkMemory → Bytes
root_from version s ms = root_of_meta (meta_of (manifest_from version (file_sums s (map (λ f. f.sums) ms))))

root_is : (m : Mark) (s : SystemPart) → IsMark m s → m.root ≡ root_from m.version s m.memories
unfolding root_from
root_is m s h = h.root

same_mark : (m n : Mark) → m.height ≡ n.height → m.version ≡ n.version → m.system ≡ n.system → m.memories ≡ n.memories → m.system_sums ≡ n.system_sums → m.root ≡ n.root → m ≡ n
same_mark m n a b c d e f = λ i. record { height = a i; version = b i; system = c i; memories = d i; system_sums = e i; root = f i }

module _ (m n : Mark) (s t : SystemPart) (p : IsMark m s) (q : IsMark n t) (e : mark_text m ≡ mark_text n) where
  bodies : mark_body m ≡ mark_body n
  unfolding mark_text
  bodies = (cut_end (mark_body m) (sha256 (mark_body m)) (mark_body n) (sha256 (mark_body n)) (length-sha256 (mark_body m) ∙ sym (length-sha256 (mark_body n))) e).0

  rest : Mark → Bytes
  rest x = flat_map (mark_memory_text x.version) x.memories ++ (hashes_text x.system_sums ++ x.root)

  short : (x : Mark) (y : SystemPart) → IsMark x y → length x.system < 2 ^ 32
  short x y h = omega (arith, ap (λ (k : Bytes). length k) h.system_spelled, (system_size x.version y h.system_good).1)

  parts_same : (m.version ≡ n.version) × (m.height ≡ n.height) × (m.system ≡ n.system) × (rest m ≡ rest n)
  unfolding rest
  parts_same =
      let am : Bytes = codes "ICMK" ++ be32 m.version ++ be64 m.height ++ be32 (length m.system) in
      let an : Bytes = codes "ICMK" ++ be32 n.version ++ be64 n.height ++ be32 (length n.system) in
      let all = sym (apart_five am m.system (flat_map (mark_memory_text m.version) m.memories) (hashes_text m.system_sums) m.root) ∙ bodies
      ∙ apart_five an n.system (flat_map (mark_memory_text n.version) n.memories) (hashes_text n.system_sums) n.root in
      let c0 = cut_front (codes "ICMK") (be32 m.version ++ (be64 m.height ++ (be32 (length m.system) ++ (m.system ++ rest m)))) (codes "ICMK") (be32 n.version ++ (be64 n.height ++ (be32 (length n.system) ++ (n.system ++ rest n)))) refl all in
      let c1 = cut_front (be32 m.version) (be64 m.height ++ (be32 (length m.system) ++ (m.system ++ rest m))) (be32 n.version) (be64 n.height ++ (be32 (length n.system) ++ (n.system ++ rest n))) refl c0.1 in
      let c2 = cut_front (be64 m.height) (be32 (length m.system) ++ (m.system ++ rest m)) (be64 n.height) (be32 (length n.system) ++ (n.system ++ rest n)) refl c1.1 in
      let c3 = cut_front (be32 (length m.system)) (m.system ++ rest m) (be32 (length n.system)) (n.system ++ rest n) refl c2.1 in
      let size : length m.system ≡ length n.system = be32_same (length m.system) (length n.system) (short m s p) (short n t q) c3.0 in
      let c4 = cut_front m.system (rest m) n.system (rest n) size c3.1 in
      let version = be32_same m.version n.version (omega (arith, (version_low m.version p.version).1)) (omega (arith, (version_low n.version q.version).1)) c1.0 in
      (version, be64_same m.height n.height (omega (arith, p.height_fits)) (omega (arith, q.height_fits)) c2.0, c4.0, c4.1)

  version : m.version ≡ n.version
  version = parts_same.0

  system : m.system ≡ n.system
  system = parts_same.2

  systems : s ≡ t
  systems =
      same_system m.version s t p.system_good (subst (λ (v : ℕ). IsSystem v t) (sym version) q.system_good)
      (sym p.system_spelled ∙ system ∙ q.system_spelled)

  memories : m.memories ≡ n.memories
  unfolding rest
  memories =
      let fit : AllZip (FitsMemory m.version) n.memories (memories_in s) =
      subst (λ (v : ℕ). AllZip (FitsMemory v) n.memories (memories_in s)) (sym version) (subst (λ (x : SystemPart). AllZip (FitsMemory n.version) n.memories (memories_in x)) (sym systems) q.memories_fit) in
      (memories_cut m.version p.version (memories_in s) m.memories n.memories (hashes_text m.system_sums ++ m.root) (hashes_text n.system_sums ++ n.root) p.memories_fit fit
      (parts_same.3 ∙ ap (λ (v : ℕ). flat_map (mark_memory_text v) n.memories ++ (hashes_text n.system_sums ++ n.root)) (sym version))).0

  pub mark_same : (m ≡ n) × (s ≡ t)
  mark_same =
      let sums : m.system_sums ≡ n.system_sums = p.system_sums ∙ ap (λ (x : Bytes). map chunk_hash (parts CHUNK_SIZE x)) system ∙ sym q.system_sums in
      let root : m.root ≡ n.root = root_is m s p ∙ (λ i. root_from (version i) (systems i) (memories i)) ∙ sym (root_is n t q) in
      (same_mark m n parts_same.1 version system memories sums root, systems)

pub mark_once : (h k : ℕ) (text : Bytes) (m n : Mark) (s t : SystemPart) → IsMarkText h text m s → IsMarkText k text n t → (m ≡ n) × (s ≡ t)
mark_once h k text m n s t p q = mark_same m n s t p.good q.good (sym p.spelled ∙ q.spelled)
