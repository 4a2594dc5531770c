-- Strings cut at known lengths: equal strings have equal parts. Hashes in a row.
use Rattle.std.proofs.Common.{◌≡◌, ℕ, ◌^◌, ◌<◌, true, List, [], ◌∷◌, ◌++◌, length, map, take, drop, refl, sym, ap, ◌∙◌, arith, length-append}
use Rattle.std.specs.List.{AllByRecursion}
use Rattle.std.specs.Int.{from_be_bytes, w32, w64}
use Rattle.std.proofs.lemmas.List.{take_at, drop_at}
use Rattle.sha2.proofs.Facts256.{length-sha256}
use Rattle.format_spec.specs.Bytes.{Bytes, be32, be64}
use Rattle.format_spec.specs.Fields.{Reading, any, block, each, field}
use Rattle.format_spec.specs.Hashes.{chunk_hash}
use Rattle.format_spec.proofs.Forms.{block_law, wide32, wide64}
use Rattle.format_spec.proofs.Parts.{joined}
use Rattle.format_spec.proofs.Readings.{FitInTurn, IsReading, each_law, field_law, reading_when}

pub cons_same : {X : Type 0} (x y : X) (xs ys : List X) → x ≡ y → xs ≡ ys → x ∷ xs ≡ y ∷ ys
cons_same x y xs ys p q = cc

pub heads : {X : Type 0} (x y : X) (xs ys : List X) → x ∷ xs ≡ y ∷ ys → (x ≡ y) × (xs ≡ ys)
heads x y xs ys e = (cc, cc)

-- fronts of one length
pub cut_front : {X : Type 0} (a b c d : List X) → length a ≡ length c → a ++ b ≡ c ++ d → (a ≡ c) × (b ≡ d)
cut_front a b c d n e =
    (sym (take_at a b (length a) refl) ∙ ap (take (length a)) e ∙ take_at c d (length a) (sym n), sym (drop_at a b (length a) refl) ∙ ap (drop (length a)) e ∙ drop_at c d (length a) (sym n))

-- ends of one length
pub cut_end : {X : Type 0} (a b c d : List X) → length b ≡ length d → a ++ b ≡ c ++ d → (a ≡ c) × (b ≡ d)
cut_end a b c d n e = cut_front a b c d (omega (arith, length-append a b, length-append c d, ap length e, n)) e

pub length-be32 : (n : ℕ) → length (be32 n) ≡ 4
length-be32 n = refl

pub length-be64 : (n : ℕ) → length (be64 n) ≡ 8
length-be64 n = refl

pub be32_same : (n m : ℕ) → n < 2 ^ 32 → m < 2 ^ 32 → be32 n ≡ be32 m → n ≡ m
be32_same n m p q e = sym (wide32.again n p) ∙ ap (from_be_bytes w32) e ∙ wide32.again m q

pub be64_same : (n m : ℕ) → n < 2 ^ 64 → m < 2 ^ 64 → be64 n ≡ be64 m → n ≡ m
be64_same n m p q e = sym (wide64.again n p) ∙ ap (from_be_bytes w64) e ∙ wide64.again m q

-- ---- hashes in a row

abbrev pub Are32 : List Bytes → Type 0
Are32 hs = AllByRecursion (λ h. length h ≡ 32) hs

pub chunks_32 : (xs : List Bytes) → Are32 (map chunk_hash xs)
unfolding chunk_hash
chunks_32 [] = tt
chunks_32 (x ∷ xs) = (length-sha256 _, chunks_32 xs)

pub hashes_cut : (hs gs : List Bytes) → Are32 hs → Are32 gs → joined hs ≡ joined gs → hs ≡ gs
hashes_cut [] [] p q e = refl
hashes_cut [] (g ∷ gs) p q e = absurd (omega (arith, ap length e, length-append g (joined gs), q.0))
hashes_cut (h ∷ hs) [] p q e = absurd (omega (arith, ap length e, length-append h (joined hs), p.0))
hashes_cut (h ∷ hs) (g ∷ gs) p q e =
    let c = cut_front h (joined hs) g (joined gs) (p.0 ∙ sym q.0) e in
    cons_same h g hs gs c.0 (hashes_cut hs gs p.1 q.1 c.1)

abbrev pub next_hash : List Bytes → Reading Bytes
next_hash before = field (block 32) any

abbrev HashFits : List Bytes → Bytes → Type 0
HashFits before hash = (length hash ≡ 32) × (any hash ≡ true)

each_hash : (hs before : List Bytes) → FitInTurn HashFits before hs → Are32 hs
each_hash [] before h = tt
each_hash (x ∷ hs) before h = (h.0.0, each_hash hs (before ++ x ∷ []) h.1)

hash_each : (hs before : List Bytes) → Are32 hs → FitInTurn HashFits before hs
hash_each [] before h = tt
hash_each (x ∷ hs) before h = ((h.0, refl), hash_each hs (before ++ x ∷ []) h.1)

pub hashes_law : (n : ℕ) → IsReading (each next_hash n []) joined (λ hs. (length hs ≡ n) × Are32 hs)
hashes_law n = reading_when (each next_hash n []) joined joined (λ hs. (length hs ≡ n) × FitInTurn HashFits [] hs) (λ hs. (length hs ≡ n) × Are32 hs) (λ hs. refl)
    (λ hs h. (h.0, each_hash hs [] h.1)) (λ hs h. (h.0, hash_each hs [] h.1))
    (each_law next_hash (λ hash. hash) HashFits (λ before. field_law (block 32) (λ s. s) (λ s. length s ≡ 32) any (block_law 32)) n)
