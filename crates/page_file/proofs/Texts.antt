-- The texts of ranges and of an index.
use Rattle.std.proofs.Common.{◌≡◌, ℕ, suc, ◌+◌, ◌*◌, ◌≤◌, List, [], ◌∷◌, ◌++◌, length, take, drop, refl, sym, ◌∙◌, ap, subst, arith, Bool, true, false, ◌&&◌, bytes_eq, codes, ◌==◌, if◌then◌else◌}
use Rattle.std.specs.Int.{w32, from_be_bytes}
use Rattle.std.proofs.lemmas.Nat.{from_be_bytes-to_be_bytes_4}
use Rattle.std.proofs.lemmas.Bool.{and_from, eq-eqb, false≢true}
use Rattle.std.proofs.lemmas.Bool.Decides.{nat_tests}
use Rattle.std.proofs.lemmas.Slice.Eq.{bytes_eq-Decides}
use Rattle.format_spec.specs.Bytes.{Bytes, be32, be64}
use Rattle.page_spec.specs.PageFile.{PageIndex, ranges_text, runs_of, index_text}
use Rattle.page_file.specs.declared.range.Range.{Range}
use Rattle.page_file.specs.Ranges.{runs_in, AreRanges, text_of}
use Rattle.page_file.specs.Index.{header_text, length_of, are_counts, IsHeader}
use Rattle.page_file.proofs.Placed.{placed}
use Rattle.page_file.proofs.Steps.{behind}
use Rattle.format_spec.specs.declared.limits.TheConstants.{MAX_MEMORY_PAGES}

pub text_is : (m l p : ℕ) (rs : List Range) → AreRanges m l p rs → text_of rs ≡ ranges_text p (runs_in rs)
text_is m l p [] h = refl
text_is m l p (r ∷ rs) h =
    let rest = text_is m (r.first + r.length + 1) (p + r.length) rs h.4 in
    (λ i. be32 r.first ++ be32 r.length ++ be32 (h.3 i) ++ rest i)

pub placed_text : (p : ℕ) (rs : List (ℕ × ℕ)) → text_of (placed p rs) ≡ ranges_text p rs
placed_text p [] = refl
placed_text p (r ∷ rs) = ap (λ (l : Bytes). be32 r.0 ++ be32 r.1 ++ be32 p ++ l) (placed_text (p + r.1) rs)

pub length-text_of : (rs : List Range) → length (text_of rs) ≡ 12 * length rs
length-text_of [] = refl
length-text_of (r ∷ rs) = omega (arith, length-text_of rs)

pub index_is : (i : PageIndex) → index_text i ≡ header_text i.memory (length (runs_of i.numbers)) (length i.numbers) ++ ranges_text 0 (runs_of i.numbers)
unfolding index_text header_text
index_is i = refl

pub length-header_text : (m r p : ℕ) → length (header_text m r p) ≡ 32
unfolding header_text
length-header_text m r p = refl

pub header_memory : (m r p : ℕ) → take 4 (drop 12 (header_text m r p)) ≡ be32 m
unfolding header_text
header_memory m r p = refl

pub header_ranges : (m r p : ℕ) → take 4 (drop 16 (header_text m r p)) ≡ be32 r
unfolding header_text
header_ranges m r p = refl

pub header_pages : (m r p : ℕ) → take 4 (drop 20 (header_text m r p)) ≡ be32 p
unfolding header_text
header_pages m r p = refl

pub header_written : (old a b c d e f g : Bytes) (kind m r p n : ℕ) → a ≡ old ++ codes "ICPF" → b ≡ a ++ be32 1 → c ≡ b ++ be32 kind → d ≡ c ++ be32 m → e ≡ d ++ be32 r → f ≡ e ++ be32 p → g ≡ f ++ be64 n
    → kind ≡ (if p == m then 1 else 0) → n ≡ length_of r p → g ≡ old ++ header_text m r p
unfolding header_text
header_written old a b c d e f g kind m r p n is_a is_b is_c is_d is_e is_f is_g is_kind is_n =
    let one = behind old a b (codes "ICPF") (be32 1) is_a is_b in
    let two = behind old b c (codes "ICPF" ++ be32 1) (be32 kind) one is_c in
    let three = behind old c d (codes "ICPF" ++ be32 1 ++ be32 kind) (be32 m) two is_d in
    let four = behind old d e (codes "ICPF" ++ be32 1 ++ be32 kind ++ be32 m) (be32 r) three is_e in
    let five = behind old e f (codes "ICPF" ++ be32 1 ++ be32 kind ++ be32 m ++ be32 r) (be32 p) four is_f in
    behind old f g (codes "ICPF" ++ be32 1 ++ be32 kind ++ be32 m ++ be32 r ++ be32 p) (be64 n) five is_g
    ∙ (λ i. old ++ (codes "ICPF" ++ be32 1 ++ be32 (is_kind i) ++ be32 m ++ be32 r ++ be32 p ++ be64 (is_n i)))

pub counts_are : (m r p : ℕ) → are_counts m r p ≡ true → (r ≤ p) × (p ≤ m) × (m ≤ MAX_MEMORY_PAGES) × (1 ≤ r)
counts_are m r p h = grind (arith, nat_tests)

-- the numbers in a header are those that it was made of
pub header_reads : (m r p : ℕ) (bytes : Bytes) (size : ℕ) → IsHeader m r p bytes size → (from_be_bytes w32 (take 4 (drop 12 bytes)) ≡ m) × (from_be_bytes w32 (take 4 (drop 16 bytes)) ≡ r) × (from_be_bytes w32 (take 4 (drop 20 bytes)) ≡ p)
header_reads m r p bytes size h =
    let facts = counts_are m r p h.possible in
    let at = λ (n : ℕ). ap (λ (l : Bytes). from_be_bytes w32 (take 4 (drop n l))) h.text in (
      at 12 ∙ ap (from_be_bytes w32) (header_memory m r p) ∙ from_be_bytes-to_be_bytes_4 m (omega (arith, facts.2)),
      at 16 ∙ ap (from_be_bytes w32) (header_ranges m r p) ∙ from_be_bytes-to_be_bytes_4 r (omega (arith, facts.0, facts.1, facts.2)),
      at 20 ∙ ap (from_be_bytes w32) (header_pages m r p) ∙ from_be_bytes-to_be_bytes_4 p (omega (arith, facts.1, facts.2)),
    )

pub header_fields : (bytes : Bytes) (size m r p a b c : ℕ) → IsHeader m r p bytes size → a ≡ from_be_bytes w32 (take 4 (drop 12 bytes)) → b ≡ from_be_bytes w32 (take 4 (drop 16 bytes)) → c ≡ from_be_bytes w32 (take 4 (drop 20 bytes))
    → IsHeader a b c bytes size
header_fields bytes size m r p a b c h is_a is_b is_c =
    let reads = header_reads m r p bytes size h in
    subst (λ x. IsHeader x b c bytes size) (sym (is_a ∙ reads.0)) (subst (λ y. IsHeader m y c bytes size) (sym (is_b ∙ reads.1)) (subst (λ z. IsHeader m r z bytes size) (sym (is_c ∙ reads.2)) h))

pub may_begin : (bytes : Bytes) (size m r p : ℕ) (b : Bool) → IsHeader m r p bytes size → b ≡ (are_counts m r p && size == length_of r p) → b ≡ false → ⊥
may_begin bytes size m r p b is tested is_false = false≢true (sym is_false ∙ tested ∙ and_from (are_counts m r p) (size == length_of r p) is.possible (eq-eqb size (length_of r p) is.whole))

pub is_written : (out text bytes : Bytes) (b : Bool) → b ≡ bytes_eq text bytes → b ≡ false → out ≡ [] → text ≡ out ++ bytes → ⊥
is_written out text bytes b tested is_false empty is = false≢true (sym is_false ∙ tested ∙ (bytes_eq-Decides text bytes).1 (is ∙ ap (λ (l : Bytes). l ++ bytes) empty))

pub length-runs_in : (rs : List Range) → length (runs_in rs) ≡ length rs
length-runs_in [] = refl
length-runs_in (r ∷ rs) = ap suc (length-runs_in rs)
