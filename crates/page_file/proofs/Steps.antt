-- One range more.
use Rattle.std.proofs.Common.{◌≡◌, ℕ, ◌+◌, ◌-◌, ◌≤◌, ◌<◌, Bool, true, ◌&&◌, List, [], ◌∷◌, ◌++◌, length, take, get_or, sym, ◌∙◌, ap, arith, length-append, append_assoc}
use Rattle.std.specs.List.{range_with_len}
use Rattle.std.proofs.lemmas.List.{append-nil, take_more}
use Rattle.std.proofs.lemmas.List.FromFn.{length-range_with_len}
use Rattle.std.proofs.lemmas.Bool.Decides.{nat_tests}
use Rattle.format_spec.specs.Bytes.{Bytes}
use Rattle.page_file.proofs.Build.{range_push, numbers_push}
use Rattle.page_file.specs.declared.range.Range.{Range}
use Rattle.page_file.specs.Ranges.{numbers_in, stands, are_ranges, range_text, text_of}

pub stands_then : (m l p : ℕ) (r : Range) (rest xs : List Range) (b : Bool) → xs ≡ r ∷ rest → stands m l p r ≡ true → are_ranges m l p xs ≡ b → are_ranges m (r.first + r.length + 1) (p + r.length) rest ≡ b
stands_then m l p r rest xs b is h was = sym (ap (λ (t : Bool). t && are_ranges m (r.first + r.length + 1) (p + r.length) rest) h) ∙ sym (ap (are_ranges m l p) is) ∙ was

pub count_then : (p n : ℕ) (r : Range) (rest xs : List Range) → xs ≡ r ∷ rest → p + length (numbers_in xs) ≡ n → p + r.length + length (numbers_in rest) ≡ n
count_then p n r rest xs is was = omega (arith, was, ap (λ (l : List Range). length (numbers_in l)) is, length-append (range_with_len r.first r.length) (numbers_in rest), length-range_with_len r.first r.length)

pub text_push : (rs : List Range) (r : Range) → text_of (rs ++ r ∷ []) ≡ text_of rs ++ range_text r
text_push [] r = append-nil (range_text r)
text_push (q ∷ rs) r = ap (λ (l : Bytes). range_text q ++ l) (text_push rs r) ∙ sym (append_assoc (range_text q) (text_of rs) (range_text r))

-- one range more is written
pub written_more : (old mid new : Bytes) (rs : List Range) (i : ℕ) (d : Range) → i + 1 ≤ length rs → mid ≡ old ++ text_of (take i rs) → new ≡ mid ++ range_text (get_or rs i d) → new ≡ old ++ text_of (take (i + 1) rs)
written_more old mid new rs i d lt was is =
    is ∙ ap (λ (l : Bytes). l ++ range_text (get_or rs i d)) was ∙ append_assoc old (text_of (take i rs)) (range_text (get_or rs i d))
    ∙ ap (λ (l : Bytes). old ++ l) (sym (text_push (take i rs) (get_or rs i d)) ∙ ap text_of (sym (take_more rs i d (omega arith))))

-- one part more is written
pub behind : (old mid new written part : Bytes) → mid ≡ old ++ written → new ≡ mid ++ part → new ≡ old ++ (written ++ part)
behind old mid new written part was is = is ∙ ap (λ (l : Bytes). l ++ part) was ∙ append_assoc old written part

pub bounds : (m l p : ℕ) (r : Range) → stands m l p r ≡ true → (l ≤ r.first) × (r.first + r.length ≤ m)
bounds m l p r h = grind (arith, nat_tests)

pub pages_push : (old mid new : List ℕ) (first page : ℕ) → first ≤ page → mid ≡ old ++ range_with_len first (page - first) → new ≡ mid ++ page ∷ [] → new ≡ old ++ range_with_len first (page + 1 - first)
pages_push old mid new first page le was is =
    let at : first + (page - first) ≡ page = omega (arith, le) in
    let more : page - first + 1 ≡ page + 1 - first = omega (arith, le) in
    is ∙ ap (λ (l : List ℕ). l ++ page ∷ []) was ∙ append_assoc old (range_with_len first (page - first)) (page ∷ [])
    ∙ ap (λ (l : List ℕ). old ++ l) (ap (λ (n : ℕ). range_with_len first (page - first) ++ n ∷ []) (sym at) ∙ sym (range_push first (page - first)) ∙ ap (range_with_len first) more)

pub numbers_more : (mid new : List ℕ) (rs : List Range) (i : ℕ) (d : Range) → i < length rs → mid ≡ numbers_in (take i rs) → new ≡ mid ++ range_with_len (get_or rs i d).first (get_or rs i d).length → new ≡ numbers_in (take (i + 1) rs)
numbers_more mid new rs i d lt was is =
    is ∙ ap (λ (l : List ℕ). l ++ range_with_len (get_or rs i d).first (get_or rs i d).length) was ∙ sym (numbers_push (take i rs) (get_or rs i d)) ∙ ap numbers_in (sym (take_more rs i d lt))
