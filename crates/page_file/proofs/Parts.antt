-- Parts of a text that stand behind each other.
use Rattle.std.proofs.Common.{◌≡◌, ℕ, zero, suc, ◌+◌, ◌*◌, List, [], ◌∷◌, ◌++◌, take, drop, refl, sym, ◌∙◌, ap, arith}
use Rattle.std.specs.Int.{w32, from_be_bytes}
use Rattle.std.proofs.lemmas.List.{drop-drop}
use Rattle.format_spec.specs.Bytes.{Bytes}
use Rattle.page_file.specs.declared.range.Range.{Range}
use Rattle.page_file.specs.Ranges.{range_from, ranges_from}

none : (n : ℕ) → take n (let nil : Bytes = [] in nil) ≡ []
none zero = refl
none (suc n) = refl

pub take_both : (m n : ℕ) (s : Bytes) → take (m + n) s ≡ take m s ++ take n (drop m s)
take_both zero n s = let e : 0 + n ≡ n = omega arith in ap (λ (k : ℕ). take k s) e
take_both (suc m) n [] = none (suc m + n) ∙ sym (none n)
take_both (suc m) n (x ∷ s) = let e : suc m + n ≡ suc (m + n) = omega arith in ap (λ (k : ℕ). take k (x ∷ s)) e ∙ ap (λ (l : Bytes). x ∷ l) (take_both m n s)

pub three : (s x y z : Bytes) (at : ℕ) → x ≡ take 4 (drop at s) → y ≡ take 4 (drop (at + 4) s) → z ≡ take 4 (drop (at + 8) s) → x ++ y ++ z ≡ take 12 (drop at s)
three s x y z at a b c =
    (λ i. a i ++ (b ∙ ap (take 4) (sym (drop-drop 4 at s))) i ++ (c ∙ ap (take 4) (sym (drop-drop 8 at s))) i)
    ∙ ap (λ (l : Bytes). l ++ take 4 (drop 8 (drop at s))) (sym (take_both 4 4 (drop at s))) ∙ sym (take_both 8 4 (drop at s))

pub range_is : (s : Bytes) (at a b c : ℕ) → a ≡ from_be_bytes w32 (take 4 (drop at s)) → b ≡ from_be_bytes w32 (take 4 (drop (at + 4) s)) → c ≡ from_be_bytes w32 (take 4 (drop (at + 8) s))
    → record { first = a; length = b; place = c } ≡ range_from (drop at s)
range_is s at a b c is_a is_b is_c = λ i. record {
  first = is_a i;
  length = (is_b ∙ ap (λ (l : Bytes). from_be_bytes w32 (take 4 l)) (sym (drop-drop 4 at s))) i;
  place = (is_c ∙ ap (λ (l : Bytes). from_be_bytes w32 (take 4 l)) (sym (drop-drop 8 at s))) i;
}

pub ranges_push : (n : ℕ) (s : Bytes) → ranges_from (n + 1) s ≡ ranges_from n s ++ range_from (drop (12 * n) s) ∷ []
ranges_push zero s = refl
ranges_push (suc n) s =
    let more : suc n + 1 ≡ suc (n + 1) = omega arith in
    let at : 12 + 12 * n ≡ 12 * suc n = omega arith in
    ap (λ (k : ℕ). ranges_from k s) more ∙ ap (λ (l : List Range). range_from s ∷ l) (ranges_push n (drop 12 s)
    ∙ ap (λ (t : Bytes). ranges_from n (drop 12 s) ++ range_from t ∷ []) (drop-drop (12 * n) 12 s ∙ ap (λ (k : ℕ). drop k s) at))
