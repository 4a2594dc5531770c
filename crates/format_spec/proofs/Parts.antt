-- Parts of a string, joined again; and bytes of a part.
use Rattle.std.proofs.Common.{◌≡◌, ℕ, zero, suc, ◌+◌, ◌*◌, ◌<◌, List, ◌++◌, length, map, take, drop, sym, ap, ◌∙◌, arith, take-add, ◌-◌, min, [], ◌∷◌, refl, inl, inr}
use Rattle.std.specs.List.{flat_map, range_with_len}
use Rattle.std.specs.Int.{div_ceil}
use Rattle.std.proofs.lemmas.List.{take_all, drop-drop, length-map, append-nil, length-append, length-drop, take_at, drop_at, drop_all, nil_from_length}
use Rattle.std.proofs.lemmas.List.FromFn.{length-range_with_len}
use Rattle.std.proofs.lemmas.Grind.{div_ceil_times}
use Rattle.format_spec.specs.Bytes.{Bytes, parts, part_count}
use Rattle.std.proofs.lemmas.Bool.{cases_lt}

abbrev pub joined : List Bytes → Bytes
joined xs = flat_map (λ x. x) xs

step_at : (n k a : ℕ) (s : Bytes) → take n (drop (a * n) s) ++ take (k * n) (drop ((a + 1) * n) s) ≡ take (suc k * n) (drop (a * n) s)
step_at n k a s =
    let at : (a + 1) * n ≡ a * n + n = omega arith in
    let more : n + k * n ≡ suc k * n = omega arith in
    let d : drop ((a + 1) * n) s ≡ drop n (drop (a * n) s) = ap (λ (m : ℕ). drop m s) at ∙ sym (drop-drop n (a * n) s) in
    ap (λ (x : Bytes). take n (drop (a * n) s) ++ take (k * n) x) d ∙ sym (take-add n (k * n) (drop (a * n) s)) ∙ ap (λ (m : ℕ). take m (drop (a * n) s)) more

pub parts_at : (n : ℕ) (s : Bytes) (k a : ℕ) → joined (map (λ i. take n (drop (i * n) s)) (range_with_len a k)) ≡ take (k * n) (drop (a * n) s)
parts_at n s zero a = let z : 0 ≡ 0 * n = omega arith in ap (λ (m : ℕ). take m (drop (a * n) s)) z
parts_at n s (suc k) a = ap (λ (x : Bytes). take n (drop (a * n) s) ++ x) (parts_at n s k (a + 1)) ∙ step_at n k a s

pub joined_parts : (n : ℕ) (s : Bytes) → 0 < n → joined (parts n s) ≡ s
unfolding parts
joined_parts n s pos =
    let k : ℕ = div_ceil (length s) n in
    let z : 0 * n ≡ 0 = omega arith in
    parts_at n s k 0 ∙ ap (λ (m : ℕ). take (k * n) (drop m s)) z ∙ take_all (k * n) s (div_ceil_times (length s) n pos).0

pub parts_length : (n : ℕ) (s : Bytes) → length (parts n s) ≡ div_ceil (length s) n
unfolding parts
parts_length n s = length-map (range_with_len 0 (part_count n (length s))) (λ (i : ℕ). take n (drop (i * n) s)) ∙ length-range_with_len 0 (part_count n (length s))

-- ---- the first part, and those of the rest

-- one part more where there is a byte more
abbrev pub CountsFirst : ℕ → Type 0
CountsFirst n = (x : ℕ) → 0 < x → part_count n x ≡ suc (part_count n (x - n))

pub counts_pieces : CountsFirst 4096
counts_pieces x some = omega arith

pub counts_chunks : CountsFirst 1048576
counts_chunks x some = omega arith

shifted : {X : Type 0} (f g : ℕ → X) → ((i : ℕ) → f (i + 1) ≡ g i) → (k a : ℕ) → map f (range_with_len (a + 1) k) ≡ map g (range_with_len a k)
shifted f g same zero a = refl
shifted f g same (suc k) a = let h = same a in let t = shifted f g same k (a + 1) in rw (h, t) refl

-- the first part and what is behind it
front_is : (n : ℕ) (chunk rest : Bytes) → length chunk ≡ min n (length (chunk ++ rest)) → (take n (chunk ++ rest) ≡ chunk) × (drop n (chunk ++ rest) ≡ rest)
front_is n chunk rest size =
    let len = length-append chunk rest in
    elim (cases_lt (length (chunk ++ rest)) n) [
      | inl short ↦
          let none : rest ≡ [] = nil_from_length rest (omega arith) in
          rw (none, append-nil) (take_all n chunk (omega arith), drop_all n chunk (omega arith))
      | inr long ↦ (take_at chunk rest n (omega arith), drop_at chunk rest n (omega arith))
    ]

pub parts_first : (n : ℕ) → CountsFirst n → (all chunk rest : Bytes) → all ≡ chunk ++ rest → length chunk ≡ min n (length all) → 0 < length all → parts n all ≡ chunk ∷ parts n rest
unfolding parts
parts_first n counts all chunk rest is size some =
    let f = front_is n chunk rest (size ∙ ap (λ (s : Bytes). min n (length s)) is) in
    let first : take n all ≡ chunk = ap (λ (s : Bytes). take n s) is ∙ f.0 in
    let behind : drop n all ≡ rest = ap (λ (s : Bytes). drop n s) is ∙ f.1 in
    let len : length all - n ≡ length rest = sym (length-drop n all) ∙ ap length behind in
    let count : part_count n (length all) ≡ suc (part_count n (length rest)) = counts (length all) some ∙ ap (λ (k : ℕ). suc (part_count n k)) len in
    let zero_times : 0 * n ≡ 0 = omega arith in
    let more = shifted (λ i. take n (drop (i * n) all)) (λ i. take n (drop (i * n) (drop n all))) (λ i. let e : (i + 1) * n ≡ n + i * n = omega arith in rw e (ap (λ (s : Bytes). take n s) (sym (drop-drop (i * n) n all)))) (part_count n (length rest)) 0 in
    ap (λ (k : ℕ). map (λ i. take n (drop (i * n) all)) (range_with_len 0 k)) count
    ∙ ap (λ (t : List Bytes). take n (drop (0 * n) all) ∷ t) more
    ∙ rw (zero_times, first, behind) refl

no_part : (n : ℕ) (s : Bytes) (k : ℕ) → k ≡ 0 → map (λ i. take n (drop (i * n) s)) (range_with_len 0 k) ≡ []
no_part n s k none = rw none refl

pub parts_none : (n : ℕ) (rest : Bytes) → length rest ≡ 0 → parts n rest ≡ []
unfolding parts
parts_none n rest none = no_part n rest (part_count n (length rest)) (rw none (nothing n))
  where
    nothing : (n : ℕ) → part_count n 0 ≡ 0
    nothing zero = refl
    nothing (suc n) = omega (arith)
