-- A page file with all pages of a memory gives the bytes of the memory.
use Rattle.std.proofs.Common.{◌≡◌, ℕ, zero, suc, ◌+◌, ◌-◌, ◌*◌, ◌<◌, ◌==◌, List, [], ◌∷◌, ◌++◌, length, map, drop, replicate, Option, Some, refl, sym, ◌∙◌, ap, arith, inl, inr}
use Rattle.std.specs.List.{range_with_len, flat_map, position}
use Rattle.std.specs.Option.{option_map}
use Rattle.std.proofs.lemmas.Bool.{cases_Bool, eqb-true}
use Rattle.std.proofs.lemmas.List.{drop-drop, take-append-drop, drop_all, nil_from_length, append-nil}
use Rattle.format_spec.specs.Bytes.{Bytes, page_at}
use Rattle.page_spec.specs.Layers.{Layer, or_else, page_from, memory_from}
use Rattle.store_spec.specs.Image.{whole_layer}
use Rattle.page_file.specs.Files.{NumberedFile}
use Rattle.whole_state.specs.Written.{whole_index, whole_stack}
use Rattle.page_spec.proofs.Positions.{in_range, is}

-- ---- the bytes

abbrev whole_of : ℕ → Bytes → Layer
whole_of n bytes = record { index = whole_index n; pages = bytes }

page_is : (n page : ℕ) (bytes : Bytes) → page < n → page_from (whole_of n bytes ∷ []) page ≡ page_at bytes page
page_is n page bytes lt =
    let e : page - 0 ≡ page = omega arith in
    ap (λ (o : Option ℕ). or_else (option_map (page_at bytes) o) (replicate 4096 0)) (ap (position (is page)) (sym (append-nil (range_with_len 0 n))) ∙ in_range page 0 n [] (omega arith) (omega arith) ∙ ap Some e)

pages_from : (n : ℕ) (bytes : Bytes) → length bytes ≡ n * 4096 → (k a : ℕ) → a + k ≡ n → flat_map (page_from (whole_of n bytes ∷ [])) (range_with_len a k) ≡ drop (a * 4096) bytes
pages_from n bytes size zero a all = sym (drop_all (a * 4096) bytes (omega (arith, size, all)))
pages_from n bytes size (suc k) a all =
    let e : (a + 1) * 4096 ≡ a * 4096 + 4096 = omega arith in
    ap (λ (page : Bytes). page ++ flat_map (page_from (whole_of n bytes ∷ [])) (range_with_len (a + 1) k)) (page_is n a bytes (omega (arith, all)))
    ∙ ap (λ (rest : Bytes). page_at bytes a ++ rest) (pages_from n bytes size k (a + 1) (omega (arith, all)) ∙ ap (λ (m : ℕ). drop m bytes) e ∙ sym (drop-drop 4096 (a * 4096) bytes))
    ∙ take-append-drop 4096 (drop (a * 4096) bytes)

-- the layers of these page files, with these bytes
abbrev pub layers_of : Bytes → List NumberedFile → List Layer
layers_of bytes stack = map (λ file. record { index = file.index; pages = bytes }) stack

whole_layers_of : (number n : ℕ) (bytes : Bytes) → length bytes ≡ n * 4096 → memory_from n (layers_of bytes (whole_stack number n)) ≡ bytes
unfolding memory_from
whole_layers_of number n bytes size = elim (cases_Bool (n == 0)) [
  | inl none ↦
      let zero_is : n ≡ 0 = eqb-true n 0 none in
      let empty : bytes ≡ [] = nil_from_length bytes (omega (arith, size, zero_is)) in
      rw none (ap (λ (m : ℕ). flat_map (page_from []) (range_with_len 0 m)) zero_is ∙ sym empty)
  | inr some ↦ rw some (pages_from n bytes size n 0 (omega arith))
]

-- the memory of a stack that is written whole
pub reads_back : (number n : ℕ) (bytes : Bytes) (stack : List NumberedFile) → stack ≡ whole_stack number n → length bytes ≡ n * 4096 → memory_from n (layers_of bytes stack) ≡ bytes
reads_back number n bytes stack is size = ap (λ (fs : List NumberedFile). memory_from n (layers_of bytes fs)) is ∙ whole_layers_of number n bytes size

whole_numbers : (number n : ℕ) (bytes : Bytes) → map (λ l. l.index.numbers) (layers_of bytes (whole_stack number n)) ≡ whole_layer n
whole_numbers number n bytes = elim (cases_Bool (n == 0)) [
  | inl none ↦ rw none refl
  | inr some ↦ rw some refl
]

pub one_layer : (number n : ℕ) (bytes : Bytes) (stack : List NumberedFile) → stack ≡ whole_stack number n → map (λ l. l.index.numbers) (layers_of bytes stack) ≡ whole_layer n
one_layer number n bytes stack is = ap (λ (fs : List NumberedFile). map (λ (l : Layer). l.index.numbers) (layers_of bytes fs)) is ∙ whole_numbers number n bytes
