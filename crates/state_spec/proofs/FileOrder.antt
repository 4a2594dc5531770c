-- Two things for each element in turn: how many there are, what a change at one place makes of them, and lists that go with them.
use Rattle.std.proofs.Common.{◌≡◌, ℕ, ◌+◌, ◌*◌, List, [], ◌∷◌, ◌++◌, length, map, take, drop, Some, refl, sym, ap, ◌∙◌, arith}
use Rattle.std.specs.Prelude.{slice_get}
use Rattle.std.proofs.lemmas.List.{take_at, drop_at, take_more}
use Rattle.std.proofs.lemmas.List.Concat.{flat_map-append}
use Rattle.std.proofs.lemmas.Option.{slice_get_within, get_or_from_slice_get}
use Rattle.format_spec.specs.Bytes.{Bytes}
use Rattle.format_spec.specs.declared.limits.TheConstants.{PAGE_SIZE}
use Rattle.format_spec.proofs.Cuts.{heads}
use Rattle.state_spec.specs.State.{CanisterPart}
use Rattle.state_spec.specs.Files.{memory_pages, heap_pages, stable_pages}
use Rattle.state_spec.specs.FileOrder.{in_turn}

module _ {A B : Type 0} (f g : A → B) where
  pub length-in_turn : (xs : List A) → length (in_turn f g xs) ≡ 2 * length xs
  length-in_turn [] = refl
  length-in_turn (x ∷ xs) = omega (arith, length-in_turn xs)

  pub in_turn-append : (xs ys : List A) → in_turn f g (xs ++ ys) ≡ in_turn f g xs ++ in_turn f g ys
  in_turn-append xs ys = flat_map-append (λ x. f x ∷ g x ∷ []) xs ys

  -- those before the n-th element, and those from there on
  module _ (xs ys : List A) (n : ℕ) (count : length xs ≡ n) where
    front_count : length (in_turn f g xs) ≡ 2 * n
    front_count = length-in_turn xs ∙ ap (λ (k : ℕ). 2 * k) count

    pub take-in_turn : take (2 * n) (in_turn f g (xs ++ ys)) ≡ in_turn f g xs
    take-in_turn = ap (take (2 * n)) (in_turn-append xs ys) ∙ take_at (in_turn f g xs) (in_turn f g ys) (2 * n) front_count

    pub drop-in_turn : drop (2 * n) (in_turn f g (xs ++ ys)) ≡ in_turn f g ys
    drop-in_turn = ap (drop (2 * n)) (in_turn-append xs ys) ∙ drop_at (in_turn f g xs) (in_turn f g ys) (2 * n) front_count

  module _ (xs : List A) (x : A) (ys : List A) (n : ℕ) (count : length xs ≡ n) where
    pub in_turn-insert : take (2 * n) (in_turn f g (xs ++ ys)) ++ f x ∷ g x ∷ drop (2 * n) (in_turn f g (xs ++ ys)) ≡ in_turn f g (xs ++ x ∷ ys)
    in_turn-insert = (λ i. take-in_turn xs ys n count i ++ f x ∷ g x ∷ drop-in_turn xs ys n count i) ∙ sym (in_turn-append xs (x ∷ ys))

    pub in_turn-remove : take (2 * n) (in_turn f g (xs ++ x ∷ ys)) ++ drop 2 (drop (2 * n) (in_turn f g (xs ++ x ∷ ys))) ≡ in_turn f g (xs ++ ys)
    in_turn-remove = (λ i. take-in_turn xs (x ∷ ys) n count i ++ drop 2 (drop-in_turn xs (x ∷ ys) n count i)) ∙ sym (in_turn-append xs ys)

  pub map-in_turn : {C : Type 0} (h : B → C) (xs : List A) → map h (in_turn f g xs) ≡ in_turn (λ x. h (f x)) (λ x. h (g x)) xs
  map-in_turn h [] = refl
  map-in_turn h (x ∷ xs) = ap (λ ys. h (f x) ∷ h (g x) ∷ ys) (map-in_turn h xs)

  -- Where two for each element in turn have the values of a list: what holds of none, and of an element more with its two,
  -- holds of all.
  module _ {M N : Type 0} (size : M → N) (value : B → N) (P : List A → List M → Type 0) (none : P [] [])
      (more : (x : A) (xs : List A) (a b : M) (ms : List M) → size a ≡ value (f x) → size b ≡ value (g x) → P xs ms → P (x ∷ xs) (a ∷ b ∷ ms)) where
    pub by_two : (xs : List A) (ms : List M) → map size ms ≡ map value (in_turn f g xs) → P xs ms
    by_two [] [] e = none
    by_two [] (m ∷ ms) e = absurd cc
    by_two (x ∷ xs) [] e = absurd cc
    by_two (x ∷ xs) (a ∷ []) e = absurd (let rest = (heads (size a) (value (f x)) [] (value (g x) ∷ map value (in_turn f g xs)) e).1 in cc)
    by_two (x ∷ xs) (a ∷ b ∷ ms) e =
        let h = heads (size a) (value (f x)) (size b ∷ map size ms) (value (g x) ∷ map value (in_turn f g xs)) e in
        let s = heads (size b) (value (g x)) (map size ms) (map value (in_turn f g xs)) h.1 in
        more x xs a b ms h.0 s.0 (by_two xs ms s.1)

abbrev Part : Type 0
Part = Bytes × CanisterPart

-- the same of memories with as many bytes as the pages of canisters have
pub by_canisters : (P : List Part → List Bytes → Type 0) → P [] []
    → ((c : Part) (cs : List Part) (heap stable : Bytes) (ms : List Bytes) → length heap ≡ c.1.heap * PAGE_SIZE → length stable ≡ c.1.stable * PAGE_SIZE → P cs ms → P (c ∷ cs) (heap ∷ stable ∷ ms))
    → (cs : List Part) (ms : List Bytes) → map (λ (b : Bytes). length b) ms ≡ map (λ (m : Bytes × ℕ). m.1 * PAGE_SIZE) (memory_pages cs) → P cs ms
by_canisters P none more cs ms fit =
    by_two heap_pages stable_pages (λ (b : Bytes). length b) (λ (m : Bytes × ℕ). m.1 * PAGE_SIZE) P none more cs ms fit
