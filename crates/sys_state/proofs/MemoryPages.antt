-- The pages of memories in file order.
use Rattle.std.proofs.Common.{◌≡◌, ℕ, ◌+◌, List, [], ◌∷◌, ◌++◌, map, take, Some, refl, sym, ap, ◌∙◌, append_assoc}
use Rattle.std.specs.Prelude.{slice_get}
use Rattle.std.proofs.lemmas.List.{take_more}
use Rattle.std.proofs.lemmas.Option.{slice_get_within, get_or_from_slice_get}
use Rattle.format_spec.specs.Bytes.{Bytes}
use Rattle.state_spec.specs.Files.{memory_pages}
use Rattle.sys_state.specs.declared.record.CanisterRecord.{CanisterRecord}
use Rattle.sys_state.specs.System.{parts}

abbrev pub pages_in : List (Bytes × CanisterRecord) → List ℕ
pages_in cs = map (λ (m : Bytes × ℕ). m.1) (memory_pages (parts cs))

pages_push : (cs : List (Bytes × CanisterRecord)) (c : Bytes × CanisterRecord) → pages_in (cs ++ c ∷ []) ≡ pages_in cs ++ c.1.heap ∷ c.1.stable ∷ []
pages_push [] c = refl
pages_push (d ∷ cs) c = ap (λ (ns : List ℕ). d.1.heap ∷ d.1.stable ∷ ns) (pages_push cs c)

pub pages_more : (cs : List (Bytes × CanisterRecord)) (i : ℕ) (id : Bytes) (c : CanisterRecord) (old mid new : List ℕ) → slice_get cs i ≡ Some (id, c)
    → mid ≡ old ++ c.heap ∷ [] → new ≡ mid ++ c.stable ∷ [] → old ≡ pages_in (take i cs) → new ≡ pages_in (take (i + 1) cs)
pages_more cs i id c old mid new there one two so_far =
    let lt = slice_get_within cs i (id, c) there in
    let next : take (i + 1) cs ≡ take i cs ++ (id, c) ∷ [] = take_more cs i (id, c) lt ∙ ap (λ (x : Bytes × CanisterRecord). take i cs ++ x ∷ []) (get_or_from_slice_get cs i (id, c) (id, c) there) in
    two ∙ ap (λ (s : List ℕ). s ++ c.stable ∷ []) one ∙ append_assoc old (c.heap ∷ []) (c.stable ∷ []) ∙ ap (λ (s : List ℕ). s ++ c.heap ∷ c.stable ∷ []) so_far
    ∙ sym (pages_push (take i cs) (id, c)) ∙ ap pages_in (sym next)
