-- The last of some entries.
use Rattle.sys_state.specs.declared.record.CanisterRecord.{CanisterRecord}
use Rattle.sys_state.specs.System.{parts, part_of_record}
use Rattle.std.proofs.Common.{◌≡◌, ℕ, ◌+◌, ◌-◌, ◌<◌, Bool, true, false, not, ◌&&◌, ◌||◌, List, [], ◌∷◌, ◌++◌, length, take, map, Some, None, slice_get, refl, sym, ap, subst, ◌∙◌, arith}
use Rattle.std.specs.List.{last_or, list_all, list_any}
use Rattle.std.specs.FinMap.{is_sorted}
use Rattle.std.specs.FinMap.Entries.{below_all}
use Rattle.std.specs.Ordering.{is_lt}
use Rattle.std.proofs.lemmas.Bool.{and_parts}
use Rattle.std.proofs.lemmas.List.{map_push, take_more, take_all}
use Rattle.std.proofs.lemmas.Option.{get_or_from_slice_get, slice_get_within}
use Rattle.format_spec.specs.Bytes.{Bytes, path_cmp, is_after, last_key}
use Rattle.format_spec.proofs.Ascending.{less_is}
use Rattle.state_spec.specs.State.{is_prefix, are_apart}
use Rattle.state_spec.proofs.Keys.{paths_total}
use Rattle.state_spec.proofs.Paths.{Entry, Lower, begins_path, only_last}
use Rattle.state_spec.proofs.Places.{above_from_sorted}
use Rattle.format_spec.proofs.Lists.{all_parts, last_or-push}

-- the entries, cut before the last one
pub record EndsIn {X : Type 0} (es : List X) (e : X) : Type 0 where
  pub front : List X
  pub split : es ≡ front ++ e ∷ []

pub ends_in : {X : Type 0} (es : List X) (e : X) → slice_get es (length es - 1) ≡ Some e → EndsIn es e
ends_in es e is =
    let k : ℕ = length es - 1 in
    let within : k < length es = slice_get_within es k e is in
    let whole : take (k + 1) es ≡ es = take_all (k + 1) es (omega arith) in
    record { front = take k es; split = sym whole ∙ take_more es k e within ∙ ap (λ x. take k es ++ x ∷ []) (get_or_from_slice_get es k e e is) }

pub last_key_is : {K X : Type 0} (es : List (K × X)) (e : K × X) → EndsIn es e → last_key es ≡ Some e.0
last_key_is es e end =
    ap last_key end.split ∙ ap (last_or None) (map_push (λ x. x.0) end.front e) ∙ last_or-push None (map (λ x. x.0) end.front) e.0

-- beside another value
pub last_part_is : (cs : List (Bytes × CanisterRecord)) (c : Bytes × CanisterRecord) → EndsIn cs c → last_key (parts cs) ≡ Some c.0
last_part_is cs c end = ap last_key (ap parts end.split ∙ map_push (λ x. (x.0, part_of_record x.1)) end.front c) ∙ last_key_is (parts end.front ++ (c.0, part_of_record c.1) ∷ []) (c.0, part_of_record c.1) (record { front = parts end.front; split = refl })

-- ---- paths

all_not : {X : Type 0} (p : X → Bool) (xs : List X) → list_all (λ x. not (p x)) xs ≡ not (list_any p xs)
all_not p [] = refl
all_not p (x ∷ xs) = ap (λ b. not (p x) && b) (all_not p xs) ∙ both (p x) (list_any p xs)
  where
    both : (a b : Bool) → not a && not b ≡ not (a || b)
    both true b = refl
    both false b = refl

lower : (path : List Bytes) (front : List Entry) (e : Entry) → is_sorted path_cmp (front ++ e ∷ []) ≡ true → is_lt (path_cmp e.0 path) ≡ true → Lower path (front ++ e ∷ [])
lower path [] e sorted lt = (less_is (path_cmp e.0 path) lt, tt)
lower path (b ∷ front) e sorted lt =
    let s = and_parts (below_all path_cmp b.0 (front ++ e ∷ [])) (is_sorted path_cmp (front ++ e ∷ [])) sorted in
    let b_first = (all_parts (λ f. path_cmp b.0 f.0 ≡ _) front (e ∷ []) (above_from_sorted path_cmp paths_total b.0 (front ++ e ∷ []) s.0)).1.0 in
    (paths_total.trans b.0 e.0 path b_first (less_is (path_cmp e.0 path) lt), lower path front e s.1 lt)

-- above the last one, a path goes on from an earlier one only where it goes on from the last
pub last_frees : (path : List Bytes) (es : List Entry) (e : Entry) → EndsIn es e → is_sorted path_cmp es ≡ true → are_apart es ≡ true → is_lt (path_cmp e.0 path) ≡ true
    → list_all (λ x. not (is_prefix x.0 path)) es ≡ not (is_prefix e.0 path)
last_frees path es e end sorted apart lt =
    let there = subst (λ l. is_sorted path_cmp l ≡ true) end.split sorted in
    all_not (begins_path path) es
    ∙ ap (λ l. not (list_any (begins_path path) l)) end.split
    ∙ ap not (only_last path end.front e (lower path end.front e there lt) there (subst (λ l. are_apart l ≡ true) end.split apart))

abbrev pub frees : List Entry → List Bytes → Bool
frees es path = is_after path_cmp (last_key es) path && list_all (λ x. not (is_prefix x.0 path)) es

pub above_last : (path : List Bytes) (es : List Entry) (e : Entry) → EndsIn es e → is_sorted path_cmp es ≡ true → are_apart es ≡ true → is_lt (path_cmp e.0 path) ≡ true → frees es path ≡ not (is_prefix e.0 path)
above_last path es e end sorted apart lt =
    (λ i. is_after path_cmp (last_key_is es e end i) path && last_frees path es e end sorted apart lt i) ∙ ap (λ b. b && not (is_prefix e.0 path)) lt

pub not_above_last : (path : List Bytes) (es : List Entry) (e : Entry) → EndsIn es e → is_lt (path_cmp e.0 path) ≡ false → frees es path ≡ false
not_above_last path es e end no_lt = ap (λ k. is_after path_cmp k path && list_all (λ x. not (is_prefix x.0 path)) es) (last_key_is es e end) ∙ ap (λ b. b && list_all (λ x. not (is_prefix x.0 path)) es) no_lt
