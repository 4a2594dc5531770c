-- Changes of one entry of a valid state.
use Rattle.std.proofs.lemmas.List.{append-nil}
use Rattle.format_spec.proofs.Ascending.{sorted_more}
use Rattle.format_spec.proofs.Lists.{all_join, all_parts}
use Rattle.state_spec.specs.SystemText.{path_fits}
use Rattle.std.proofs.Common.{◌≡◌, ℕ, ◌+◌, ◌<◌, ◌≤◌, Bool, true, false, not, ◌&&◌, ◌||◌, List, [], ◌∷◌, ◌++◌, length, get_or, set, refl, sym, ap, subst, ◌∙◌, arith, length-set, length-append}
use Rattle.std.specs.List.{AllByRecursion, insert, remove, list_any, list_all}
use Rattle.std.specs.FinMap.{is_sorted, put}
use Rattle.std.proofs.lemmas.Bool.{and_parts, and_from, not-true}
use Rattle.std.proofs.lemmas.List.Edits.{length-insert}
use Rattle.std.proofs.lemmas.List.Folds.{list_any-append, list_all-append}
use Rattle.format_spec.specs.Bytes.{Bytes, IsBytes, path_cmp, is_after, last_key}
use Rattle.format_spec.specs.declared.limits.TheConstants.{MAX_ENTRIES, MAX_VALUE}
use Rattle.state_spec.specs.State.{AreEntries, FitsEntry, IsByteEntry, is_path, is_reserved, is_prefix, has_conflict, are_apart, without}
use Rattle.state_spec.specs.Places.{Stands, IsAbsent}
use Rattle.state_spec.proofs.Keys.{paths_total}
use Rattle.state_spec.proofs.Paths.{Entry, begins_path, goes_on, conflicts_with, conflicts_before, conflicts_after, place_within}
use Rattle.state_spec.proofs.Places.{entry_there, sorted_put, set_split, set_is_put, insert_split, insert_is_put, remove_split, remove_is_without, remove_sorted, below_stands, above_stands}

record Good (e : Entry) : Type 0 where
  fits : FitsEntry e
  bytes : IsByteEntry e

goods_in : (es : List Entry) → AllByRecursion FitsEntry es → AllByRecursion IsByteEntry es → AllByRecursion Good es
goods_in [] fits bytes = tt
goods_in (e ∷ es) fits bytes = (record { fits = fits.0; bytes = bytes.0 }, goods_in es fits.1 bytes.1)

goods : (es : List Entry) → AreEntries es → AllByRecursion Good es
goods es are = goods_in es are.fit are.bytes

all_fit : (es : List Entry) → AllByRecursion Good es → AllByRecursion FitsEntry es × AllByRecursion IsByteEntry es
all_fit [] good = (tt, tt)
all_fit (e ∷ es) good = let p = all_fit es good.1 in ((good.0.fits, p.0), (good.0.bytes, p.1))

entries_from : (es : List Entry) → length es ≤ MAX_ENTRIES → is_sorted path_cmp es ≡ true → are_apart es ≡ true → AllByRecursion Good es → AreEntries es
entries_from es few sorted apart good = let fit = all_fit es good in record { few = few; paths_ascend = sorted; paths_apart = apart; fit = fit.0; bytes = fit.1 }

-- ---- what is apart, with an entry more, another value, or an entry less

any_false : (a b : Bool) → a || b ≡ false → (a ≡ false) × (b ≡ false)
any_false true b h = absurd cc
any_false false b h = (refl, h)

none_all : {X : Type 0} (p : X → Bool) (xs : List X) → list_any p xs ≡ false → list_all (λ x. not (p x)) xs ≡ true
none_all p [] h = refl
none_all p (x ∷ xs) h =
    let t = any_false (p x) (list_any p xs) h in
    and_from (not (p x)) (list_all (λ y. not (p y)) xs) (ap not t.0) (none_all p xs t.1)

all_none : {X : Type 0} (p : X → Bool) (xs : List X) → list_all (λ x. not (p x)) xs ≡ true → list_any p xs ≡ false
all_none p [] h = refl
all_none p (x ∷ xs) h =
    let t = and_parts (not (p x)) (list_all (λ y. not (p y)) xs) h in
    λ i. not-true (p x) t.0 i || all_none p xs t.1 i

-- b begins f not
abbrev free : Entry → Entry → Bool
free b f = not (is_prefix b.0 f.0)

module _ (path : List Bytes) where
  free_insert : (b : Entry) (v : Bytes) (before after : List Entry) → list_all (free b) (before ++ after) ≡ true → is_prefix b.0 path ≡ false → list_all (free b) (before ++ (path, v) ∷ after) ≡ true
  free_insert b v before after h none =
      let t = and_parts (list_all (free b) before) (list_all (free b) after) (sym (list_all-append (free b) before after) ∙ h) in
      list_all-append (free b) before ((path, v) ∷ after) ∙ and_from (list_all (free b) before) (list_all (free b) ((path, v) ∷ after)) t.0 (and_from (free b (path, v)) (list_all (free b) after) (ap not none) t.1)

  apart_insert : (v : Bytes) (before after : List Entry) → are_apart (before ++ after) ≡ true → list_any (begins_path path) before ≡ false → list_any (goes_on path) after ≡ false → are_apart (before ++ (path, v) ∷ after) ≡ true
  apart_insert v [] after h none rest = and_from (list_all (free (path, v)) after) (are_apart after) (none_all (goes_on path) after rest) h
  apart_insert v (b ∷ before) after h none rest =
      let t = and_parts (list_all (free b) (before ++ after)) (are_apart (before ++ after)) h in
      let n = any_false (is_prefix b.0 path) (list_any (begins_path path) before) none in
      and_from (list_all (free b) (before ++ (path, v) ∷ after)) (are_apart (before ++ (path, v) ∷ after)) (free_insert b v before after t.0 n.0) (apart_insert v before after t.1 n.1 rest)

  free_value : (b : Entry) (v w : Bytes) (before after : List Entry) → list_all (free b) (before ++ (path, v) ∷ after) ≡ list_all (free b) (before ++ (path, w) ∷ after)
  free_value b v w [] after = refl
  free_value b v w (c ∷ before) after = ap (λ t. free b c && t) (free_value b v w before after)

  apart_value : (v w : Bytes) (before after : List Entry) → are_apart (before ++ (path, v) ∷ after) ≡ are_apart (before ++ (path, w) ∷ after)
  apart_value v w [] after = refl
  apart_value v w (b ∷ before) after = λ i. free_value b v w before after i && apart_value v w before after i

  free_remove : (b : Entry) (v : Bytes) (before after : List Entry) → list_all (free b) (before ++ (path, v) ∷ after) ≡ true → (list_all (free b) (before ++ after) ≡ true) × (is_prefix b.0 path ≡ false)
  free_remove b v before after h =
      let t = and_parts (list_all (free b) before) (list_all (free b) ((path, v) ∷ after)) (sym (list_all-append (free b) before ((path, v) ∷ after)) ∙ h) in
      let u = and_parts (free b (path, v)) (list_all (free b) after) t.1 in
      (list_all-append (free b) before after ∙ and_from (list_all (free b) before) (list_all (free b) after) t.0 u.1, not-true (is_prefix b.0 path) u.0)

  apart_remove : (v : Bytes) (before after : List Entry) → are_apart (before ++ (path, v) ∷ after) ≡ true → are_apart (before ++ after) ≡ true
  apart_remove v [] after h = (and_parts (list_all (free (path, v)) after) (are_apart after) h).1
  apart_remove v (b ∷ before) after h =
      let t = and_parts (list_all (free b) (before ++ (path, v) ∷ after)) (are_apart (before ++ (path, v) ∷ after)) h in
      and_from (list_all (free b) (before ++ after)) (are_apart (before ++ after)) (free_remove b v before after t.0).0 (apart_remove v before after t.1)

  -- an entry conflicts with no other
  none_begins : (v : Bytes) (before after : List Entry) → are_apart (before ++ (path, v) ∷ after) ≡ true → (list_any (begins_path path) before ≡ false) × (list_any (goes_on path) after ≡ false)
  none_begins v [] after h = (refl, all_none (goes_on path) after (and_parts (list_all (free (path, v)) after) (are_apart after) h).0)
  none_begins v (b ∷ before) after h =
      let t = and_parts (list_all (free b) (before ++ (path, v) ∷ after)) (are_apart (before ++ (path, v) ∷ after)) h in
      let rest = none_begins v before after t.1 in
      (λ i. (free_remove b v before after t.0).1 i || rest.0 i, rest.1)

  itself : (b : Bool) → (b && not b) || (b && not b) ≡ false
  itself true = refl
  itself false = refl

-- ---- an entry that fits behind the others

pub record Pushed (es : List Entry) : Type 0 where
  pub sorted : is_sorted path_cmp es ≡ true
  pub apart : are_apart es ≡ true

pub pushed : (es : List Entry) (e : Entry) → is_sorted path_cmp es ≡ true → are_apart es ≡ true → path_fits es e.0 ≡ true → Pushed (es ++ e ∷ [])
pushed es e sorted apart fits =
    let a = and_parts (is_path e.0 && not (is_reserved e.0) && is_after path_cmp (last_key es) e.0) (list_all (λ f. not (is_prefix f.0 e.0)) es) fits in
    let b = and_parts (is_path e.0 && not (is_reserved e.0)) (is_after path_cmp (last_key es) e.0) a.0 in
    record {
      sorted = sorted_more path_cmp paths_total es e.0 e.1 sorted b.1;
      apart = apart_insert e.0 e.1 es [] (ap are_apart (append-nil es) ∙ apart) (all_none (begins_path e.0) es a.1) refl;
    }

-- ---- an entry changes, goes, or comes

module _ (es : List Entry) (are : AreEntries es) (path : List Bytes) (i : ℕ) where
  module _ (at : Stands path_cmp path es i) where
    apart_there : are_apart (at.at.before ++ (path, at.value) ∷ at.at.after) ≡ true
    apart_there = subst (λ l. are_apart l ≡ true) at.at.split are.paths_apart

    parts_good : AllByRecursion Good at.at.before × AllByRecursion Good ((path, at.value) ∷ at.at.after)
    parts_good = all_parts Good at.at.before ((path, at.value) ∷ at.at.after) (subst (AllByRecursion Good) at.at.split (goods es are))

    pub no_conflict : has_conflict es path ≡ false
    no_conflict =
        let none = none_begins path at.value at.at.before at.at.after apart_there in
        ap (λ l. has_conflict l path) at.at.split
        ∙ list_any-append (conflicts_with path) at.at.before ((path, at.value) ∷ at.at.after)
        ∙ (λ j. (conflicts_before path at.at.before (below_stands path_cmp paths_total path es are.paths_ascend i at) ∙ none.0) j
        || (itself path (is_prefix path path) j || (conflicts_after path at.at.after (above_stands path_cmp paths_total path es are.paths_ascend i at) ∙ none.1) j))

    -- another value
    pub value_put : (value : Bytes) (x : Entry) → x ≡ get_or es i x → IsBytes value → length value ≤ MAX_VALUE
        → AreEntries (set es i (x.0, value)) × (set es i (x.0, value) ≡ put path_cmp path value es)
    value_put value x read bytes small =
        let path_is : path ≡ x.0 = sym (ap (λ (e : Entry). e.0) (entry_there path_cmp paths_total path es are.paths_ascend i at x read)) in
        let split = set_split path_cmp paths_total path es are.paths_ascend i at value in
        let is_put = set_is_put path_cmp paths_total path es are.paths_ascend i at value in
        let good : Good (path, value) = record {
          fits = record { path = parts_good.1.0.fits.path; free = parts_good.1.0.fits.free; value = small };
          bytes = record { path = parts_good.1.0.bytes.path; value = bytes };
        } in
        let now : AreEntries (set es i (path, value)) = entries_from (set es i (path, value)) (omega (arith, length-set es i (path, value), are.few))
        (ap (is_sorted path_cmp) is_put ∙ sorted_put path_cmp paths_total path value es are.paths_ascend)
        (ap are_apart split ∙ apart_value path value at.value at.at.before at.at.after ∙ apart_there)
        (subst (AllByRecursion Good) (sym split) (all_join Good at.at.before ((path, value) ∷ at.at.after) parts_good.0 (good, parts_good.1.1))) in
        subst (λ (p : List Bytes). AreEntries (set es i (p, value)) × (set es i (p, value) ≡ put path_cmp path value es)) path_is (now, is_put)

    pub entry_deleted : AreEntries (remove es i) × (remove es i ≡ without path_cmp path es)
    entry_deleted =
        let split = remove_split path_cmp paths_total path es are.paths_ascend i at in
        let fewer : length es ≡ length (remove es i) + 1 =
        ap length at.at.split ∙ omega (arith, length-append at.at.before ((path, at.value) ∷ at.at.after), ap length split, length-append at.at.before at.at.after) in (
          entries_from (remove es i) (omega (arith, fewer, are.few)) (remove_sorted path_cmp paths_total path es are.paths_ascend i at)
              (ap are_apart split ∙ apart_remove path at.value at.at.before at.at.after apart_there)
              (subst (AllByRecursion Good) (sym split) (all_join Good at.at.before at.at.after parts_good.0 parts_good.1.1)),
          remove_is_without path_cmp paths_total path es are.paths_ascend i at,
        )

  module _ (a : IsAbsent path_cmp path es i) where
    pub entry_put : (value : Bytes) → has_conflict es path ≡ false → is_path path ≡ true → AllByRecursion IsBytes path → is_reserved path ≡ false → IsBytes value → length value ≤ MAX_VALUE → length es < MAX_ENTRIES
        → AreEntries (insert es i (path, value)) × (insert es i (path, value) ≡ put path_cmp path value es)
    entry_put value none is_one labels not_reserved bytes small room =
        let split = insert_split path_cmp paths_total path es i a value in
        let is_put = insert_is_put path_cmp paths_total path es i a value in
        let were = all_parts Good a.at.before a.at.after (subst (AllByRecursion Good) a.at.split (goods es are)) in
        let good : Good (path, value) = record { fits = record { path = is_one; free = ap not not_reserved; value = small }; bytes = record { path = labels; value = bytes } } in
        let parts = any_false (list_any (begins_path path) a.at.before) (list_any (goes_on path) a.at.after)
        (sym (ap (λ l. has_conflict l path) a.at.split ∙ list_any-append (conflicts_with path) a.at.before a.at.after ∙ (λ j. conflicts_before path a.at.before a.lower j || conflicts_after path a.at.after a.higher j)) ∙ none) in (
          entries_from (insert es i (path, value)) (omega (arith, length-insert es i (path, value) (place_within path es i a)))
              (ap (is_sorted path_cmp) is_put ∙ sorted_put path_cmp paths_total path value es are.paths_ascend)
              (ap are_apart split ∙ apart_insert path value a.at.before a.at.after (subst (λ l. are_apart l ≡ true) a.at.split are.paths_apart) parts.0 parts.1)
              (subst (AllByRecursion Good) (sym split) (all_join Good a.at.before ((path, value) ∷ a.at.after) were.0 (good, were.1))),
          is_put,
        )
