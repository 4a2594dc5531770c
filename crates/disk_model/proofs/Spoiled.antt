-- Loose files spoiled one by one, and all at once.
use Rattle.std.proofs.Common.{◌≡◌, ℕ, Bool, true, false, ◌&&◌, List, [], ◌∷◌, Option, Some, None, is_some, unwrap_or, if◌then◌else◌, Vec, refl, inl, inr, sym, ◌∙◌, ap, subst}
use Rattle.std.specs.Map.{keys_of}
use Rattle.std.specs.List.{AllByRecursion}
use Rattle.std.specs.List.Sorted.{IsStrictlySortedBy}
use Rattle.std.specs.Ordering.{is_eq}
use Rattle.std.specs.declared.cmp.Ordering.TheVariants.{Less}
use Rattle.std.specs.declared.alloc.Global.{Global}
use Rattle.std.proofs.lemmas.Bool.{cases_Bool, false≢true}
use Rattle.format_spec.proofs.Lists.{and_false}
use Rattle.disk_model.specs.declared.name.Name.{Name}
use Rattle.disk_model.specs.declared.event.Event.{Event}
use Rattle.disk_model.specs.contracts.name.NameOrd.TheImpl.{cmp-value}
use Rattle.disk_model.specs.Files.{Files, same_name, files_with}
use Rattle.disk_model.specs.Record.{Entries, files_in}
use Rattle.disk_model.specs.Images.{spoiled_file, spoiled_where, spoiled_in, is_marked_after}
use Rattle.disk_model.specs.Laws.{same_name_eq, same_name_refl, replaced_here, replaced_apart}
use Rattle.disk_model.proofs.Keys.{cmp_same}

apart : (a b : Name) → cmp-value.it a b ≡ Less → same_name a b ≡ false
apart a b less = sym (cmp_same a b) ∙ (λ i. is_eq (less i))

-- a key before all of these is none of them
none_after : (q : Name) (es : Entries) → AllByRecursion (λ b. cmp-value.it q b ≡ Less) (keys_of es) → files_in es q ≡ None
none_after q [] all = refl
none_after q (e ∷ es) all = rw (apart q e.0 all.0) (none_after q es all.1)

module _ (how : ℕ) (events : List Event) where
  abbrev loose : Name → Bool
  loose n = is_marked_after n false events

  -- a name without a file keeps what was chosen
  unspoiled : (reading chosen : Files) (q : Name) → reading q ≡ None → spoiled_where how loose reading chosen q ≡ chosen q
  unspoiled reading chosen q none = rw (and_false (loose q) (is_some (reading q)) (ap is_some none)) refl

  here : (e : Name × Vec ℕ Global) (es : Entries) (f : Files) (q : Name) → same_name q e.0 ≡ true → files_in es q ≡ None
      → spoiled_where how loose (files_in es) (if loose e.0 then files_with f e.0 (spoiled_file how e.1.items) else f) q ≡ spoiled_where how loose (files_in (e ∷ es)) f q
  here e es f q same none = unspoiled (files_in es) (if loose e.0 then files_with f e.0 (spoiled_file how e.1.items) else f) q none ∙ by_mark (loose e.0) (ap loose (same_name_eq q e.0 same)) ∙ sym (ap (λ (o : Option (List ℕ)). if loose q && is_some o then spoiled_file how (unwrap_or o []) else f q) found)
    where
      found : files_in (e ∷ es) q ≡ Some e.1.items
      found = rw same refl

      by_mark : (b : Bool) → loose q ≡ b → (if b then files_with f e.0 (spoiled_file how e.1.items) else f) q ≡ (if loose q && true then spoiled_file how e.1.items else f q)
      by_mark true is = rw is (replaced_here f e.0 (spoiled_file how e.1.items) q (subst (λ n. same_name n q ≡ true) (same_name_eq q e.0 same) (same_name_refl q)))
      by_mark false is = rw is refl

  off : (e : Name × Vec ℕ Global) (es : Entries) (f : Files) (q : Name) → same_name q e.0 ≡ false → same_name e.0 q ≡ false
      → spoiled_where how loose (files_in es) (if loose e.0 then files_with f e.0 (spoiled_file how e.1.items) else f) q ≡ spoiled_where how loose (files_in (e ∷ es)) f q
  off e es f q not_here not_there = rw not_here (ap (λ (x : Option (List ℕ)). if loose q && is_some (files_in es q) then spoiled_file how (unwrap_or (files_in es q) []) else x) (by_mark (loose e.0)))
    where
      by_mark : (b : Bool) → (if b then files_with f e.0 (spoiled_file how e.1.items) else f) q ≡ f q
      by_mark true = replaced_apart f e.0 (spoiled_file how e.1.items) q not_there
      by_mark false = refl

  -- of entries with ascending keys
  pub spoiled_each : (es : Entries) → IsStrictlySortedBy cmp-value.it (keys_of es) → (f : Files) (q : Name) → spoiled_in how events es f q ≡ spoiled_where how loose (files_in es) f q
  unfolding IsStrictlySortedBy
  spoiled_each [] sorted f q = sym (unspoiled (files_in []) f q refl)
  spoiled_each (e ∷ es) sorted f q =
      spoiled_each es sorted.1 (if loose e.0 then files_with f e.0 (spoiled_file how e.1.items) else f) q
      ∙ elim (cases_Bool (same_name q e.0)) [
        | inl same ↦ here e es f q same (subst (λ n. files_in es n ≡ None) (sym (same_name_eq q e.0 same)) (none_after e.0 es sorted.0))
        | inr apart ↦ off e es f q apart (not_back q e.0 apart)
      ]
    where
      not_back : (a b : Name) → same_name a b ≡ false → same_name b a ≡ false
      not_back a b h = elim (cases_Bool (same_name b a)) [
        | inl same ↦ absurd (false≢true (sym h ∙ subst (λ n. same_name n b ≡ true) (same_name_eq b a same) (same_name_refl b)))
        | inr apart ↦ apart
      ]
