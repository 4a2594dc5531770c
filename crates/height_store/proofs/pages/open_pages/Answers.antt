use Rattle.std.proofs.Common.{◌≡◌, ◌≤◌, ◌∙◌, ℕ, rules, ap, sym, subst, List, map, nat_eq}
use Rattle.std.specs.List.{list_any, AllByRecursion}
use Rattle.std.specs.List.Sorted.{IsNonDecreasingBy, IsPermutation}
use Rattle.std.proofs.lemmas.List.Sorted.{IsNonDecreasingBy-from_sort_by_key, list_any-IsPermutation}
use Rattle.height_store.specs.Bad.{namings}
use Rattle.height_store.specs.Naming.{IsFirstBadNaming}
use Rattle.height_store.specs.Opened.{parts_of, FitNamings}
use Rattle.height_store.specs.Store.{numbers_of}
use Rattle.height_store.proofs.Namings.{all_moved, first_bad_page}
use Rattle.height_store.proofs.pages.open_pages.Goals as goal
use Rattle.std.proofs.lemmas.Result.{IfOk-weaker}

pub open_named-requires : goal.open_named-requires
open_named-requires g c = record {
  ordered = subst (IsNonDecreasingBy (λ (r : ℕ × ℕ). r.0)) (sym c.deref.ensures.value) (IsNonDecreasingBy-from_sort_by_key (λ r. r.0) c.sort_unstable_by_key.new.self.items c.sort_unstable_by_key.ensures.sorted (λ a r f' called. search rules));
}

pub returns-clause-named : goal.returns-clause-named
returns-clause-named g c =
    let moved = subst (λ (l : List (ℕ × ℕ)). IsPermutation l c.sort_unstable_by_key.new.self.items) c.in_ok-namings.ensures c.sort_unstable_by_key.ensures.permutation in
    let all = namings (map parts_of c.args.marks.now) in
    IfOk-weaker c.open_named.result (λ files. (n : ℕ) → list_any (nat_eq n) (numbers_of files.items) ≡ list_any (λ (r : ℕ × ℕ). nat_eq n r.0) c.deref.result.now) (λ files. (n : ℕ) → list_any (nat_eq n) (numbers_of files.items) ≡ list_any (λ (r : ℕ × ℕ). nat_eq n r.0) all)
    (λ files same n. same n ∙ ap (list_any (λ (r : ℕ × ℕ). nat_eq n r.0)) c.deref.ensures.value ∙ sym (list_any-IsPermutation (λ r. nat_eq n r.0) all c.sort_unstable_by_key.new.self.items moved))
    c.open_named.ensures.named

pub returns-clause-fits : goal.returns-clause-fits
returns-clause-fits g c =
    let moved = subst (λ (l : List (ℕ × ℕ)). IsPermutation l c.sort_unstable_by_key.new.self.items) c.in_ok-namings.ensures c.sort_unstable_by_key.ensures.permutation in
    let all = namings (map parts_of c.args.marks.now) in
    IfOk-weaker c.open_named.result (λ files. FitNamings files.items c.deref.result.now) (λ files. FitNamings files.items all)
    (λ files fits. all_moved (λ naming. AllByRecursion (λ file. file.number ≡ naming.0 → file.index.memory ≤ naming.1) files.items) all c.sort_unstable_by_key.new.self.items moved
    (subst (FitNamings files.items) c.deref.ensures.value fits))
    c.open_named.ensures.fits

pub returns-clause-bad_page : goal.returns-clause-bad_page
returns-clause-bad_page g c = λ told number is.
    let moved = subst (λ (l : List (ℕ × ℕ)). IsPermutation l c.sort_unstable_by_key.new.self.items) c.in_ok-namings.ensures c.sort_unstable_by_key.ensures.permutation in
    let files = (g.D.Disk.view c.args.disk.now).state.files in
    first_bad_page files (map parts_of c.args.marks.now) c.sort_unstable_by_key.new.self.items number (c.requires.good told) moved
    (subst (λ (l : List (ℕ × ℕ)). IsFirstBadNaming files l number) c.deref.ensures.value (c.open_named.ensures.bad_page told number is))
