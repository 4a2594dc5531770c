-- Removing the files of some numbers, one by one.
use Rattle.std.proofs.Common.{◌≡◌, ◌≢◌, ℕ, ◌+◌, ◌<◌, ◌≤◌, Bool, true, false, ◌||◌, ◌&&◌, not, nat_eq, List, [], ◌∷◌, length, take, drop, get_or, None, Some, Option, IsSome, IsTrue, Result, Ok, Err, refl, sym, ◌∙◌, ap, subst, arith, ⊎_elim, true≢false}
use Rattle.std.proofs.lemmas.Bool.{cases_lt}
use Rattle.std.proofs.lemmas.List.{get_or_default, take-append-drop, length-take, get_or-take}
use Rattle.std.specs.Prelude.{is_ok, IsOk, MatchResult}
use Rattle.std.specs.List.{list_any, AllByRecursion}
use Rattle.std.specs.List.Sorted.{IsStrictlyIncreasing, IsBinarySearchResult}
use Rattle.std.specs.Ordering.{nat_cmp}
use Rattle.std.proofs.lemmas.Bool.Decides.{eqb_tells}
use Rattle.std.proofs.lemmas.List.Elements.{All-from_recursion}
use Rattle.std.proofs.lemmas.List.Kept.{AllPairs-from_increasing}
use Rattle.std.proofs.lemmas.List.Sorted.{searched}
use Rattle.std.proofs.lemmas.List.Folds.{list_any_none, list_any_at, list_any_more, list_any-append}
use Rattle.disk_model.specs.declared.disk.Disk.{Ghosts}
use Rattle.disk_model.specs.declared.disk.DiskError.{DiskError}
use Rattle.disk_model.specs.declared.name.Kind.{Kind}
use Rattle.disk_model.specs.declared.name.Kind.TheVariants as kind
use Rattle.disk_model.specs.declared.name.Name.{Name}
use Rattle.disk_model.specs.declared.name.Name.TheVariants.{Page, Mark, Draft, Stage}
use Rattle.disk_model.specs.Files.{same_name, name_of, number_in}
use Rattle.disk_model.specs.State.{IsThere}
use Rattle.disk_model.specs.Call.{remove}
use Rattle.disk_model.specs.View.{DiskView, Does, HasCause}
use Rattle.disk_model.specs.Frame.{TouchesOnly}
use Rattle.disk_model.specs.Laws.{IsSound}
use Rattle.disk_model.specs.Writing.{Writes, one_write, write_then, write_wider}
use Rattle.height_store.specs.Opened.{is_swept, is_number_swept}

-- ---- numbers that ascend

pub same_true : (n m : ℕ) → n ≡ m → nat_eq n m ≡ true
same_true n m e = ⊎_elim (λ h. h.0) (λ h. absurd (h.1 e)) (eqb_tells n m)

pub same_false : (n m : ℕ) → n ≢ m → nat_eq n m ≡ false
same_false n m e = ⊎_elim (λ h. absurd (e h.1)) (λ h. h.0) (eqb_tells n m)

pub rises : (xs : List ℕ) → IsStrictlyIncreasing xs → (i j : ℕ) → i ≤ j → j < length xs → get_or xs i 0 ≤ get_or xs j 0
rises xs up i j le lt = ⊎_elim
    (λ h. let e : i ≡ j = h.1 in omega (arith, ap (λ k. get_or xs k 0) e))
    (λ h. let ne : i ≢ j = h.1 in let below = AllPairs-from_increasing xs up i j 0 (omega arith) lt in omega arith)
    (eqb_tells i j)

found_or_not : (xs : List ℕ) (x : ℕ) (r : Result ℕ ℕ) → MatchResult r (λ i. (i < length xs) × (get_or xs i 0 ≡ x)) (λ i. (i ≤ length xs) × ((k : ℕ) → k < i → get_or xs k 0 < x) × ((k : ℕ) → i ≤ k → k < length xs → x < get_or xs k 0)) → is_ok r ≡ list_any (nat_eq x) xs
found_or_not xs x (Ok i) h = sym (list_any_at (nat_eq x) xs i 0 h.0 (same_true x (get_or xs i 0) (sym h.1)))
found_or_not xs x (Err i) h = sym (list_any_none (nat_eq x) xs (λ k d lt. same_false x (get_or xs k d) (apart k d lt)))
  where
    same_default : (k d : ℕ) → k < length xs → get_or xs k d ≡ get_or xs k 0
    same_default k d lt = get_or_default xs k d 0 lt

    apart : (k d : ℕ) → k < length xs → x ≢ get_or xs k d
    apart k d lt = λ e. ⊎_elim (λ l. omega (arith, h.1 k l, same_default k d lt)) (λ l. omega (arith, h.2 k l lt, same_default k d lt)) (cases_lt k i)

-- whether a search finds a number
pub searched_any : (xs : List ℕ) (x : ℕ) (r : Result ℕ ℕ) → IsStrictlyIncreasing xs → IsBinarySearchResult (λ y. nat_cmp y x) xs r → is_ok r ≡ list_any (nat_eq x) xs
searched_any xs x r up found = found_or_not xs x r (searched xs x r found (rises xs up))

-- ---- one file

number_apart : (n m : ℕ) (keep : List ℕ) → list_any (nat_eq n) keep ≡ false → (list_any (nat_eq m) (n ∷ []) && not (list_any (nat_eq m) keep)) ≡ false → nat_eq n m ≡ false
number_apart n m keep free apart = ⊎_elim
    (λ h. let e : n ≡ m = h.1 in
    absurd (true≢false (sym (subst (λ k. (list_any (nat_eq k) (n ∷ []) && not (list_any (nat_eq k) keep)) ≡ true) e (both (nat_eq n n) (list_any (nat_eq n) keep) (same_true n n refl) free)) ∙ apart)))
    (λ h. h.0)
    (eqb_tells n m)
  where
    both : (a b : Bool) → a ≡ true → b ≡ false → ((a || false) && not b) ≡ true
    both a b ha hb = rw (ha, hb) refl

-- a name that isn't swept isn't that of a number that is
name_apart : (k : Kind) (n : ℕ) (keep : List ℕ) (q : Name) → list_any (nat_eq n) keep ≡ false → is_swept k (n ∷ []) keep q ≡ false → same_name (name_of k n) q ≡ false
name_apart kind.Page n keep (Page m) free apart = number_apart n m keep free apart
name_apart kind.Page n keep (Mark m) free apart = refl
name_apart kind.Page n keep (Draft m) free apart = refl
name_apart kind.Page n keep (Stage m) free apart = refl
name_apart kind.Mark n keep (Page m) free apart = refl
name_apart kind.Mark n keep (Mark m) free apart = number_apart n m keep free apart
name_apart kind.Mark n keep (Draft m) free apart = refl
name_apart kind.Mark n keep (Stage m) free apart = refl
name_apart kind.Draft n keep (Page m) free apart = refl
name_apart kind.Draft n keep (Mark m) free apart = refl
name_apart kind.Draft n keep (Draft m) free apart = number_apart n m keep free apart
name_apart kind.Draft n keep (Stage m) free apart = refl
name_apart kind.Stage n keep (Page m) free apart = refl
name_apart kind.Stage n keep (Mark m) free apart = refl
name_apart kind.Stage n keep (Draft m) free apart = refl
name_apart kind.Stage n keep (Stage m) free apart = number_apart n m keep free apart

pub one_swept : {D T : Type 0} (disk : Ghosts D) (k : Kind) (n : ℕ) (keep : List ℕ) (among : Bool) (name : Name) (result : Result T DiskError) (old new : D) → among ≡ list_any (nat_eq n) keep → among ≡ false → name ≡ name_of k n
    → (IsTrue disk.tells → IsSound (disk.view old).state) → (IsTrue disk.tells → Does (remove name) result (disk.view old) (disk.view new)) → HasCause (disk.faults old) (disk.faults new) result → Writes disk (is_swept k (n ∷ []) keep) 0 old new result
one_swept disk k n keep among name result old new is free named sound does cause =
    one_write disk (remove name) result (is_swept k (n ∷ []) keep) old new (λ q apart. ap (λ (m : Name). same_name m q) named ∙ name_apart k n keep q (sym is ∙ free) apart) sound does cause

-- ---- several files

wider_number : (xs ys keep : List ℕ) (o : Option ℕ) → ((m : ℕ) → list_any (nat_eq m) ys ≡ false → list_any (nat_eq m) xs ≡ false) → is_number_swept ys keep o ≡ false → is_number_swept xs keep o ≡ false
wider_number xs ys keep None wider apart = refl
wider_number xs ys keep (Some m) wider apart = by_test (list_any (nat_eq m) xs) (list_any (nat_eq m) ys) (not (list_any (nat_eq m) keep)) (wider m) apart
  where
    by_test : (a b k : Bool) → (b ≡ false → a ≡ false) → (b && k) ≡ false → (a && k) ≡ false
    by_test a true true h e = absurd (true≢false e)
    by_test true true false h e = refl
    by_test false true false h e = refl
    by_test a false k h e = ap (λ (t : Bool). t && k) (h refl)

-- what isn't among more numbers
apart_of_more : (k : Kind) (xs ys keep : List ℕ) → ((m : ℕ) → list_any (nat_eq m) ys ≡ false → list_any (nat_eq m) xs ≡ false) → (q : Name) → is_swept k ys keep q ≡ false → is_swept k xs keep q ≡ false
apart_of_more k xs ys keep wider q apart = wider_number xs ys keep (number_in k q) wider apart

number_of_name : (k : Kind) (n : ℕ) → number_in k (name_of k n) ≡ Some n
number_of_name kind.Page n = refl
number_of_name kind.Mark n = refl
number_of_name kind.Draft n = refl
number_of_name kind.Stage n = refl

pub not_swept : (k : Kind) (n : ℕ) (xs keep : List ℕ) → list_any (nat_eq n) xs ≡ false → is_swept k xs keep (name_of k n) ≡ false
not_swept k n xs keep none = ap (is_number_swept xs keep) (number_of_name k n) ∙ ap (λ (b : Bool). b && not (list_any (nat_eq n) keep)) none

or_none : (a b : Bool) → (a || b) ≡ false → (a ≡ false) × (b ≡ false)
or_none true b e = absurd (true≢false e)
or_none false b e = (refl, e)

or_one : (a b : Bool) → b ≡ false → (a || b) ≡ true → a ≡ true
or_one true b none e = refl
or_one false b none e = absurd (true≢false (sym e ∙ none))

-- numbers and the one behind them
parts_of_more : (xs : List ℕ) (i m : ℕ) → i < length xs → list_any (nat_eq m) (take (i + 1) xs) ≡ false → (list_any (nat_eq m) (take i xs) ≡ false) × (nat_eq m (get_or xs i 0) ≡ false)
parts_of_more xs i m lt none = or_none _ _ (sym (list_any_more (nat_eq m) xs i 0 lt) ∙ none)

-- the files of some numbers, and that of the next one
pub more_swept : {D S T : Type 0} (disk : Ghosts D) (before : Result S DiskError) (result : Result T DiskError) (k : Kind) (xs keep : List ℕ) (i : ℕ) (old mid new : D) → i < length xs → IsOk before → Writes disk (is_swept k (take i xs) keep) 0 old mid before
    → Writes disk (is_swept k (get_or xs i 0 ∷ []) keep) 0 mid new result → Writes disk (is_swept k (take (i + 1) xs) keep) 0 old new result
more_swept disk before result k xs keep i old mid new lt ok first second = write_then disk before result (is_swept k (take (i + 1) xs) keep) 0 0 0 old mid new ok (omega arith)
    (write_wider disk before (is_swept k (take i xs) keep) _ 0 old mid (apart_of_more k (take i xs) (take (i + 1) xs) keep (λ m none. (parts_of_more xs i m lt none).0)) first)
    (write_wider disk result (is_swept k (get_or xs i 0 ∷ []) keep) _ 0 mid new (apart_of_more k (get_or xs i 0 ∷ []) (take (i + 1) xs) keep (λ m none. ap (λ (b : Bool). b || false) (parts_of_more xs i m lt none).1)) second)

-- where the walk stops at this one
pub all_swept : {D T : Type 0} (disk : Ghosts D) (result : Result T DiskError) (k : Kind) (xs keep : List ℕ) (i : ℕ) (old new : D) → Writes disk (is_swept k (take (i + 1) xs) keep) 0 old new result → Writes disk (is_swept k xs keep) 0 old new result
all_swept disk result k xs keep i old new writes = write_wider disk result (is_swept k (take (i + 1) xs) keep) _ 0 old new
    (apart_of_more k (take (i + 1) xs) xs keep (λ m none. (or_none _ _ (sym (list_any-append (nat_eq m) (take (i + 1) xs) (drop (i + 1) xs)) ∙ ap (list_any (nat_eq m)) (take-append-drop (i + 1) xs) ∙ none)).0)) writes

-- the next is still there
pub still_there : (k : Kind) (xs keep : List ℕ) (i : ℕ) (old mid : DiskView) → IsStrictlyIncreasing xs → i < length xs → AllByRecursion (λ n. IsThere old.state (name_of k n)) xs → TouchesOnly (is_swept k (take i xs) keep) old mid → IsThere mid.state (name_of k (get_or xs i 0))
still_there k xs keep i old mid up lt there touches =
    subst IsSome (sym (touches.reads (name_of k x) (not_swept k x (take i xs) keep (list_any_none (nat_eq x) (take i xs) before)))) (All-from_recursion (λ n. IsThere old.state (name_of k n)) xs there i 0 lt)
  where
    x : ℕ
    x = get_or xs i 0

    before : (j d : ℕ) → j < length (take i xs) → nat_eq x (get_or (take i xs) j d) ≡ false
    before j d below =
        let within : j < i = omega (arith, length-take i xs) in
        same_false x (get_or (take i xs) j d) (λ e. omega (arith, e, get_or-take i xs j d within, AllPairs-from_increasing xs up j i d within lt, get_or_default xs i d 0 lt))

-- the files of these numbers, but for those to be kept, are gone
abbrev pub AreGone : Kind → List ℕ → List ℕ → DiskView → Type 0
AreGone k xs keep v = (n : ℕ) → list_any (nat_eq n) xs ≡ true → list_any (nat_eq n) keep ≡ false → v.state.files (name_of k n) ≡ None

pub gone_more : (k : Kind) (xs keep : List ℕ) (i : ℕ) (mid new : DiskView) → i < length xs → AreGone k (take i xs) keep mid → AreGone k (get_or xs i 0 ∷ []) keep new → TouchesOnly (is_swept k (get_or xs i 0 ∷ []) keep) mid new → AreGone k (take (i + 1) xs) keep new
gone_more k xs keep i mid new lt first second touches n some free = ⊎_elim
    (λ h. second n (ap (λ (b : Bool). b || false) h.0) free)
    (λ h. touches.reads (name_of k n) (not_swept k n (get_or xs i 0 ∷ []) keep (ap (λ (b : Bool). b || false) h.0)) ∙ first n (or_one _ _ h.0 (sym (list_any_more (nat_eq n) xs i 0 lt) ∙ some)) free)
    (eqb_tells n (get_or xs i 0))

pub one_gone : (k : Kind) (x : ℕ) (keep : List ℕ) (new : DiskView) → (list_any (nat_eq x) keep ≡ false → new.state.files (name_of k x) ≡ None) → AreGone k (x ∷ []) keep new
one_gone k x keep new gone n is free = ⊎_elim
    (λ h. let e : x ≡ n = sym h.1 in subst (λ m. list_any (nat_eq m) keep ≡ false → new.state.files (name_of k m) ≡ None) e gone free)
    (λ h. absurd (true≢false (sym is ∙ ap (λ (b : Bool). b || false) h.0)))
    (eqb_tells n x)
