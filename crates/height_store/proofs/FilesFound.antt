-- Files that ascend by number, and one more.
use Rattle.std.proofs.Common.{◌≡◌, ◌≢◌, ℕ, ◌+◌, ◌<◌, ◌≤◌, Bool, true, false, ◌||◌, nat_eq, List, [], ◌∷◌, ◌++◌, length, get_or, Result, Ok, Err, refl, sym, ◌∙◌, ap, subst, arith, inl, inr, ⊎_elim, true≢false}
use Rattle.std.specs.Prelude.{◌⊎◌, ⊤, OnOk, IfErr, IsErrAnd, IsErrOf}
use Rattle.std.specs.List.{list_any, AllByRecursion, All}
use Rattle.std.specs.List.Sorted.{IsStrictlyIncreasing, IsBinarySearchResult, IsSearchInRange}
use Rattle.std.specs.Ordering.{nat_cmp, ordering_index}
use Rattle.std.proofs.Math.Bool.{or-true}
use Rattle.std.proofs.lemmas.Bool.{cases_lt}
use Rattle.std.proofs.lemmas.Bool.Decides.{eqb_tells}
use Rattle.std.proofs.lemmas.List.{get_or-map, get_or_default, get_or_push, get_or_append_left, length_push, length-map, map-append}
use Rattle.std.proofs.lemmas.List.Elements.{All-from_recursion, recursion_from_All, All-contains}
use Rattle.std.proofs.lemmas.List.Kept.{AllPairs-from_increasing}
use Rattle.std.proofs.lemmas.List.Folds.{list_any-append, list_any_at}
use Rattle.std.proofs.lemmas.List.Sorted.{searched}
use Rattle.format_spec.proofs.Lists.{all_push}
use Rattle.page_spec.specs.PageFile.{PageIndex}
use Rattle.disk_model.specs.Causes.{FailsFor, IsOfDisk, OnlyIf}
use Rattle.disk_model.specs.declared.disk.Disk.{Ghosts}
use Rattle.disk_model.specs.declared.disk.DiskError.TheVariants as disks
use Rattle.disk_model.specs.Files.{Files}
use Rattle.page_file.specs.declared.error.PageError.{PageError}
use Rattle.page_file.specs.declared.error.PageError.TheVariants as errors
use Rattle.page_file.specs.Errors.{IsBadFile as IsBadPageFile, page_error as of_page}
use Rattle.page_file.specs.Files.{NumberedFile, IsAsKnown, IsBadPage}
use Rattle.page_file.proofs.Unique.{only_index}
use Rattle.height_store.specs.declared.error.StoreError.{StoreError}
use Rattle.height_store.specs.declared.error.StoreError.TheVariants.{BadPage, Fault}
use Rattle.height_store.specs.Bad.{IsGoodNaming}
use Rattle.height_store.specs.Errors.{IsBadFile, disk_error, page_error}
use Rattle.height_store.specs.Naming.{IsFileOf, Takes}
use Rattle.height_store.specs.Opened.{FitNamings}
use Rattle.height_store.specs.Store.{numbers_of}
use Rattle.height_store.proofs.Swept.{same_true, searched_any, rises}

blank : NumberedFile
blank = record { number = 0; index = record { memory = 0; numbers = [] } }

number_at : (xs : List NumberedFile) (i d : ℕ) (e : NumberedFile) → i < length xs → get_or (numbers_of xs) i d ≡ (get_or xs i e).number
number_at xs i d e lt = get_or-map (λ (f : NumberedFile). f.number) xs i e d lt

long : (xs : List NumberedFile) → length (numbers_of xs) ≡ length xs
long xs = length-map xs (λ (f : NumberedFile). f.number)

-- ---- a search by number

search_of_numbers : (xs : List NumberedFile) (n : ℕ) (r : Result ℕ ℕ) → IsSearchInRange r (length xs) → IsBinarySearchResult (λ f. nat_cmp f.number n) xs r → IsBinarySearchResult (λ y. nat_cmp y n) (numbers_of xs) r
search_of_numbers xs n (Ok i) within h = λ d. ap (λ (m : ℕ). nat_cmp m n) (number_at xs i d blank within) ∙ h blank
search_of_numbers xs n (Err i) within h = λ up.
    let parted = h (λ a b d le lt. omega (arith, up a b 0 le (omega (arith, long xs, lt)), ap rank (number_at xs a 0 d (omega (arith, le, lt))), ap rank (number_at xs b 0 d lt))) in (
      λ k d low lt. ap (λ (m : ℕ). nat_cmp m n) (number_at xs k d blank (omega (arith, lt, within))) ∙ parted.0 k blank low lt,
      λ k d low lt. let inside : k < length xs = omega (arith, lt, long xs) in ap (λ (m : ℕ). nat_cmp m n) (number_at xs k d blank inside) ∙ parted.1 k blank low inside,
    )
  where
    rank : ℕ → ℕ
    rank m = ordering_index (nat_cmp m n)

pub none_found : (xs : List NumberedFile) (n i : ℕ) → IsStrictlyIncreasing (numbers_of xs) → IsSearchInRange (Err i) (length xs) → IsBinarySearchResult (λ f. nat_cmp f.number n) xs (Err i) → list_any (nat_eq n) (numbers_of xs) ≡ false
none_found xs n i up within h = sym (searched_any (numbers_of xs) n (Err i) up (search_of_numbers xs n (Err i) within h))

-- files of one number are one
one_of_number : (xs : List NumberedFile) (i k : ℕ) (d e : NumberedFile) → IsStrictlyIncreasing (numbers_of xs) → i < length xs → k < length xs → (get_or xs k e).number ≡ (get_or xs i d).number → get_or xs k e ≡ get_or xs i d
one_of_number xs i k d e up lt inside same = ⊎_elim
    (λ l. absurd (omega (arith, AllPairs-from_increasing (numbers_of xs) up k i 0 l (omega (arith, long xs, lt)), at_i, at_k, same)))
    (λ le. ⊎_elim
    (λ l. absurd (omega (arith, AllPairs-from_increasing (numbers_of xs) up i k 0 l (omega (arith, long xs, inside)), at_i, at_k, same)))
    (λ ge. let e2 : k ≡ i = omega (arith, le, ge) in get_or_default xs k e d inside ∙ ap (λ (j : ℕ). get_or xs j d) e2)
    (cases_lt i k))
    (cases_lt k i)
  where
    at_i : get_or (numbers_of xs) i 0 ≡ (get_or xs i d).number
    at_i = number_at xs i 0 d lt

    at_k : get_or (numbers_of xs) k 0 ≡ (get_or xs k e).number
    at_k = number_at xs k 0 e inside

pub one_found : (xs : List NumberedFile) (n i : ℕ) (file : NumberedFile) → IsStrictlyIncreasing (numbers_of xs) → IsSearchInRange (Ok i) (length xs) → IsBinarySearchResult (λ f. nat_cmp f.number n) xs (Ok i) → file ≡ get_or xs i file → IsFileOf xs n file
one_found xs n i file up within h is = record {
  same_number = same;
  there = (i, within, sym is);
  only = recursion_from_All (λ f. f.number ≡ n → f ≡ file) xs (λ k d lt at. one_of_number xs i k file d up within lt (at ∙ sym same ∙ ap (λ (f : NumberedFile). f.number) is) ∙ sym is);
}
  where
    at : (i < length (numbers_of xs)) × (get_or (numbers_of xs) i 0 ≡ n)
    at = searched (numbers_of xs) n (Ok i) (search_of_numbers xs n (Ok i) within h) (rises (numbers_of xs) up)

    same : file.number ≡ n
    same = ap (λ (f : NumberedFile). f.number) is ∙ sym (number_at xs i 0 file within) ∙ at.1

pub found_any : (xs : List NumberedFile) (n : ℕ) (file : NumberedFile) → IsFileOf xs n file → list_any (nat_eq n) (numbers_of xs) ≡ true
found_any xs n file of =
    list_any_at (nat_eq n) (numbers_of xs) of.there.0 0 (omega (arith, long xs, of.there.1))
    (same_true n _ (sym (number_at xs of.there.0 0 file of.there.1 ∙ ap (λ (f : NumberedFile). f.number) of.there.2 ∙ of.same_number)))

-- ---- one file more

-- The files of these namings, opened.
pub record Opened (files : List NumberedFile) (namings : List (ℕ × ℕ)) : Type 0 where
  pub ascends : IsStrictlyIncreasing (numbers_of files)
  pub named : (n : ℕ) → list_any (nat_eq n) (numbers_of files) ≡ list_any (λ naming. nat_eq n naming.0) namings
  pub fits : FitNamings files namings

all_map : {X : Type 0} (P Q : X → Type 0) (xs : List X) → ((x : X) → P x → Q x) → AllByRecursion P xs → AllByRecursion Q xs
all_map P Q [] step all = tt
all_map P Q (x ∷ xs) step all = (step x all.0, all_map P Q xs step all.1)

increasing_push : (xs : List ℕ) (n : ℕ) → IsStrictlyIncreasing xs → All (λ x. x < n) xs → IsStrictlyIncreasing (xs ++ n ∷ [])
increasing_push xs n up below k within = ⊎_elim
    (λ lt. omega (arith, up k lt, get_or_append_left xs (n ∷ []) 0 k (omega (arith, lt)), get_or_append_left xs (n ∷ []) 0 (k + 1) lt))
    (λ ge. let last : length xs ≡ k + 1 = omega (arith, ge, within, length_push xs n) in omega (arith, below k 0 (omega (arith, last)), get_or_append_left xs (n ∷ []) 0 k (omega (arith, last)), get_or_push xs n 0 (k + 1) last))
    (cases_lt (k + 1) (length xs))

any_below : (rows : List (ℕ × ℕ)) (n m : ℕ) → AllByRecursion (λ r. r.0 ≤ n) rows → list_any (λ r. nat_eq m r.0) rows ≡ true → m ≤ n
any_below [] n m all some = absurd (true≢false (sym some))
any_below (r ∷ rows) n m all some = ⊎_elim
    (λ h. omega (arith, h.1, all.0))
    (λ h. any_below rows n m all.1 (sym (ap (λ (b : Bool). b || list_any (λ q. nat_eq m q.0) rows) h.0) ∙ some))
    (eqb_tells m r.0)

or_none : (a b c : Bool) → c ≡ false → a ≡ b → a ≡ (b || (c || false))
or_none a true c none same = same
or_none a false c none same = same ∙ sym (ap (λ (t : Bool). t || false) none)

absent : (xs : List NumberedFile) (n : ℕ) → list_any (nat_eq n) (numbers_of xs) ≡ false → AllByRecursion (λ f. f.number ≢ n) xs
absent [] n none = tt
absent (f ∷ xs) n none = ⊎_elim
    (λ h. absurd (true≢false (sym (ap (λ (b : Bool). b || list_any (nat_eq n) (numbers_of xs)) h.0) ∙ none)))
    (λ h. (λ e. h.1 (sym e), absent xs n (sym (ap (λ (b : Bool). b || list_any (nat_eq n) (numbers_of xs)) h.0) ∙ none)))
    (eqb_tells n f.number)

not_named : (rows : List (ℕ × ℕ)) (n : ℕ) → list_any (λ r. nat_eq n r.0) rows ≡ false → AllByRecursion (λ r. n ≢ r.0) rows
not_named [] n none = tt
not_named (r ∷ rows) n none = ⊎_elim
    (λ h. absurd (true≢false (sym (ap (λ (b : Bool). b || list_any (λ q. nat_eq n q.0) rows) h.0) ∙ none)))
    (λ h. (h.1, not_named rows n (sym (ap (λ (b : Bool). b || list_any (λ q. nat_eq n q.0) rows) h.0) ∙ none)))
    (eqb_tells n r.0)

pub opened_more : (old new : List NumberedFile) (rows : List (ℕ × ℕ)) (n p : ℕ) → AllByRecursion (λ r. r.0 ≤ n) rows → Opened old rows → Takes old n p new → Opened new (rows ++ (n, p) ∷ [])
opened_more old new rows n p below opened (inl h) = subst (λ (fs : List NumberedFile). Opened fs (rows ++ (n, p) ∷ [])) (sym h.3) (record {
  ascends = opened.ascends;
  named = λ m. ⊎_elim
      (λ e. subst (λ (k : ℕ). list_any (nat_eq k) (numbers_of old) ≡ true) (sym e.1) (found_any old n h.0 h.1)
      ∙ sym (list_any-append (λ r. nat_eq m r.0) rows ((n, p) ∷ []) ∙ ap (λ (b : Bool). list_any (λ r. nat_eq m r.0) rows || (b || false)) e.0 ∙ or-true _))
      (λ e. or_none _ _ _ e.0 (opened.named m) ∙ sym (list_any-append (λ r. nat_eq m r.0) rows ((n, p) ∷ [])))
      (eqb_tells m n);
  fits = all_push (λ naming. AllByRecursion (λ file. file.number ≡ naming.0 → file.index.memory ≤ naming.1) old) rows (n, p) opened.fits
      (all_map (λ f. f.number ≡ n → f ≡ h.0) (λ f. f.number ≡ n → f.index.memory ≤ p) old (λ f only at. omega (arith, ap (λ (f : NumberedFile). f.index.memory) (only at), h.2)) h.1.only);
})
opened_more old new rows n p below opened (inr h) = subst (λ (fs : List NumberedFile). Opened fs (rows ++ (n, p) ∷ [])) (sym h.4) (record {
  ascends = subst IsStrictlyIncreasing (sym numbers_now) (increasing_push (numbers_of old) n opened.ascends under);
  named = λ m. ap (list_any (nat_eq m)) numbers_now ∙ list_any-append (nat_eq m) (numbers_of old) (n ∷ []) ∙ ap (λ (b : Bool). b || (nat_eq m n || false)) (opened.named m) ∙ sym (list_any-append (λ r. nat_eq m r.0) rows ((n, p) ∷ []));
  fits = all_push (λ naming. AllByRecursion (λ file. file.number ≡ naming.0 → file.index.memory ≤ naming.1) (old ++ h.0 ∷ [])) rows (n, p)
      (fits_before rows (not_named rows n (sym (opened.named n) ∙ h.3)) opened.fits)
      (all_push (λ file. file.number ≡ n → file.index.memory ≤ p) old h.0 (all_map (λ f. f.number ≢ n) (λ f. f.number ≡ n → f.index.memory ≤ p) old (λ f not at. absurd (not at)) (absent old n h.3)) (λ at. h.2));
})
  where
    numbers_now : numbers_of (old ++ h.0 ∷ []) ≡ numbers_of old ++ n ∷ []
    numbers_now = map-append (λ (f : NumberedFile). f.number) old (h.0 ∷ []) ∙ ap (λ (m : ℕ). numbers_of old ++ m ∷ []) h.1

    under : All (λ m. m < n) (numbers_of old)
    under k d lt =
        let m = get_or (numbers_of old) k d in
        let some : list_any (nat_eq m) (numbers_of old) ≡ true = list_any_at (nat_eq m) (numbers_of old) k d lt (same_true m m refl) in
        let le : m ≤ n = any_below rows n m below (sym (opened.named m) ∙ some) in
        ⊎_elim (λ l. l) (λ ge. let e : m ≡ n = omega (arith, le, ge) in absurd (true≢false (sym some ∙ ap (λ (j : ℕ). list_any (nat_eq j) (numbers_of old)) e ∙ h.3))) (cases_lt m n)

    fits_before : (rs : List (ℕ × ℕ)) → AllByRecursion (λ r. n ≢ r.0) rs → FitNamings old rs → FitNamings (old ++ h.0 ∷ []) rs
    fits_before [] not fits = tt
    fits_before (r ∷ rs) not fits = (all_push (λ file. file.number ≡ r.0 → file.index.memory ≤ r.1) old h.0 fits.0 (λ at. absurd (not.0 (sym h.1 ∙ at))), fits_before rs not.1 fits.1)

-- ---- one page file

bad_inside : (e : PageError) (n : ℕ) → page_error e ≡ BadPage n → e ≡ errors.BadPage n
bad_inside (errors.BadPage m) n is = let e : m ≡ n = cc in ap (λ (k : ℕ). errors.BadPage k) e
bad_inside errors.Fault n is = absurd (cc)
bad_inside errors.Memory n is = absurd (cc)

pub error_inside : {T E : Type 0} (a b : E) → ◌≡◌ {A = Result T E} (Err a) (Err b) → a ≡ b
error_inside a b e = cc

pub page_handed_on : {T : Type 0} (U : Type 0) (result : Result T StoreError) (x : StoreError) (e : PageError) (n : ℕ) → result ≡ Err x → x ≡ page_error e → IsErrOf result (BadPage n) → IsErrOf {T = U} (Err e) (errors.BadPage n)
page_handed_on U result x e n is from err = ap {B = Result U PageError} (λ (d : PageError). Err d) (bad_inside e n (sym from ∙ error_inside x (BadPage n) (sym is ∙ err)))

pub not_there : (files : Files) (n pages : ℕ) → IsBadPage files n → IsGoodNaming files (n, pages) → ⊥
not_there files n pages bad good = bad good.0 good.1 good.2

-- a page file with too many memory pages
pub too_many : (files : Files) (n pages : ℕ) (file : NumberedFile) → file.number ≡ n → IsAsKnown files file → pages < file.index.memory → IsGoodNaming files (n, pages) → ⊥
too_many files n pages file is kept more good =
    let same = only_index files n file.number file.index good.0 good.1 is kept good.2 in
    omega (arith, more, good.3, ap (λ (i : PageIndex). i.memory) same)

pub refused : {T : Type 0} (result : Result T PageError) (number n pages memory : ℕ) → IfErr result (λ e. (e ≡ errors.BadPage number) × (pages < memory)) → IsErrOf result (errors.BadPage n) → pages < memory
refused (Ok x) number n pages memory h is = absurd (cc)
refused (Err e) number n pages memory h is = h.1

-- an error of a page file is one of the store, for the same reason
pub page_refused : {D S T : Type 0} (disk : Ghosts D) (result : Result S PageError) (failed : Result T StoreError) (e : PageError) (old mid new : D) → IsErrAnd failed (λ x. x ≡ page_error e) → result ≡ Err e → disk.faults old ≤ disk.faults mid
    → FailsFor disk of_page IsBadPageFile mid new result → FailsFor disk disk_error IsBadFile old new failed
page_refused disk result (Ok x) e old mid new is was le fails = absurd is
page_refused disk result (Err x) e old mid new is was le fails = record {
  never_falls = omega (arith, fails.never_falls);
  fault = λ fault. omega (arith, fails.fault (was ∙ ap Err (faulty e (sym is ∙ error_inside x Fault fault))));
  only = subst (λ d. IsOfDisk disk_error d ⊎ IsBadFile d) (sym is) (by e);
}
  where
    faulty : (e : PageError) → page_error e ≡ Fault → e ≡ errors.Fault
    faulty (errors.BadPage n) is = absurd cc
    faulty errors.Fault is = refl
    faulty errors.Memory is = absurd cc

    by : (e : PageError) → IsOfDisk disk_error (page_error e) ⊎ IsBadFile (page_error e)
    by (errors.BadPage n) = inr tt
    by errors.Fault = inl (disks.Fault, refl)
    by errors.Memory = inl (disks.Memory, refl)

-- which page file is absent or bad
pub named_by : (e : PageError) (n number : ℕ) → e ≡ errors.BadPage n → IsOfDisk of_page e ⊎ OnlyIf (errors.BadPage number) ⊤ e → n ≡ number
named_by e n number is (inl (disks.Fault, from)) = absurd cc
named_by e n number is (inl (disks.Memory, from)) = absurd cc
named_by e n number is (inr why) = let at = why.0 in cc

pub kept_of : (files : Files) (xs : List NumberedFile) (n : ℕ) (file : NumberedFile) → AllByRecursion (IsAsKnown files) xs → IsFileOf xs n file → IsAsKnown files file
kept_of files xs n file all of = All-contains (IsAsKnown files) xs file (All-from_recursion (IsAsKnown files) xs all) of.there

pub on_ok : {T E : Type 0} (result : Result T E) (P : Type 0) → P → OnOk result P
on_ok (Ok x) P h = h
on_ok (Err e) P h = tt
