-- Each call of a store has one answer.
use Rattle.std.proofs.Common.{◌≡◌, ◌⊎◌, ℕ, ◌<◌, ◌≤◌, Bool, true, false, if◌then◌else◌, List, [], ◌∷◌, ◌++◌, length, map, get_or, nat_eq, Some, None, is_some, slice_get, IsSomeAnd, Result, Ok, Err, inl, inr, refl, sym, ◌∙◌, ap, subst, arith, length-append}
use Rattle.std.specs.List.{AllByRecursion, list_any}
use Rattle.std.specs.List.Sorted.{IsStrictlyIncreasing}
use Rattle.std.proofs.lemmas.Bool.{cases_Bool, cases_lt, false≢true}
use Rattle.std.proofs.lemmas.List.{length-map, get_or_default}
use Rattle.std.proofs.lemmas.Option.{slice_get-get_or, slice_get_within}
use Rattle.std.proofs.lemmas.Slice.Zip.{AllZip-long}
use Rattle.format_spec.specs.Bytes.{Bytes}
use Rattle.format_spec.specs.declared.limits.TheConstants.{MAX_PUBLISHED}
use Rattle.format_spec.proofs.Cuts.{heads}
use Rattle.state_spec.specs.State.{SystemPart}
use Rattle.state_spec.specs.Files.{memories_in}
use Rattle.sys_state.specs.System.{part_of}
use Rattle.store_spec.specs.Mark.{Mark, MarkMemory, IsMark, mark_text}
use Rattle.store_spec.proofs.Images.{listing_once}
use Rattle.store_spec.proofs.Marks.{mark_once}
use Rattle.disk_model.specs.declared.name.Kind.TheVariants as kind
use Rattle.disk_model.specs.declared.name.Name.TheVariants as name
use Rattle.disk_model.specs.Files.{Files}
use Rattle.page_file.specs.Files.{NumberedFile, IsAsKnown}
use Rattle.page_file.proofs.Unique.{same_file}
use Rattle.layer_stack.specs.Laws.{kept_have_layers}
use Rattle.mark_file.proofs.Once.{one_system}
use Rattle.height_store.specs.declared.error.StoreError.{StoreError}
use Rattle.height_store.specs.declared.error.StoreError.TheVariants as errors
use Rattle.height_store.specs.Answers.{OpensAs, Purges, ReadsAs, RangeIs}
use Rattle.height_store.specs.Bad.{SpellsMark, HasGoodMark, IsFirstBadMark, IsFirstBadPage, IsGoodNaming, namings}
use Rattle.height_store.specs.Errors.{IsAnswered, not_a_file, not_a_height}
use Rattle.height_store.specs.Kept.{HasMark, HasStacks, IsReadable}
use Rattle.height_store.specs.Refused.{at_split, bad_mark_refused, bad_page_refused}
use Rattle.height_store.specs.Standing.{some_is}
use Rattle.height_store.specs.Store.{Store, StoredHeight, IsHeight, FitsPages, Gains, IsNextFree, heights_in, height_at, numbers_of, is_named, is_newest}
use Rattle.height_store.specs.Laws.{stacks_found}
use Rattle.height_store.proofs.Heights.{has_stack, some_there, stack_kept}
use Rattle.height_store.proofs.Parts.{parts_are_one}

-- ---- heights by their marks

one_height : (h k : StoredHeight) → h.mark ≡ k.mark → h.stacks ≡ k.stacks → IsHeight h → IsHeight k → h ≡ k
one_height h k mark stacks good other =
    let parts = parts_are_one h.mark (part_of h.system) (part_of k.system) good.parts.mark (subst (λ (m : Mark). IsMark m (part_of k.system)) (sym mark) other.parts.mark) in
    let system = one_system h.mark.height h.system k.system parts good.births (subst (λ (m : Mark). AllByRecursion (λ c. c.1.birth ≡ m.height) k.system.canisters) (sym mark) other.births) in
    λ i. record { mark = mark i; system = system i; stacks = stacks i }

pub gains_once : (old : Store) (m : Mark) (files : List (List NumberedFile)) (one other : Store) → Gains old m files one → Gains old m files other → one ≡ other
gains_once old m files one other a b =
    let same = one_height a.height b.height (a.mark ∙ sym b.mark) (a.stacks ∙ sym b.stacks) a.good b.good in
    a.store ∙ ap (λ (h : StoredHeight). record old { heights = old.heights ++ h ∷ [] }) same ∙ sym b.store

module _ (files : Files) where
  same_mark : (m n : Mark) (s t : SystemPart) → m.height ≡ n.height → files (name.Mark m.height) ≡ Some (mark_text m) → files (name.Mark n.height) ≡ Some (mark_text n) → IsMark m s → IsMark n t → (m ≡ n) × (s ≡ t)
  same_mark m n s t height there other good good' =
      let text : mark_text m ≡ mark_text n = some_is (mark_text m) (mark_text n) (sym there ∙ ap (λ (k : ℕ). files (name.Mark k)) height ∙ other) in
      mark_once m.height n.height (mark_text m) m n s t (record { spelled = refl; good = good; of_height = refl }) (record { spelled = text; good = good'; of_height = refl })

  same_stack : (xs ys : List NumberedFile) → numbers_of xs ≡ numbers_of ys → AllByRecursion (IsAsKnown files) xs → AllByRecursion (IsAsKnown files) ys → xs ≡ ys
  same_stack [] [] same kept other = refl
  same_stack [] (y ∷ ys) same kept other = absurd cc
  same_stack (x ∷ xs) [] same kept other = absurd cc
  same_stack (x ∷ xs) (y ∷ ys) same kept other =
      let parts = heads x.number y.number (numbers_of xs) (numbers_of ys) same in
      λ i. same_file files x.number x y refl (sym parts.0) kept.0 other.0 i ∷ same_stack xs ys parts.1 kept.1 other.1 i

  same_stacks : (xs ys : List (List NumberedFile)) → map numbers_of xs ≡ map numbers_of ys → AllByRecursion (AllByRecursion (IsAsKnown files)) xs → AllByRecursion (AllByRecursion (IsAsKnown files)) ys → xs ≡ ys
  same_stacks [] [] same kept other = refl
  same_stacks [] (y ∷ ys) same kept other = absurd cc
  same_stacks (x ∷ xs) [] same kept other = absurd cc
  same_stacks (x ∷ xs) (y ∷ ys) same kept other =
      let parts = heads (numbers_of x) (numbers_of y) (map numbers_of xs) (map numbers_of ys) same in
      λ i. same_stack x y parts.0 kept.0 other.0 i ∷ same_stacks xs ys parts.1 kept.1 other.1 i

  same_height : (h k : StoredHeight) → h.mark.height ≡ k.mark.height → IsHeight h → IsHeight k → HasMark files h → HasMark files k → HasStacks files h → HasStacks files k → h ≡ k
  same_height h k height good good' there other kept kept' =
      let mark = (same_mark h.mark k.mark (part_of h.system) (part_of k.system) height there other good.parts.mark good'.parts.mark).0 in
      let numbers = good.parts.numbers ∙ ap (λ (m : Mark). map (λ (e : MarkMemory). e.layers) m.memories) mark ∙ sym good'.parts.numbers in
      one_height h k mark (same_stacks h.stacks k.stacks numbers kept kept') good good'

  same_heights : (hs ks : List StoredHeight) → heights_in hs ≡ heights_in ks → AllByRecursion IsHeight hs → AllByRecursion IsHeight ks → AllByRecursion (HasMark files) hs → AllByRecursion (HasMark files) ks → AllByRecursion (HasStacks files) hs
      → AllByRecursion (HasStacks files) ks → hs ≡ ks
  same_heights [] [] same good good' there there' kept kept' = refl
  same_heights [] (k ∷ ks) same good good' there there' kept kept' = absurd cc
  same_heights (h ∷ hs) [] same good good' there there' kept kept' = absurd cc
  same_heights (h ∷ hs) (k ∷ ks) same good good' there there' kept kept' =
      let parts = heads h.mark.height k.mark.height (heights_in hs) (heights_in ks) same in
      λ i. same_height h k parts.0 good.0 good'.0 there.0 there'.0 kept.0 kept'.0 i ∷ same_heights hs ks parts.1 good.1 good'.1 there.1 there'.1 kept.1 kept'.1 i

-- ---- numbers that ascend, by which they are

-- files whose marks have these numbers
abbrev marks_of : List ℕ → Files
marks_of xs (name.Mark n) = if list_any (nat_eq n) xs then Some [] else None
marks_of xs (name.Page n) = None
marks_of xs (name.Draft n) = None
marks_of xs (name.Stage n) = None

given : (b : Bool) → b ≡ is_some (if b then Some (let nil : Bytes = [] in nil) else None)
given true = refl
given false = refl

same_numbers : (xs ys : List ℕ) → IsStrictlyIncreasing xs → IsStrictlyIncreasing ys → ((n : ℕ) → list_any (nat_eq n) xs ≡ list_any (nat_eq n) ys) → xs ≡ ys
same_numbers xs ys ascends ascends' same = listing_once kind.Mark (marks_of xs) xs ys
    (record { ascending = ascends; each = λ n. given (list_any (nat_eq n) xs) }) (record { ascending = ascends'; each = λ n. sym (same n) ∙ given (list_any (nat_eq n) xs) })

-- ---- the first bad mark

-- one of the places is behind the other, or they are one
abbrev Behind : List ℕ → ℕ → List ℕ → Type 0
Behind before n later = (between : List ℕ) × (later ≡ before ++ n ∷ between)

two_places : (xs ys : List ℕ) (n k : ℕ) (rest others : List ℕ) → xs ++ n ∷ rest ≡ ys ++ k ∷ others → (n ≡ k) ⊎ (Behind xs n ys ⊎ Behind ys k xs)
two_places [] [] n k rest others same = inl (heads n k rest others same).0
two_places [] (y ∷ ys) n k rest others same = let first = (heads n y rest (ys ++ k ∷ others) same).0 in inr (inl (ys, λ i. sym first i ∷ ys))
two_places (x ∷ xs) [] n k rest others same = let first = (heads x k (xs ++ n ∷ rest) others same).0 in inr (inr (xs, λ i. first i ∷ xs))
two_places (x ∷ xs) (y ∷ ys) n k rest others same = by (two_places xs ys n k rest others parts.1)
  where
    parts : (x ≡ y) × (xs ++ n ∷ rest ≡ ys ++ k ∷ others)
    parts = heads x y (xs ++ n ∷ rest) (ys ++ k ∷ others) same

    by : (n ≡ k) ⊎ (Behind xs n ys ⊎ Behind ys k xs) → (n ≡ k) ⊎ (Behind (x ∷ xs) n (y ∷ ys) ⊎ Behind (y ∷ ys) k (x ∷ xs))
    by (inl e) = inl e
    by (inr (inl later)) = inr (inl (later.0, λ i. sym parts.0 i ∷ later.1 i))
    by (inr (inr later)) = inr (inr (later.0, λ i. parts.0 i ∷ later.1 i))

module _ (files : Files) where
  -- a mark before the first bad one isn't bad
  not_behind : (n k : ℕ) (a : IsFirstBadMark files n) (b : IsFirstBadMark files k) → Behind a.before n b.before → ⊥
  not_behind n k a b behind = by a.bad
    where
      by : (length a.before ≡ MAX_PUBLISHED) ⊎ (HasGoodMark files n → ⊥) → ⊥
      by (inl full) = absurd (omega (arith, full, b.few, ap length behind.1, length-append a.before (n ∷ behind.0)))
      by (inr bad) = bad (at_split (HasGoodMark files) a.before n behind.0 (subst (AllByRecursion (HasGoodMark files)) behind.1 b.good))

  bad_mark_once : (n k : ℕ) → IsFirstBadMark files n → IsFirstBadMark files k → n ≡ k
  bad_mark_once n k a b = by (two_places a.before b.before n k a.after b.after (listing_once kind.Mark files (a.before ++ n ∷ a.after) (b.before ++ k ∷ b.after) a.listed b.listed))
    where
      by : (n ≡ k) ⊎ (Behind a.before n b.before ⊎ Behind b.before k a.before) → n ≡ k
      by (inl e) = e
      by (inr (inl behind)) = absurd (not_behind n k a b behind)
      by (inr (inr behind)) = absurd (not_behind k n b a behind)

  -- ---- the first bad page file

  all_good : (ms : List (Mark × SystemPart)) → AllByRecursion (λ m. SpellsMark files m.0.height m.0 m.1) ms → AllByRecursion (HasGoodMark files) (map (λ m. m.0.height) ms)
  all_good [] spelled = tt
  all_good (m ∷ ms) spelled = ((m.0, m.1, spelled.0), all_good ms spelled.1)

  -- where there is one, no mark is bad
  no_bad_mark : (n k : ℕ) → IsFirstBadMark files n → IsFirstBadPage files k → ⊥
  no_bad_mark n k a b = by a.bad
    where
      heights : List ℕ
      heights = map (λ m. m.0.height) b.marks

      same : a.before ++ n ∷ a.after ≡ heights
      same = listing_once kind.Mark files (a.before ++ n ∷ a.after) heights a.listed b.good_marks.listed

      by : (length a.before ≡ MAX_PUBLISHED) ⊎ (HasGoodMark files n → ⊥) → ⊥
      by (inl full) = absurd (omega (arith, full, b.good_marks.few, ap length same, length-append a.before (n ∷ a.after), length-map b.marks (λ (m : Mark × SystemPart). m.0.height)))
      by (inr bad) = bad (at_split (HasGoodMark files) a.before n a.after (subst (AllByRecursion (HasGoodMark files)) (sym same) (all_good b.marks b.good_marks.spelled)))

  same_marks : (ms ns : List (Mark × SystemPart)) → map (λ m. m.0.height) ms ≡ map (λ m. m.0.height) ns → AllByRecursion (λ m. SpellsMark files m.0.height m.0 m.1) ms → AllByRecursion (λ m. SpellsMark files m.0.height m.0 m.1) ns → ms ≡ ns
  same_marks [] [] same spelled other = refl
  same_marks [] (n ∷ ns) same spelled other = absurd cc
  same_marks (m ∷ ms) [] same spelled other = absurd cc
  same_marks (m ∷ ms) (n ∷ ns) same spelled other =
      let parts = heads m.0.height n.0.height (map (λ e. e.0.height) ms) (map (λ e. e.0.height) ns) same in
      let one = same_mark files m.0 n.0 m.1 n.1 parts.0 (spelled.0.there ∙ ap Some spelled.0.spelled.spelled) (other.0.there ∙ ap Some other.0.spelled.spelled) spelled.0.spelled.good other.0.spelled.good in
      λ i. (one.0 i, one.1 i) ∷ same_marks ms ns parts.1 spelled.1 other.1 i

  not_lower : (n k : ℕ) (a : IsFirstBadPage files n) (b : IsFirstBadPage files k) → n < k → ⊥
  not_lower n k a b lt =
      let marks = same_marks a.marks b.marks (listing_once kind.Mark files (map (λ m. m.0.height) a.marks) (map (λ m. m.0.height) b.marks) a.good_marks.listed b.good_marks.listed) a.good_marks.spelled b.good_marks.spelled in
      let P = λ (naming : ℕ × ℕ). naming.0 < k → IsGoodNaming files naming in
      let all : AllByRecursion P (a.before ++ (n, a.pages) ∷ a.after) = subst (AllByRecursion P) (ap namings (sym marks) ∙ a.named) b.first in
      a.bad (at_split P a.before (n, a.pages) a.after all lt)

  bad_page_once : (n k : ℕ) → IsFirstBadPage files n → IsFirstBadPage files k → n ≡ k
  bad_page_once n k a b = by (cases_lt n k) (cases_lt k n)
    where
      by : (n < k) ⊎ (k ≤ n) → (k < n) ⊎ (n ≤ k) → n ≡ k
      by (inl lt) c = absurd (not_lower n k a b lt)
      by (inr le) (inl lt) = absurd (not_lower k n b a lt)
      by (inr le) (inr ge) = omega (arith, le, ge)

  -- ---- opening

  same_store : (one other : Store) → OpensAs files (Ok one) → OpensAs files (Ok other) → one ≡ other
  same_store one other a b =
      let heights = same_heights files one.heights other.heights (listing_once kind.Mark files (heights_in one.heights) (heights_in other.heights) a.found.listed b.found.listed) a.good b.good a.found.marks b.found.marks a.found.stacks b.found.stacks in
      let named = same_numbers one.named other.named a.named_ascends b.named_ascends (λ n. a.named n ∙ ap (λ (hs : List StoredHeight). is_named hs n) heights ∙ sym (b.named n)) in
      λ i. record { heights = heights i; named = named i; numbers_given = (a.next.0 ∙ sym b.next.0) i; least_free = (a.next.1 ∙ sym b.next.1) i }

  pub opened_once : (one other : Result Store StoreError) → OpensAs files one → OpensAs files other → IsAnswered one → IsAnswered other → one ≡ other
  opened_once (Err errors.Fault) other a b told _ = absurd told
  opened_once (Err errors.Memory) other a b told _ = absurd told
  opened_once (Err errors.NoHeight) other a b _ _ = absurd (not_a_file errors.NoHeight tt a.only)
  opened_once (Err errors.LastHeight) other a b _ _ = absurd (not_a_file errors.LastHeight tt a.only)
  opened_once (Ok s) (Ok t) a b _ _ = ap Ok (same_store s t a b)
  opened_once (Ok s) (Err (errors.BadMark k)) a b _ _ = absurd (bad_mark_refused files k (b.bad_mark k refl) a.opens)
  opened_once (Ok s) (Err (errors.BadPage k)) a b _ _ = absurd (bad_page_refused files k (b.bad_page k refl) a.opens)
  opened_once (Ok s) (Err errors.NoHeight) a b _ _ = absurd (not_a_file errors.NoHeight tt b.only)
  opened_once (Ok s) (Err errors.LastHeight) a b _ _ = absurd (not_a_file errors.LastHeight tt b.only)
  opened_once (Ok s) (Err errors.Fault) a b _ told = absurd told
  opened_once (Ok s) (Err errors.Memory) a b _ told = absurd told
  opened_once (Err (errors.BadMark n)) (Ok t) a b _ _ = absurd (bad_mark_refused files n (a.bad_mark n refl) b.opens)
  opened_once (Err (errors.BadMark n)) (Err (errors.BadMark k)) a b _ _ = ap (λ (h : ℕ). Err (errors.BadMark h)) (bad_mark_once n k (a.bad_mark n refl) (b.bad_mark k refl))
  opened_once (Err (errors.BadMark n)) (Err (errors.BadPage k)) a b _ _ = absurd (no_bad_mark n k (a.bad_mark n refl) (b.bad_page k refl))
  opened_once (Err (errors.BadMark n)) (Err errors.NoHeight) a b _ _ = absurd (not_a_file errors.NoHeight tt b.only)
  opened_once (Err (errors.BadMark n)) (Err errors.LastHeight) a b _ _ = absurd (not_a_file errors.LastHeight tt b.only)
  opened_once (Err (errors.BadMark n)) (Err errors.Fault) a b _ told = absurd told
  opened_once (Err (errors.BadMark n)) (Err errors.Memory) a b _ told = absurd told
  opened_once (Err (errors.BadPage n)) (Ok t) a b _ _ = absurd (bad_page_refused files n (a.bad_page n refl) b.opens)
  opened_once (Err (errors.BadPage n)) (Err (errors.BadMark k)) a b _ _ = absurd (no_bad_mark k n (b.bad_mark k refl) (a.bad_page n refl))
  opened_once (Err (errors.BadPage n)) (Err (errors.BadPage k)) a b _ _ = ap (λ (h : ℕ). Err (errors.BadPage h)) (bad_page_once n k (a.bad_page n refl) (b.bad_page k refl))
  opened_once (Err (errors.BadPage n)) (Err errors.NoHeight) a b _ _ = absurd (not_a_file errors.NoHeight tt b.only)
  opened_once (Err (errors.BadPage n)) (Err errors.LastHeight) a b _ _ = absurd (not_a_file errors.LastHeight tt b.only)
  opened_once (Err (errors.BadPage n)) (Err errors.Fault) a b _ told = absurd told
  opened_once (Err (errors.BadPage n)) (Err errors.Memory) a b _ told = absurd told

-- ---- the other calls

pub next_once : (named : List ℕ) (from n k : ℕ) → IsNextFree named from n → IsNextFree named from k → n ≡ k
next_once named from n k a b = by (cases_lt n k) (cases_lt k n)
  where
    by : (n < k) ⊎ (k ≤ n) → (k < n) ⊎ (n ≤ k) → n ≡ k
    by (inl lt) c = absurd (false≢true (sym a.free ∙ b.least n a.not_before lt))
    by (inr le) (inl lt) = absurd (false≢true (sym b.free ∙ a.least k b.not_before lt))
    by (inr le) (inr ge) = omega (arith, le, ge)

module _ (hs : List StoredHeight) (height : ℕ) where
  -- what a purge answers
  abbrev answer : Result (Unit {0}) StoreError
  answer = if is_newest hs height then Err errors.LastHeight else if is_some (height_at hs height) then Ok tt else Err errors.NoHeight

  purge_is : (result : Result (Unit {0}) StoreError) → Purges hs height result → IsAnswered result → result ≡ answer
  purge_is (Ok x) a _ = elim (cases_Bool (is_newest hs height)) [
    | inl newest ↦ absurd (let e = a.last_height.1 newest in cc)
    | inr older ↦ elim (cases_Bool (is_some (height_at hs height))) [
      | inl there ↦ rw (older, there) refl
      | inr absent ↦ absurd (let e = a.no_height.1 absent in cc)
    ]
  ]
  purge_is (Err errors.NoHeight) a _ = elim (cases_Bool (is_newest hs height)) [
    | inl newest ↦ absurd (let e = a.last_height.1 newest in cc)
    | inr older ↦ rw (older, a.no_height.0 refl) refl
  ]
  purge_is (Err errors.LastHeight) a _ = rw (a.last_height.0 refl) refl
  purge_is (Err (errors.BadMark n)) a _ = absurd (not_a_height (errors.BadMark n) tt a.only)
  purge_is (Err (errors.BadPage n)) a _ = absurd (not_a_height (errors.BadPage n) tt a.only)
  purge_is (Err errors.Fault) a told = absurd told
  purge_is (Err errors.Memory) a told = absurd told

  pub purged_once : (one other : Result (Unit {0}) StoreError) → Purges hs height one → Purges hs height other → IsAnswered one → IsAnswered other → one ≡ other
  purged_once one other a b told told' = purge_is one a told ∙ sym (purge_is other b told')

pub page_once : (files : Files) (hs : List StoredHeight) (height place page : ℕ) (h : StoredHeight) (one other : Bytes) → IsReadable hs files → IsHeight h → height_at hs height ≡ Some h
    → IsSomeAnd (slice_get (memories_in (part_of h.system)) place) (λ m. page < m.1) → ReadsAs files hs height place page one → ReadsAs files hs height place page other → one ≡ other
page_once files hs height place page h one other readable good found within a b =
    let lt = has_stack h h place refl good (some_there _ _ within) in
    let stack : List NumberedFile = get_or h.stacks place [] in
    let there = slice_get-get_or h.stacks place [] lt in
    let kept = stack_kept files h h place stack refl (stacks_found files hs height h (sym found) readable) lt (get_or_default h.stacks place [] stack lt) in
    let layers = kept_have_layers files stack kept in
    a h found stack layers.0 there layers.1 ∙ sym (b h found stack layers.0 there layers.1)

pub range_once : (files : Files) (h : StoredHeight) (place offset len : ℕ) (m : Bytes × ℕ) (one other : Bytes) → HasStacks files h → IsHeight h
    → slice_get (memories_in (part_of h.system)) place ≡ Some m → RangeIs files h place offset len one → RangeIs files h place offset len other → one ≡ other
range_once files h place offset len m one other has good memory a b =
    let lt : place < length h.stacks = omega (arith, slice_get_within (memories_in (part_of h.system)) place m memory, AllZip-long FitsPages h.stacks (memories_in (part_of h.system)) good.parts.fits) in
    let stack : List NumberedFile = get_or h.stacks place [] in
    let there = slice_get-get_or h.stacks place [] lt in
    let kept = stack_kept files h h place stack refl has lt (get_or_default h.stacks place [] stack lt) in
    let layers = kept_have_layers files stack kept in
    a m stack layers.0 memory there layers.1 ∙ sym (b m stack layers.0 memory there layers.1)
