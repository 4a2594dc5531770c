-- One height less.
use Rattle.std.proofs.Common.{◌≡◌, ℕ, suc, ◌-◌, ◌≤◌, ◌<◌, Bool, true, false, ◌||◌, not, List, [], ◌∷◌, length, filter, get_or, cond, nat_eq, ◌==◌, is_some, Some, None, Result, Ok, Err, refl, inl, inr, sym, ◌∙◌, ap, subst, arith}
use Rattle.std.specs.List.{AllByRecursion, AllZip, list_any}
use Rattle.std.specs.Result.{IsErrAnd}
use Rattle.std.specs.List.Sorted.{IsStrictlyIncreasing}
use Rattle.std.proofs.lemmas.Bool.{cases_Bool, false≢true}
use Rattle.std.proofs.lemmas.Bool.Decides.{nat_tests}
use Rattle.std.proofs.lemmas.List.Filters.{length-filter_both}
use Rattle.std.proofs.lemmas.List.Kept.{IsStrictlyIncreasing-filter}
use Rattle.store_spec.specs.Image.{Published, without_published}
use Rattle.disk_model.specs.declared.disk.DiskError.{DiskError}
use Rattle.disk_model.specs.declared.disk.DiskError.TheVariants as disk
use Rattle.disk_model.specs.declared.name.Kind.TheVariants as kind
use Rattle.disk_model.specs.declared.name.Name.{Name}
use Rattle.disk_model.specs.declared.name.Name.TheVariants as name
use Rattle.disk_model.specs.Files.{Files, IsListing, same_name}
use Rattle.disk_model.specs.State.{DiskState, IsSettled}
use Rattle.disk_model.specs.Call.{remove, without, under_way}
use Rattle.disk_model.specs.View.{DiskView, EachImage, LeavesOnly, Done, Does}
use Rattle.disk_model.specs.Laws.{IsSound, remove_images}
use Rattle.disk_model.specs.Moments.{one_call, at_start}
use Rattle.disk_model.specs.Frame.{done_settles}
use Rattle.height_store.specs.declared.error.StoreError.{StoreError}
use Rattle.height_store.specs.declared.error.StoreError.TheVariants.{LastHeight}
use Rattle.height_store.specs.Errors.{disk_error}
use Rattle.height_store.specs.Store.{Store, StoredHeight, IsStore, heights_in, height_at, is_newest, without_height, mark_names, is_named, is_needed}
use Rattle.height_store.specs.Kept.{IsReadable, IsWritable, HasMark, HasStacks, ShowsHeight, ShowsHeights, KeepsHeights, StandsForEither}
use Rattle.height_store.specs.Laws.{kept_stands, shown_stands, shown_depends, settled_keeps}
use Rattle.height_store.specs.Shown.{or_left, or_right}
use Rattle.height_store.proofs.Carried.{height_carried, stacks_carried}

-- ---- numbers but for one

abbrev pub is_other : ℕ → ℕ → Bool
is_other height n = not (n == height)

numbers_without : (height : ℕ) (hs : List StoredHeight) → heights_in (without_height hs height) ≡ filter (is_other height) (heights_in hs)
numbers_without height [] = refl
numbers_without height (h ∷ hs) = elim (cases_Bool (h.mark.height == height)) [
  | inl same ↦ rw same (numbers_without height hs)
  | inr other ↦ rw other (ap (λ (l : List ℕ). h.mark.height ∷ l) (numbers_without height hs))
]

none_left : (height k : ℕ) (ns : List ℕ) → height == k ≡ true → list_any (nat_eq k) (filter (is_other height) ns) ≡ false
none_left height k [] same = refl
none_left height k (n ∷ ns) same = elim (cases_Bool (n == height)) [
  | inl here ↦ rw here (none_left height k ns same)
  | inr other ↦ let e : nat_eq k n ≡ false = grind (arith, nat_tests, same, other) in rw other (rw e (none_left height k ns same))
]

others_left : (height k : ℕ) (ns : List ℕ) → height == k ≡ false → list_any (nat_eq k) (filter (is_other height) ns) ≡ list_any (nat_eq k) ns
others_left height k [] apart = refl
others_left height k (n ∷ ns) apart = elim (cases_Bool (n == height)) [
  | inl here ↦ let e : nat_eq k n ≡ false = grind (arith, nat_tests, apart, here) in rw here (others_left height k ns apart ∙ sym (rw e refl))
  | inr other ↦ rw other (ap (λ (b : Bool). nat_eq k n || b) (others_left height k ns apart))
]

listing_without : (files image : Files) (height : ℕ) (hs : List StoredHeight) → IsListing kind.Mark files (heights_in hs) → ((k : ℕ) → image (name.Mark k) ≡ without (name.Mark height) files (name.Mark k)) → IsListing kind.Mark image (heights_in (without_height hs height))
listing_without files image height hs listed same = subst (IsListing kind.Mark image) (sym (numbers_without height hs)) (record {
  ascending = IsStrictlyIncreasing-filter (is_other height) (heights_in hs) listed.ascending;
  each = λ k. elim (cases_Bool (height == k)) [
    | inl here ↦
        let gone : image (name.Mark k) ≡ None = same k ∙ rw here refl in
        none_left height k (heights_in hs) here ∙ sym (ap is_some gone)
    | inr apart ↦
        let stays : image (name.Mark k) ≡ files (name.Mark k) = same k ∙ rw apart refl in
        others_left height k (heights_in hs) apart ∙ listed.each k ∙ sym (ap is_some stays)
  ];
})

-- ---- heights but for one

count_without : (height : ℕ) (hs : List StoredHeight) → length (without_height hs height) ≤ length hs
count_without height hs = omega (arith, length-filter_both (λ (h : StoredHeight). not (h.mark.height == height)) (λ (h : StoredHeight). not (not (h.mark.height == height))) (λ h. refl) hs)

named_without : (height n : ℕ) (hs : List StoredHeight) → is_named (without_height hs height) n ≡ true → is_named hs n ≡ true
named_without height n [] named = named
named_without height n (h ∷ hs) named = step (h.mark.height == height) (named_without height n hs) named
  where
    step : (b : Bool) → (is_named (without_height hs height) n ≡ true → is_named hs n ≡ true) → is_named (cond (not b) (h ∷ without_height hs height) (without_height hs height)) n ≡ true → is_named (h ∷ hs) n ≡ true
    step true later e = or_right (mark_names h.mark n) (is_named hs n) (later e)
    step false later e = elim (cases_Bool (mark_names h.mark n)) [
      | inl here ↦ or_left (mark_names h.mark n) (is_named hs n) here
      | inr apart ↦ or_right (mark_names h.mark n) (is_named hs n) (later (sym (rw apart refl) ∙ e))
    ]

needed_without : (height : ℕ) (hs : List StoredHeight) (q : Name) → is_needed (without_height hs height) q ≡ true → is_needed hs q ≡ true
needed_without height hs (name.Mark n) needed = refl
needed_without height hs (name.Page n) needed = named_without height n hs needed
needed_without height hs (name.Draft n) needed = needed
needed_without height hs (name.Stage n) needed = needed

-- what holds of each height that stays
all_without : (P Q : StoredHeight → Type 0) (height : ℕ) → ((h : StoredHeight) → h.mark.height == height ≡ false → P h → Q h) → (hs : List StoredHeight) → AllByRecursion P hs → AllByRecursion Q (without_height hs height)
all_without P Q height step [] all = tt
all_without P Q height step (h ∷ hs) all = elim (cases_Bool (h.mark.height == height)) [
  | inl here ↦ rw here (all_without P Q height step hs all.1)
  | inr other ↦ rw other (step h other all.0, all_without P Q height step hs all.1)
]

module _ (files image : Files) (height : ℕ) (marks : (k : ℕ) → image (name.Mark k) ≡ without (name.Mark height) files (name.Mark k)) where
  mark_stays : (k : ℕ) → k == height ≡ false → image (name.Mark k) ≡ files (name.Mark k)
  mark_stays k other = marks k ∙ (let e : height == k ≡ false = grind (arith, nat_tests, other) in rw e refl)

  each_without : (hs : List StoredHeight) (ps : List Published) → ((n : ℕ) → is_named hs n ≡ true → image (name.Page n) ≡ files (name.Page n)) → AllZip (ShowsHeight files) hs ps → AllZip (ShowsHeight image) (without_height hs height) (without_published ps height)
  each_without [] [] pages each = tt
  each_without [] (y ∷ ps) pages each = absurd each
  each_without (x ∷ hs) [] pages each = absurd each
  each_without (x ∷ hs) (y ∷ ps) pages each =
      let later = each_without hs ps (λ n named. pages n (or_right (mark_names x.mark n) (is_named hs n) named)) each.1 in
      let same : y.height == height ≡ x.mark.height == height = ap (λ (n : ℕ). n == height) each.0.made.height in
      elim (cases_Bool (x.mark.height == height)) [
        | inl here ↦ let e = same ∙ here in rw (here, e) later
        | inr other ↦ let e = same ∙ other in rw (other, e) (height_carried files image x y (mark_stays x.mark.height other) (λ n named. pages n (or_left (mark_names x.mark n) (is_named hs n) named)) each.0, later)
      ]

shown_without : (files image : Files) (hs : List StoredHeight) (ps : List Published) (height : ℕ) → ShowsHeights files hs ps → ((q : Name) → is_needed hs q ≡ true → image q ≡ without (name.Mark height) files q) → ShowsHeights image (without_height hs height) (without_published ps height)
shown_without files image hs ps height shows same = record {
  listed = listing_without files image height hs shows.listed (λ k. same (name.Mark k) refl);
  few = omega (arith, shows.few, count_without height hs);
  each = each_without files image height (λ k. same (name.Mark k) refl) hs ps (λ n named. same (name.Page n) named) shows.each;
}

-- ---- the removal

pub removed_images : {T : Type 0} (result : Result T DiskError) (old new : DiskView) (hs : List StoredHeight) (ps : List Published) (height : ℕ) → IsSound old.state → IsSettled old.state → KeepsHeights hs old.state ps → Does (remove (name.Mark height)) result old new
    → LeavesOnly old new (StandsForEither ps (without_published ps height))
removed_images result old new hs ps height sound settled keeps does =
    one_call (remove (name.Mark height)) result old new (StandsForEither ps (without_published ps height)) sound does (λ image now. inl (kept_stands hs old.state ps keeps image now)) middle
  where
    shows : ShowsHeights old.state.files hs ps
    shows = keeps.images old.state.files sound

    middle : EachImage (under_way (remove (name.Mark height)) old.state) (StandsForEither ps (without_published ps height))
    middle image h = elim (remove_images old.state (name.Mark height) image settled h) [
      | inl before ↦ inl (shown_stands image hs ps ((shown_depends hs ps).carries old.state.files image (λ q needed. before.firm q (keeps.firm q needed)) shows))
      | inr after ↦ inr (shown_stands image (without_height hs height) (without_published ps height) (shown_without old.state.files image hs ps height shows (λ q needed. after.firm q (keeps.firm q needed))))
    ]

abbrev pub less : ℕ → Store → Store
less height store = record store { heights = without_height store.heights height }

module _ (old new : DiskView) (height : ℕ) (does : Done (remove (name.Mark height)) old new) where
  reads_without : (q : Name) → new.state.files q ≡ without (name.Mark height) old.state.files q
  reads_without q = ap (λ (s : DiskState). s.files q) does.state

  firm_without : (q : Name) → old.state.loose q ≡ false → new.state.loose q ≡ false
  firm_without q firm = ap (λ (s : DiskState). s.loose q) does.state ∙ elim (cases_Bool (same_name (name.Mark height) q)) [
    | inl same ↦ rw same refl
    | inr apart ↦ rw apart firm
  ]

  pub keeps_without : (hs : List StoredHeight) (ps : List Published) → IsSound old.state → IsSettled old.state → KeepsHeights hs old.state ps → KeepsHeights (without_height hs height) new.state (without_published ps height)
  keeps_without hs ps sound settled keeps = settled_keeps (without_height hs height) new.state (without_published ps height) (done_settles (remove (name.Mark height)) old new does settled)
      (λ q needed. firm_without q (keeps.firm q (needed_without height hs q needed)))
      (shown_without old.state.files new.state.files hs ps height (keeps.images old.state.files sound) (λ q needed. reads_without q))

  pub readable_without : (hs : List StoredHeight) → IsReadable hs old.state.files → IsReadable (without_height hs height) new.state.files
  readable_without hs readable = record {
    listed = listing_without old.state.files new.state.files height hs readable.listed (λ k. reads_without (name.Mark k));
    marks = all_without (HasMark old.state.files) (HasMark new.state.files) height (λ h other there. mark_stays old.state.files new.state.files height (λ k. reads_without (name.Mark k)) h.mark.height other ∙ there) hs readable.marks;
    stacks = all_without (HasStacks old.state.files) (HasStacks new.state.files) height (λ h other kept. stacks_carried old.state.files new.state.files (λ n. reads_without (name.Page n)) h.stacks kept) hs readable.stacks;
  }

  pub writable_without : (store : Store) (n : ℕ) → IsWritable store n old.state.files → IsWritable (less height store) n new.state.files
  writable_without store n writable = record {
    room = λ k unused. reads_without (name.Page k) ∙ writable.room k unused;
    no_draft = reads_without (name.Draft n) ∙ writable.no_draft;
  }

pub store_without : (store : Store) (height : ℕ) → IsStore store → IsStore (record store { heights = without_height store.heights height })
store_without store height good = record {
  ascends = subst IsStrictlyIncreasing (sym (numbers_without height store.heights)) (IsStrictlyIncreasing-filter (is_other height) (heights_in store.heights) good.ascends);
  few = omega (arith, good.few, count_without height store.heights);
  named_ascends = good.named_ascends;
  passed = good.passed;
}

-- ---- the newest height

newest_is : (hs : List StoredHeight) (height : ℕ) (d : StoredHeight) → 0 < length hs → is_newest hs height ≡ ((get_or hs (length hs - 1) d).mark.height == height)
newest_is [] height d lt = absurd (omega (arith, lt))
newest_is (h ∷ []) height d lt = refl
newest_is (h ∷ x ∷ hs) height d lt =
    let e : length (h ∷ x ∷ hs) - 1 ≡ suc (length (x ∷ hs) - 1) = omega arith in
    newest_is (x ∷ hs) height d (omega arith) ∙ ap (λ (i : ℕ). (get_or (h ∷ x ∷ hs) i d).mark.height == height) (sym e)

not_empty : (hs : List StoredHeight) (height : ℕ) (d : StoredHeight) → Some d ≡ height_at hs height → 0 < length hs
not_empty [] height d is = absurd (false≢true (sym (ap is_some is)))
not_empty (h ∷ hs) height d is = omega arith

-- the last height decides whether one is the newest
pub newest_test : (hs : List StoredHeight) (height newest count : ℕ) (d : StoredHeight) → Some d ≡ height_at hs height → count ≡ length hs → newest ≡ (get_or hs (count - 1) d).mark.height → is_newest hs height ≡ (newest == height)
newest_test hs height newest count d is counted last =
    newest_is hs height d (not_empty hs height d is) ∙ ap (λ (n : ℕ). (get_or hs (n - 1) d).mark.height == height) (sym counted) ∙ ap (λ (n : ℕ). n == height) (sym last)

newest_found : (hs : List StoredHeight) (height : ℕ) → is_newest hs height ≡ true → is_some (height_at hs height) ≡ true
newest_found [] height newest = absurd (false≢true newest)
newest_found (h ∷ []) height newest = rw newest refl
newest_found (h ∷ x ∷ hs) height newest = elim (cases_Bool (h.mark.height == height)) [
  | inl here ↦ rw here refl
  | inr other ↦ rw other (newest_found (x ∷ hs) height newest)
]

pub absent_not_newest : (hs : List StoredHeight) (height : ℕ) → None ≡ height_at hs height → is_newest hs height ≡ true → ⊥
absent_not_newest hs height absent newest = false≢true (ap is_some absent ∙ newest_found hs height newest)

-- a height that is found has a mark
pub found_listed : (files : Files) (hs : List StoredHeight) (height : ℕ) (h : StoredHeight) → Some h ≡ height_at hs height → IsListing kind.Mark files (heights_in hs) → is_some (files (name.Mark height)) ≡ true
found_listed files hs height h is listed = sym (listed.each height) ∙ among hs (sym is)
  where
    among : (hs : List StoredHeight) → height_at hs height ≡ Some h → list_any (nat_eq height) (heights_in hs) ≡ true
    among [] e = absurd (false≢true (ap is_some e))
    among (x ∷ hs) e = elim (cases_Bool (x.mark.height == height)) [
      | inl here ↦ let f : nat_eq height x.mark.height ≡ true = grind (arith, nat_tests, here) in rw f refl
      | inr other ↦ or_right (nat_eq height x.mark.height) (list_any (nat_eq height) (heights_in hs)) (among hs (sym (rw other refl) ∙ e))
    ]

-- an error of the disk is no answer about heights
pub disk_never : (result : Result (Unit {0}) StoreError) (e : DiskError) → IsErrAnd result (λ made. made ≡ disk_error e) → result ≡ Err LastHeight → ⊥
disk_never (Ok x) e made is = absurd made
disk_never (Err m) disk.Fault made is = absurd cc
disk_never (Err m) disk.Memory made is = absurd cc

-- ---- the store that is left

abbrev pub store_of : List StoredHeight → List ℕ → ℕ → ℕ → Store
store_of hs named given next = record { heights = hs; named = named; numbers_given = given; least_free = next }

pub lost : (inside store : Store) (hs : List StoredHeight) (height : ℕ) → inside ≡ store → hs ≡ without_height inside.heights height → store_of hs inside.named inside.numbers_given inside.least_free ≡ less height store
lost inside store hs height is dropped = ap (λ (l : List StoredHeight). store_of l inside.named inside.numbers_given inside.least_free) dropped ∙ ap (less height) is

pub nothing_removed : (hs : List StoredHeight) (ps qs : List Published) (v : DiskView) → KeepsHeights hs v.state ps → LeavesOnly v v (StandsForEither ps qs)
nothing_removed hs ps qs v keeps = at_start v (StandsForEither ps qs) (λ image now. inl (kept_stands hs v.state ps keeps image now))
