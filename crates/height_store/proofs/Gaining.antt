-- One height more.
use Rattle.std.proofs.Common.{◌≡◌, ◌⊎◌, ℕ, ◌+◌, ◌-◌, ◌<◌, Bool, true, false, ◌||◌, List, [], ◌∷◌, ◌++◌, length, get_or, nat_eq, ◌==◌, is_some, Some, None, refl, inl, inr, sym, ◌∙◌, ap, subst, arith}
use Rattle.std.specs.List.{AllByRecursion, AllZip, list_any}
use Rattle.std.specs.List.Sorted.{IsStrictlyIncreasing}
use Rattle.std.proofs.lemmas.Bool.{cases_Bool, cases_lt, false≢true, or_from}
use Rattle.std.proofs.lemmas.Bool.Decides.{nat_tests}
use Rattle.std.proofs.lemmas.Map.Views.{exact_unsigned_eq}
use Rattle.std.proofs.lemmas.List.{map-append, length-append, get_or_append_left, get_or-append_right}
use Rattle.std.proofs.lemmas.List.Elements.{All-from_recursion, All-get_or}
use Rattle.std.proofs.lemmas.List.Folds.{list_any-append, list_any_none}
use Rattle.format_spec.specs.Bytes.{Bytes}
use Rattle.format_spec.specs.declared.limits.TheConstants.{MAX_PUBLISHED}
use Rattle.format_spec.proofs.Lists.{all_join, all_weaker}
use Rattle.state_spec.specs.State.{SystemPart}
use Rattle.sys_state.specs.System.{part_of}
use Rattle.store_spec.specs.Image.{Published}
use Rattle.store_spec.specs.Mark.{Mark, mark_text}
use Rattle.disk_model.specs.declared.name.Kind.TheVariants as kind
use Rattle.disk_model.specs.declared.name.Name.{Name}
use Rattle.disk_model.specs.declared.name.Name.TheVariants as name
use Rattle.disk_model.specs.Files.{Files, IsListing, same_name}
use Rattle.disk_model.specs.State.{DiskState, IsSettled, marks_with}
use Rattle.disk_model.specs.View.{DiskView, LeavesOnly}
use Rattle.disk_model.specs.Laws.{IsSound, same_name_eq, same_name_refl, replaced_here, replaced_apart}
use Rattle.disk_model.specs.Moments.{at_start, weaker}
use Rattle.disk_model.specs.Frame.{TouchesOnly}
use Rattle.page_file.specs.Files.{NumberedFile, IsAsKnown}
use Rattle.height_store.specs.Store.{Store, StoredHeight, IsHeight, IsStore, heights_in, mark_names, is_named, is_needed}
use Rattle.height_store.specs.Kept.{IsReadable, IsWritable, HasMark, HasStacks, IsMadeOf, HasFirmPages, ShowsHeight, ShowsHeights, KeepsHeights, StandsForEither}
use Rattle.height_store.specs.Laws.{kept_stands, shown_stands, shown_depends, settled_keeps, made_apart}
use Rattle.height_store.specs.Shown.{or_left, or_right}
use Rattle.height_store.specs.Written.{is_of, with_mark, HasWritten, IsBeforeOrAfter}
use Rattle.height_store.proofs.Parts.{parts_are_one}
use Rattle.height_store.proofs.Carried.{all_both, height_carried, stacks_carried, no_draft_needed}

abbrev pub AreBelow : ℕ → List StoredHeight → Type 0
AreBelow height hs = AllByRecursion (λ h. h.mark.height < height) hs

-- ---- ascending numbers, and one above them

numbers_below : (height : ℕ) (hs : List StoredHeight) → AreBelow height hs → AllByRecursion (λ n. n < height) (heights_in hs)
numbers_below height [] below = tt
numbers_below height (h ∷ hs) below = (below.0, numbers_below height hs below.1)

ascends_push : (ns : List ℕ) (n : ℕ) → AllByRecursion (λ k. k < n) ns → IsStrictlyIncreasing ns → IsStrictlyIncreasing (ns ++ n ∷ [])
ascends_push ns n below ascends k lt = elim (cases_lt (k + 1) (length ns)) [
  | inl before ↦ omega (arith, ascends k before, get_or_append_left ns (n ∷ []) 0 k (omega (arith, before)), get_or_append_left ns (n ∷ []) 0 (k + 1) before)
  | inr past ↦
      let here : k + 1 ≡ length ns = omega (arith, past, lt, length-append ns (n ∷ [])) in
      let last : get_or (ns ++ n ∷ []) (k + 1) 0 ≡ n = get_or-append_right ns (n ∷ []) (length ns) (k + 1) 0 refl past ∙ (let e : k + 1 - length ns ≡ 0 = omega (arith, here) in ap (λ (j : ℕ). get_or (n ∷ []) j 0) e) in
      omega (arith, last, get_or_append_left ns (n ∷ []) 0 k (omega (arith, here)), All-get_or (λ m. m < n) ns k 0 (omega (arith, here)) (All-from_recursion (λ m. m < n) ns below))
]

or_false_right : (b : Bool) → (b || false) ≡ b
or_false_right true = refl
or_false_right false = refl

listing_push : (files image : Files) (ns : List ℕ) (n : ℕ) (text : Bytes) → AllByRecursion (λ k. k < n) ns → IsListing kind.Mark files ns → ((k : ℕ) → image (name.Mark k) ≡ with_mark n text files (name.Mark k)) → IsListing kind.Mark image (ns ++ n ∷ [])
listing_push files image ns n text below listed same = record {
  ascending = ascends_push ns n below listed.ascending;
  each = λ k. list_any-append (nat_eq k) ns (n ∷ []) ∙ at k (cases_Bool (n == k)) ∙ ap is_some (sym (same k));
}
  where
    at : (k : ℕ) → (n == k ≡ true) ⊎ (n == k ≡ false) → (list_any (nat_eq k) ns || (nat_eq k n || false)) ≡ is_some (with_mark n text files (name.Mark k))
    at k (inl here) = let e : nat_eq k n ≡ true = grind (arith, nat_tests, here) in or_right (list_any (nat_eq k) ns) (nat_eq k n || false) (or_left (nat_eq k n) false e) ∙ sym (rw here refl)
    at k (inr apart) = let e : nat_eq k n ≡ false = grind (arith, nat_tests, apart) in ap (λ (b : Bool). list_any (nat_eq k) ns || (b || false)) e ∙ or_false_right (list_any (nat_eq k) ns) ∙ listed.each k ∙ sym (rw apart refl)

-- no mark of a height that is above all
pub no_mark_above : (files : Files) (hs : List StoredHeight) (height : ℕ) → AreBelow height hs → IsListing kind.Mark files (heights_in hs) → is_some (files (name.Mark height)) ≡ false
no_mark_above files hs height below listed = sym (listed.each height) ∙ none (heights_in hs) (numbers_below height hs below)
  where
    none : (ns : List ℕ) → AllByRecursion (λ k. k < height) ns → list_any (nat_eq height) ns ≡ false
    none ns all = list_any_none (nat_eq height) ns (All-from_recursion _ ns (all_weaker (λ k. k < height) (λ k. nat_eq height k ≡ false) (λ k lt. let e : nat_eq height k ≡ false = grind (arith, nat_tests, lt) in e) ns all))

-- ---- what is shown

or_cases : (a b : Bool) → (a || b) ≡ true → (a ≡ true) ⊎ (b ≡ true)
or_cases true b h = inl refl
or_cases false b h = inr h

named_first : (hs : List StoredHeight) (h : StoredHeight) (n : ℕ) → is_named hs n ≡ true → is_named (hs ++ h ∷ []) n ≡ true
named_first hs h n named = list_any-append (λ h. mark_names h.mark n) hs (h ∷ []) ∙ or_left (is_named hs n) (mark_names h.mark n || false) named

named_last : (hs : List StoredHeight) (h : StoredHeight) (n : ℕ) → mark_names h.mark n ≡ true → is_named (hs ++ h ∷ []) n ≡ true
named_last hs h n named = list_any-append (λ h. mark_names h.mark n) hs (h ∷ []) ∙ or_right (is_named hs n) (mark_names h.mark n || false) (or_left (mark_names h.mark n) false named)

named_cases : (hs : List StoredHeight) (h : StoredHeight) (n : ℕ) → is_named (hs ++ h ∷ []) n ≡ true → (is_named hs n ≡ true) ⊎ (mark_names h.mark n ≡ true)
named_cases hs h n named = elim (or_cases (is_named hs n) (mark_names h.mark n || false) (sym (list_any-append (λ h. mark_names h.mark n) hs (h ∷ [])) ∙ named)) [
  | inl first ↦ inl first
  | inr last ↦ elim (or_cases (mark_names h.mark n) false last) [
    | inl here ↦ inr here
    | inr none ↦ absurd (false≢true none)
  ]
]

module _ (files image : Files) (height : ℕ) (text : Bytes) (marks : (k : ℕ) → image (name.Mark k) ≡ with_mark height text files (name.Mark k)) where
  mark_apart : (k : ℕ) → k < height → image (name.Mark k) ≡ files (name.Mark k)
  mark_apart k lt = marks k ∙ (let e : height == k ≡ false = grind (arith, nat_tests, lt) in rw e refl)

  mark_here : image (name.Mark height) ≡ Some text
  mark_here = marks height ∙ replaced_here files (name.Mark height) (Some text) (name.Mark height) (same_name_refl (name.Mark height))

  each_push : (hs : List StoredHeight) (ps : List Published) (h : StoredHeight) (p : Published) → AreBelow height hs → ((n : ℕ) → is_named hs n ≡ true → image (name.Page n) ≡ files (name.Page n))
      → AllZip (ShowsHeight files) hs ps → ShowsHeight image h p → AllZip (ShowsHeight image) (hs ++ h ∷ []) (ps ++ p ∷ [])
  each_push [] [] h p below pages each new = (new, tt)
  each_push [] (y ∷ ps) h p below pages each new = absurd each
  each_push (x ∷ hs) [] h p below pages each new = absurd each
  each_push (x ∷ hs) (y ∷ ps) h p below pages each new = (
    height_carried files image x y (mark_apart x.mark.height below.0) (λ n named. pages n (or_left (mark_names x.mark n) (is_named hs n) named)) each.0,
    each_push hs ps h p below.1 (λ n named. pages n (or_right (mark_names x.mark n) (is_named hs n) named)) each.1 new,
  )

heights_push : (hs : List StoredHeight) (h : StoredHeight) → heights_in (hs ++ h ∷ []) ≡ heights_in hs ++ h.mark.height ∷ []
heights_push hs h = map-append (λ (h : StoredHeight). h.mark.height) hs (h ∷ [])

pub shown_push : (files image : Files) (hs : List StoredHeight) (ps : List Published) (h : StoredHeight) (p : Published) → AreBelow h.mark.height hs → length hs < MAX_PUBLISHED → ShowsHeights files hs ps → IsHeight h
    → IsMadeOf files h.mark (part_of h.system) h.stacks p → ((q : Name) → is_needed (hs ++ h ∷ []) q ≡ true → image q ≡ with_mark h.mark.height (mark_text h.mark) files q) → ShowsHeights image (hs ++ h ∷ []) (ps ++ p ∷ [])
shown_push files image hs ps h p below few shows good made same = record {
  listed = subst (IsListing kind.Mark image) (sym (heights_push hs h)) (listing_push files image (heights_in hs) h.mark.height (mark_text h.mark) (numbers_below h.mark.height hs below) shows.listed (λ k. same (name.Mark k) refl));
  few = omega (arith, few, length-append hs (h ∷ []));
  each = each_push files image h.mark.height (mark_text h.mark) (λ k. same (name.Mark k) refl) hs ps h p below (λ n named. same (name.Page n) (named_first hs h n named)) shows.each (record {
    good = good;
    mark = mark_here files image h.mark.height (mark_text h.mark) (λ k. same (name.Mark k) refl);
    made = made_apart files image h.mark (part_of h.system) h.stacks p (λ n named. same (name.Page n) (named_last hs h n named)) made;
  });
}

firm_push : (hs : List StoredHeight) (h : StoredHeight) (s : DiskState) → ((q : Name) → is_needed hs q ≡ true → s.loose q ≡ false) → HasFirmPages s h.mark → (q : Name) → is_needed (hs ++ h ∷ []) q ≡ true → s.loose q ≡ false
firm_push hs h s firm pages (name.Mark n) needed = firm (name.Mark n) refl
firm_push hs h s firm pages (name.Page n) needed = elim (named_cases hs h n needed) [
  | inl before ↦ firm (name.Page n) before
  | inr here ↦ pages n here
]
firm_push hs h s firm pages (name.Draft n) needed = absurd (false≢true needed)
firm_push hs h s firm pages (name.Stage n) needed = absurd (false≢true needed)

-- ---- images while the mark is written

draft_firm : (height : ℕ) (s : DiskState) (q : Name) → same_name (name.Draft height) q ≡ false → s.loose q ≡ false → marks_with s.loose (name.Draft height) true q ≡ false
draft_firm height s q apart firm = rw apart firm

-- a height that may be published: it is above all heights that are kept, and made of page files that are on the disk
pub record MayPublish (hs : List StoredHeight) (ps : List Published) (s : DiskState) (h : StoredHeight) (p : Published) : Type 0 where
  pub sound : IsSound s
  pub below : AreBelow h.mark.height hs
  pub few : length hs < MAX_PUBLISHED
  pub keeps : KeepsHeights hs s ps
  pub good : IsHeight h
  pub made : IsMadeOf s.files h.mark (part_of h.system) h.stacks p
  pub pages : HasFirmPages s h.mark

pub stands_for_either : (hs : List StoredHeight) (ps : List Published) (s : DiskState) (h : StoredHeight) (p : Published) → MayPublish hs ps s h p → (image : Files) → IsBeforeOrAfter s h.mark.height (mark_text h.mark) image → StandsForEither ps (ps ++ p ∷ []) image
stands_for_either hs ps s h p may image (inl before) =
    inl (shown_stands image hs ps ((shown_depends hs ps).carries s.files image (λ q needed. before.firm q (draft_firm h.mark.height s q (no_draft_needed hs h.mark.height q needed) (may.keeps.firm q needed))) (may.keeps.images s.files may.sound)))
stands_for_either hs ps s h p may image (inr after) =
    inr (shown_stands image (hs ++ h ∷ []) (ps ++ p ∷ []) (shown_push s.files image hs ps h p may.below may.few (may.keeps.images s.files may.sound) may.good may.made
    (λ q needed. after.firm q (draft_firm h.mark.height s q (no_draft_needed (hs ++ h ∷ []) h.mark.height q needed) (firm_push hs h s may.keeps.firm may.pages q needed)))))

-- ---- when it is written

module _ (height : ℕ) (text : Bytes) (old new : DiskView) (written : HasWritten height text old new) (touches : TouchesOnly (is_of height) old new) where
  pub reads_after : (q : Name) → same_name (name.Draft height) q ≡ false → new.state.files q ≡ with_mark height text old.state.files q
  reads_after q apart = elim (cases_Bool (same_name (name.Mark height) q)) [
    | inl same ↦ ap new.state.files (sym (same_name_eq (name.Mark height) q same)) ∙ written.there ∙ sym (replaced_here old.state.files (name.Mark height) (Some text) q same)
    | inr other ↦ touches.reads q (or_from _ _ apart other) ∙ sym (replaced_apart old.state.files (name.Mark height) (Some text) q other)
  ]

  pub firm_after : (q : Name) → same_name (name.Draft height) q ≡ false → old.state.loose q ≡ false → new.state.loose q ≡ false
  firm_after q apart firm = elim (cases_Bool (same_name (name.Mark height) q)) [
    | inl same ↦ ap new.state.loose (sym (same_name_eq (name.Mark height) q same)) ∙ written.firm
    | inr other ↦ touches.firm q (or_from _ _ apart other) firm
  ]

  pub draft_after : (n : ℕ) → old.state.files (name.Draft n) ≡ None → new.state.files (name.Draft n) ≡ None
  draft_after n none = elim (cases_Bool (height == n)) [
    | inl same ↦ ap (λ (k : ℕ). new.state.files (name.Draft k)) (sym (exact_unsigned_eq height n same)) ∙ written.no_draft
    | inr apart ↦ touches.reads (name.Draft n) (or_from _ _ apart refl) ∙ none
  ]

pub keeps_push : (hs : List StoredHeight) (ps : List Published) (old new : DiskView) (h : StoredHeight) (p : Published) → MayPublish hs ps old.state h p → HasWritten h.mark.height (mark_text h.mark) old new → TouchesOnly (is_of h.mark.height) old new → IsSettled old.state
    → KeepsHeights (hs ++ h ∷ []) new.state (ps ++ p ∷ [])
keeps_push hs ps old new h p may written touches settled = settled_keeps (hs ++ h ∷ []) new.state (ps ++ p ∷ []) (written.settled settled)
    (λ q needed. firm_after h.mark.height (mark_text h.mark) old new written touches q (no_draft_needed (hs ++ h ∷ []) h.mark.height q needed) (firm_push hs h old.state may.keeps.firm may.pages q needed))
    (shown_push old.state.files new.state.files hs ps h p may.below may.few (may.keeps.images old.state.files may.sound) may.good may.made
    (λ q needed. reads_after h.mark.height (mark_text h.mark) old new written touches q (no_draft_needed (hs ++ h ∷ []) h.mark.height q needed)))

module _ (store : Store) (old new : DiskView) (h : StoredHeight) (written : HasWritten h.mark.height (mark_text h.mark) old new) (touches : TouchesOnly (is_of h.mark.height) old new) where
  marks : (k : ℕ) → new.state.files (name.Mark k) ≡ with_mark h.mark.height (mark_text h.mark) old.state.files (name.Mark k)
  marks k = reads_after h.mark.height (mark_text h.mark) old new written touches (name.Mark k) refl

  pages : (n : ℕ) → new.state.files (name.Page n) ≡ old.state.files (name.Page n)
  pages n = reads_after h.mark.height (mark_text h.mark) old new written touches (name.Page n) refl

  pub readable_push : IsReadable store.heights old.state.files → AreBelow h.mark.height store.heights → AllByRecursion (AllByRecursion (IsAsKnown old.state.files)) h.stacks → IsReadable (store.heights ++ h ∷ []) new.state.files
  readable_push readable below kept = record {
    listed = subst (IsListing kind.Mark new.state.files) (sym (heights_push store.heights h)) (listing_push old.state.files new.state.files (heights_in store.heights) h.mark.height (mark_text h.mark) (numbers_below h.mark.height store.heights below) readable.listed marks);
    marks = all_join (HasMark new.state.files) store.heights (h ∷ []) (all_weaker (λ x. (x.mark.height < h.mark.height) × HasMark old.state.files x) (HasMark new.state.files)
        (λ x both. mark_apart old.state.files new.state.files h.mark.height (mark_text h.mark) marks x.mark.height both.0 ∙ both.1) store.heights (all_both _ (HasMark old.state.files) store.heights below readable.marks)) (written.there, tt);
    stacks = all_join (HasStacks new.state.files) store.heights (h ∷ []) (all_weaker (HasStacks old.state.files) (HasStacks new.state.files) (λ x kept. stacks_carried old.state.files new.state.files pages x.stacks kept) store.heights readable.stacks)
        (stacks_carried old.state.files new.state.files pages h.stacks kept, tt);
  }

  pub writable_push : (n : ℕ) → IsWritable store n old.state.files → IsWritable (record store { heights = store.heights ++ h ∷ [] }) n new.state.files
  writable_push n writable = record {
    room = λ k unused. pages k ∙ writable.room k unused;
    no_draft = draft_after h.mark.height (mark_text h.mark) old new written touches n writable.no_draft;
  }

-- ---- the store itself

pub store_push : (store : Store) (h : StoredHeight) → AreBelow h.mark.height store.heights → length store.heights < MAX_PUBLISHED → IsStore store → IsStore (record store { heights = store.heights ++ h ∷ [] })
store_push store h below few good = record {
  ascends = subst IsStrictlyIncreasing (sym (heights_push store.heights h)) (ascends_push (heights_in store.heights) h.mark.height (numbers_below h.mark.height store.heights below) good.ascends);
  few = omega (arith, few, length-append store.heights (h ∷ []));
  named_ascends = good.named_ascends;
  passed = good.passed;
}

pub may_publish : (hs : List StoredHeight) (ps : List Published) (s : DiskState) (m : Mark) (t : SystemPart) (stacks : List (List NumberedFile)) (h : StoredHeight) (p : Published) → h.mark ≡ m → h.stacks ≡ stacks → IsHeight h → IsSound s → AreBelow m.height hs → length hs < MAX_PUBLISHED
    → KeepsHeights hs s ps → IsMadeOf s.files m t stacks p → HasFirmPages s m → MayPublish hs ps s h p
may_publish hs ps s m t stacks h p is_mark is_stacks good sound below few keeps made pages = record {
  sound = sound;
  below = subst (λ (m : Mark). AreBelow m.height hs) (sym is_mark) below;
  few = few;
  keeps = keeps;
  good = good;
  made =
      let here = subst (λ (m : Mark). IsMadeOf s.files m t h.stacks p) (sym is_mark) (subst (λ (l : List (List NumberedFile)). IsMadeOf s.files m t l p) (sym is_stacks) made) in
      subst (λ (t : SystemPart). IsMadeOf s.files h.mark t h.stacks p) (parts_are_one h.mark t (part_of h.system) here.good.mark good.parts.mark) here;
  pages = subst (HasFirmPages s) (sym is_mark) pages;
}

-- ---- by the mark that was handed in

pub at_own_mark : (P : ℕ → Bytes → Type 0) (n : ℕ) (text : Bytes) (m : Mark) → n ≡ m.height → text ≡ mark_text m → P n text → P m.height (mark_text m)
at_own_mark P n text m is_height is_text holds = subst (λ (t : Bytes). P m.height t) is_text (subst (λ (k : ℕ). P k text) is_height holds)

pub at_mark : (P : ℕ → Bytes → Type 0) (n : ℕ) (text : Bytes) (m : Mark) (h : StoredHeight) → n ≡ m.height → text ≡ mark_text m → h.mark ≡ m → P n text → P h.mark.height (mark_text h.mark)
at_mark P n text m h is_height is_text is_mark holds = subst (λ (m : Mark). P m.height (mark_text m)) (sym is_mark) (at_own_mark P n text m is_height is_text holds)

-- nothing has been called so far
pub nothing_called : (hs : List StoredHeight) (ps qs : List Published) (v : DiskView) → KeepsHeights hs v.state ps → LeavesOnly v v (StandsForEither ps qs)
nothing_called hs ps qs v keeps = at_start v (StandsForEither ps qs) (λ image now. inl (kept_stands hs v.state ps keeps image now))

pub images_push : (hs : List StoredHeight) (ps : List Published) (old new : DiskView) (h : StoredHeight) (p : Published) → MayPublish hs ps old.state h p → LeavesOnly old new (IsBeforeOrAfter old.state h.mark.height (mark_text h.mark)) → LeavesOnly old new (StandsForEither ps (ps ++ p ∷ []))
images_push hs ps old new h p may images = weaker old new _ _ (stands_for_either hs ps old.state h p may) images

pub below_mark : (hs : List StoredHeight) (m : Mark) (h : StoredHeight) → h.mark ≡ m → AreBelow m.height hs → AreBelow h.mark.height hs
below_mark hs m h is below = subst (λ (m : Mark). AreBelow m.height hs) (sym is) below

abbrev pub store_of : List StoredHeight → List ℕ → ℕ → ℕ → Store
store_of hs named given next = record { heights = hs; named = named; numbers_given = given; least_free = next }

abbrev pub with_height : StoredHeight → Store → Store
with_height h store = record store { heights = store.heights ++ h ∷ [] }

pub gained : (inside store : Store) (hs : List StoredHeight) (h : StoredHeight) → inside ≡ store → hs ≡ inside.heights ++ h ∷ [] → store_of hs inside.named inside.numbers_given inside.least_free ≡ with_height h store
gained inside store hs h is pushed = ap (λ (l : List StoredHeight). store_of l inside.named inside.numbers_given inside.least_free) pushed ∙ ap (with_height h) is
