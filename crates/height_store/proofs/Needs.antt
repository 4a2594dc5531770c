-- Gathering the numbers of page files that are needed, and removing the other files.
use Rattle.std.specs.Prelude.{◌≡◌, map, ℕ, ◌+◌, ◌<◌, Bool, true, false, not, ◌||◌, nat_eq, List, [], ◌∷◌, length, take, Option, None, Result, Ok, Err, OnOk, if◌then◌else◌, refl}
use Rattle.std.specs.List.{list_any, dedup, AllByRecursion, Contains}
use Rattle.std.specs.List.Sorted.{IsPermutation}
use Rattle.std.proofs.Common.{sym, ◌∙◌, ap, subst, eqb, get_or}
use Rattle.std.proofs.lemmas.Bool.{false≢true, eqb-true}
use Rattle.std.proofs.lemmas.List.Folds.{list_any_at, list_any_more, Any-from_list_any}
use Rattle.std.proofs.lemmas.List.Kept.{Contains-dedup_nat, Contains-from_dedup}
use Rattle.std.proofs.lemmas.List.Sorted.{list_any-IsPermutation}
use Rattle.format_spec.specs.Bytes.{Bytes}
use Rattle.disk_model.specs.declared.disk.Disk.{Ghosts}
use Rattle.disk_model.specs.declared.disk.DiskError.{DiskError}
use Rattle.disk_model.specs.declared.name.Name.{Name}
use Rattle.disk_model.specs.declared.name.Name.TheVariants as name
use Rattle.disk_model.specs.Files.{Files}
use Rattle.disk_model.specs.View.{DiskView}
use Rattle.disk_model.specs.Writing.{Writes}
use Rattle.disk_model.specs.Frame.{TouchesOnly}
use Rattle.page_file.specs.Files.{NumberedFile, IsAsKnown}
use Rattle.store_spec.specs.Mark.{MarkMemory}
use Rattle.format_spec.proofs.Cuts.{heads}
use Rattle.height_store.specs.Found.{is_other}
use Rattle.height_store.specs.Kept.{HasStacks, IsReadable, IsWritable}
use Rattle.height_store.specs.Needed.{is_page_needed, is_dispensable, files_without, files_swept, needed_stay}
use Rattle.height_store.specs.Shown.{listing_apart, or_left, or_right}
use Rattle.height_store.specs.Store.{Store, StoredHeight, IsHeight, heights_in, mark_names, is_named, is_needed, numbers_of}
use Rattle.height_store.proofs.Since.{each_mark, kept_on}
use Rattle.height_store.proofs.Swept.{same_true}

-- ---- tests

either_way : (a b : Bool) → (a ≡ true → b ≡ true) → (b ≡ true → a ≡ true) → a ≡ b
either_way true b there back = sym (there refl)
either_way false true there back = absurd (false≢true (back refl))
either_way false false there back = refl

or_apart : (a b c : Bool) → ((a || b) || c) ≡ (a || (b || c))
or_apart true b c = refl
or_apart false b c = refl

-- ---- gathering

-- what one more adds
pub named_more : {X : Type 0} (has : X → Bool) (base old now : Bool) (xs : List X) (i : ℕ) (x : X) → i < length xs → now ≡ (old || has (get_or xs i x)) → old ≡ (base || list_any has (take i xs)) → now ≡ (base || list_any has (take (i + 1) xs))
named_more has base old now xs i x lt is so_far =
    is ∙ ap (λ (b : Bool). b || has (get_or xs i x)) so_far ∙ or_apart base (list_any has (take i xs)) (has (get_or xs i x)) ∙ ap (λ (b : Bool). base || b) (sym (list_any_more has xs i x lt))

contained : (n : ℕ) (xs : List ℕ) → list_any (nat_eq n) xs ≡ true → Contains xs n
contained n xs among =
    let any = Any-from_list_any (nat_eq n) xs among in
    subst (Contains xs) (sym (eqb-true n any.1 any.4)) (any.0, any.2, any.3)

among : (n : ℕ) (xs : List ℕ) → Contains xs n → list_any (nat_eq n) xs ≡ true
among n xs has = list_any_at (nat_eq n) xs has.0 n has.1 (same_true n (get_or xs has.0 n) (sym has.2))

-- the same numbers, whatever their order, each once
pub once_in_order : (n : ℕ) (xs ys zs : List ℕ) → IsPermutation xs ys → zs ≡ dedup eqb ys → list_any (nat_eq n) zs ≡ list_any (nat_eq n) xs
once_in_order n xs ys zs moved is =
    ap (list_any (nat_eq n)) is
    ∙ either_way (list_any (nat_eq n) (dedup eqb ys)) (list_any (nat_eq n) ys)
    (λ kept. among n ys (Contains-from_dedup eqb ys n (contained n (dedup eqb ys) kept)))
    (λ there. among n (dedup eqb ys) (Contains-dedup_nat ys n (contained n ys there)))
    ∙ sym (list_any-IsPermutation (nat_eq n) xs ys moved)

-- ---- what stays, by the two lists that a sweep goes by

other_is : (hs : List StoredHeight) (pins stages pages kept : List ℕ) → ((n : ℕ) → list_any (nat_eq n) pages ≡ is_page_needed hs pins n) → ((n : ℕ) → list_any (nat_eq n) kept ≡ list_any (nat_eq n) stages)
    → (q : Name) → is_other pages kept q ≡ is_dispensable hs pins stages q
other_is hs pins stages pages kept paged staged (name.Page n) = ap not (paged n)
other_is hs pins stages pages kept paged staged (name.Mark n) = refl
other_is hs pins stages pages kept paged staged (name.Draft n) = refl
other_is hs pins stages pages kept paged staged (name.Stage n) = ap not (staged n)

by_test : (gone : Bool) (old now : Option Bytes) → (gone ≡ true → now ≡ None) → (gone ≡ false → now ≡ old) → now ≡ (if gone then None else old)
by_test true old now removed kept = removed refl
by_test false old now removed kept = kept refl

pub others_are : (hs : List StoredHeight) (pins stages pages kept : List ℕ) → ((n : ℕ) → list_any (nat_eq n) pages ≡ is_page_needed hs pins n) → ((n : ℕ) → list_any (nat_eq n) kept ≡ list_any (nat_eq n) stages)
    → is_other pages kept ≡ is_dispensable hs pins stages
others_are hs pins stages pages kept paged staged = λ i q. other_is hs pins stages pages kept paged staged q i

-- what a sweep leaves at Ok
pub swept_is : {T E : Type 0} (result : Result T E) (hs : List StoredHeight) (pins stages : List ℕ) (other : Name → Bool) (old new : Files) → other ≡ is_dispensable hs pins stages
    → OnOk result ((q : Name) → other q ≡ true → new q ≡ None) → ((q : Name) → other q ≡ false → new q ≡ old q) → OnOk result (new ≡ files_swept hs pins stages old)
swept_is (Ok x) hs pins stages other old new is gone kept =
    subst (λ (test : Name → Bool). new ≡ files_without test old) is (λ i q. by_test (other q) (old q) (new q) (gone q) (kept q) i)
swept_is (Err e) hs pins stages other old new is gone kept = tt

gone_stays : (b : Bool) (x : Option Bytes) → x ≡ None → (if b then None else x) ≡ None
gone_stays true x none = refl
gone_stays false x none = none

pub writable_swept : {T E : Type 0} (result : Result T E) (store : Store) (pins stages : List ℕ) (old new : Files) → OnOk result (new ≡ files_swept store.heights pins stages old) → OnOk result ((h : ℕ) → IsWritable store h old → IsWritable store h new)
writable_swept (Ok x) store pins stages old new is = λ h writable. record {
  room = λ n unused. ap (λ (f : Files). f (name.Page n)) is ∙ gone_stays (is_dispensable store.heights pins stages (name.Page n)) (old (name.Page n)) (writable.room n unused);
  no_draft = ap (λ (f : Files). f (name.Draft h)) is;
}
writable_swept (Err e) store pins stages old new is = tt

-- the same of heights that are the same
pub writes_at : {D T : Type 0} (disk : Ghosts D) (result : Result T DiskError) (hs same : List StoredHeight) (pins stages : List ℕ) (old new : D) → hs ≡ same → Writes disk (is_dispensable hs pins stages) 0 old new result
    → Writes disk (is_dispensable same pins stages) 0 old new result
writes_at disk result hs same pins stages old new is writes = subst (λ (hs : List StoredHeight). Writes disk (is_dispensable hs pins stages) 0 old new result) is writes

-- ---- heights that can be read

module _ (f g : Files) where
  known_on : (stacks : List (List NumberedFile)) (ms : List MarkMemory) → map numbers_of stacks ≡ map (λ memory. memory.layers) ms
      → ((n : ℕ) → list_any (λ memory. list_any (nat_eq n) memory.layers) ms ≡ true → g (name.Page n) ≡ f (name.Page n)) → AllByRecursion (AllByRecursion (IsAsKnown f)) stacks → AllByRecursion (AllByRecursion (IsAsKnown g)) stacks
  known_on [] ms numbers same known = tt
  known_on (stack ∷ stacks) [] numbers same known = absurd cc
  known_on (stack ∷ stacks) (m ∷ ms) numbers same known =
      let parts = heads (numbers_of stack) m.layers (map numbers_of stacks) (map (λ memory. memory.layers) ms) numbers in
      let named : ℕ → Bool = λ n. list_any (λ memory. list_any (nat_eq n) memory.layers) ms in (
        kept_on f g stack (λ n among. same n (or_left (list_any (nat_eq n) m.layers) (named n) (sym (ap (list_any (nat_eq n)) parts.0) ∙ among))) known.0,
        known_on stacks ms parts.1 (λ n among. same n (or_right (list_any (nat_eq n) m.layers) (named n) among)) known.1,
      )

  stacks_on : (hs : List StoredHeight) → AllByRecursion IsHeight hs → ((n : ℕ) → is_named hs n ≡ true → g (name.Page n) ≡ f (name.Page n)) → AllByRecursion (HasStacks f) hs → AllByRecursion (HasStacks g) hs
  stacks_on [] good same known = tt
  stacks_on (h ∷ hs) good same known = (
    known_on h.stacks h.mark.memories good.0.parts.numbers (λ n named. same n (or_left (mark_names h.mark n) (is_named hs n) named)) known.0,
    stacks_on hs good.1 (λ n named. same n (or_right (mark_names h.mark n) (is_named hs n) named)) known.1,
  )

  -- Heights that can be read can be read of all files that have what they need.
  pub readable_on : (hs : List StoredHeight) → AllByRecursion IsHeight hs → ((q : Name) → is_needed hs q ≡ true → g q ≡ f q) → IsReadable hs f → IsReadable hs g
  readable_on hs good same readable = record {
    listed = listing_apart f g (heights_in hs) (λ n. same (name.Mark n) refl) readable.listed;
    marks = each_mark f g hs (λ n. same (name.Mark n) refl) readable.marks;
    stacks = stacks_on hs good (λ n named. same (name.Page n) named) readable.stacks;
  }

pub readable_swept : {T E : Type 0} (result : Result T E) (hs : List StoredHeight) (pins stages : List ℕ) (old new : DiskView) → OnOk result (AllByRecursion IsHeight hs) → TouchesOnly (is_dispensable hs pins stages) old new
    → IsReadable hs old.state.files → OnOk result (IsReadable hs new.state.files)
readable_swept (Ok x) hs pins stages old new good touches readable = readable_on old.state.files new.state.files hs good (λ q needed. touches.reads q (needed_stay hs pins stages q needed)) readable
readable_swept (Err e) hs pins stages old new good touches readable = tt
