-- What follows from how a store and its disk belong together.
use Rattle.std.specs.Prelude.{◌≡◌, ◌==◌, ℕ, suc, ◌+◌, ◌<◌, ◌≤◌, length, Bool, true, false, List, [], ◌∷◌, Some, None, is_some, slice_index, find, Result, Ok, Err, OnOk, refl}
use Rattle.std.specs.List.{AllByRecursion, AllZip, last_or}
use Rattle.std.specs.List.Sorted.{IsStrictlyIncreasing}
use Rattle.std.proofs.Common.{◌∙◌, ap, cond, subst, sym, arith}
use Rattle.std.proofs.lemmas.Bool.{false≢true}
use Rattle.std.proofs.lemmas.Bool.Decides.{nat_tests}
use Rattle.std.proofs.lemmas.Option.{same_Some}
use Rattle.format_spec.specs.declared.limits.TheConstants.{MAX_PUBLISHED}
use Rattle.state_spec.specs.State.{SystemPart}
use Rattle.sys_state.specs.System.{part_of}
use Rattle.store_spec.specs.Image.{Published, StandsFor, OpensAt}
use Rattle.store_spec.specs.Mark.{Mark}
use Rattle.disk_model.specs.declared.disk.DiskError.{DiskError}
use Rattle.disk_model.specs.declared.name.Kind.TheVariants as kind
use Rattle.disk_model.specs.declared.name.Name.{Name}
use Rattle.disk_model.specs.declared.name.Name.TheVariants as name
use Rattle.disk_model.specs.Files.{Files, IsListing}
use Rattle.disk_model.specs.State.{DiskState, IsSettled}
use Rattle.disk_model.specs.Call.{Call, is_given}
use Rattle.disk_model.specs.View.{DiskView, EachImage, LeavesOnly, Does}
use Rattle.disk_model.specs.Moments.{weaker}
use Rattle.disk_model.specs.Frame.{DependsOnly, Spares, TouchesOnly, touches_call, touches_keep_images}
use Rattle.disk_model.specs.Laws.{IsSound, image_of_settled}
use Rattle.page_file.specs.Files.{NumberedFile}
use Rattle.height_store.specs.Standing.{heights_shown, marks_open}
use Rattle.height_store.specs.Store.{Store, StoredHeight, IsHeight, height_at, heights_in, mark_names, is_named, is_needed}
use Rattle.height_store.specs.Kept.{HasStacks, IsReadable, IsWritable, MatchesFiles, IsMadeOf, ShowsHeight, ShowsHeights, KeepsHeights}
use Rattle.height_store.specs.Shown.{or_left, or_right, listing_apart, stacks_apart, heights_given, heights_opened, same_heights, same_count}

-- Files that have the marks and page files of some heights stand for them.
pub shown_stands : (files : Files) (hs : List StoredHeight) (ps : List Published) → ShowsHeights files hs ps → StandsFor files ps
shown_stands files hs ps shows = record {
  marks = subst (IsListing kind.Mark files) (same_heights files hs ps shows.each) shows.listed;
  few = subst (λ (count : ℕ). count ≤ MAX_PUBLISHED) (same_count files hs ps shows.each) shows.few;
  versions = heights_opened files hs ps shows.each;
  each = heights_given files hs ps shows.each;
}

-- What files give of a height is the same of all files that have its page files.
pub made_apart : (f g : Files) (m : Mark) (s : SystemPart) (stacks : List (List NumberedFile)) (p : Published) → ((n : ℕ) → mark_names m n ≡ true → g (name.Page n) ≡ f (name.Page n)) → IsMadeOf f m s stacks p → IsMadeOf g m s stacks p
made_apart f g m s stacks p same made = record {
  good = made.good;
  height = made.height;
  layers = made.layers;
  there = stacks_apart f g stacks m.memories made.layers made.good.numbers same made.there;
  same_state = made.same_state;
  same_layers = made.same_layers;
  true_sums = made.true_sums;
}

module _ (f g : Files) (marks : (n : ℕ) → g (name.Mark n) ≡ f (name.Mark n)) where
  heights_apart : (hs : List StoredHeight) (ps : List Published) → ((n : ℕ) → is_named hs n ≡ true → g (name.Page n) ≡ f (name.Page n)) → AllZip (ShowsHeight f) hs ps → AllZip (ShowsHeight g) hs ps
  heights_apart [] [] pages each = tt
  heights_apart [] (p ∷ ps) pages each = absurd each
  heights_apart (h ∷ hs) [] pages each = absurd each
  heights_apart (h ∷ hs) (p ∷ ps) pages each = (
    record {
      good = each.0.good;
      mark = marks h.mark.height ∙ each.0.mark;
      made = made_apart f g h.mark (part_of h.system) h.stacks p (λ n named. pages n (or_left (mark_names h.mark n) (is_named hs n) named)) each.0.made;
    },
    heights_apart hs ps (λ n named. pages n (or_right (mark_names h.mark n) (is_named hs n) named)) each.1,
  )

-- That speaks of the marks and of the page files that they name alone.
pub shown_depends : (hs : List StoredHeight) (ps : List Published) → DependsOnly (is_needed hs) (λ files. ShowsHeights files hs ps)
shown_depends hs ps = record {
  carries = λ f g same shows. record {
    listed = listing_apart f g (heights_in hs) (λ n. same (name.Mark n) refl) shows.listed;
    few = shows.few;
    each = heights_apart f g (λ n. same (name.Mark n) refl) hs ps (λ n named. same (name.Page n) named) shows.each;
  };
}

-- Where nothing is pending and no file is loose that the heights need, each image has what the disk reads.
pub settled_keeps : (hs : List StoredHeight) (s : DiskState) (ps : List Published) → IsSettled s → ((q : Name) → is_needed hs q ≡ true → s.loose q ≡ false) → ShowsHeights s.files hs ps → KeepsHeights hs s ps
settled_keeps hs s ps settled firm shows = record {
  images = λ image now. (shown_depends hs ps).carries s.files image (λ q needed. (image_of_settled s image settled now).firm q (firm q needed)) shows;
  firm = firm;
}

-- Where the heights are kept, each image stands for them.
pub kept_stands : (hs : List StoredHeight) (s : DiskState) (ps : List Published) → KeepsHeights hs s ps → EachImage s (λ image. StandsFor image ps)
kept_stands hs s ps keeps = λ image now. shown_stands image hs ps (keeps.images image now)

-- They stay so through calls that touch other names alone,
pub kept_apart : (given : Name → Bool) (old new : DiskView) (hs : List StoredHeight) (ps : List Published) → ((q : Name) → is_needed hs q ≡ true → given q ≡ false) → TouchesOnly given old new → KeepsHeights hs old.state ps → KeepsHeights hs new.state ps
kept_apart given old new hs ps apart touches keeps = record {
  images = (touches_keep_images given (is_needed hs) (λ files. ShowsHeights files hs ps) old new (shown_depends hs ps) apart touches keeps.images).now;
  firm = λ q needed. touches.firm q (apart q needed) (keeps.firm q needed);
}

-- and so through each call that is given no name which the heights need, whatever the call answers.
pub kept_through : {T : Type 0} (call : Call) (result : Result T DiskError) (old new : DiskView) (hs : List StoredHeight) (ps : List Published) → IsSound old.state → Spares call (is_needed hs) → Does call result old new → KeepsHeights hs old.state ps → KeepsHeights hs new.state ps
kept_through call result old new hs ps sound spares does keeps = kept_apart (is_given call) old new hs ps spares (touches_call call result old new (is_given call) (λ q apart. apart) sound does) keeps

-- Meanwhile each image stands for them.
pub stands_apart : (given : Name → Bool) (old new : DiskView) (hs : List StoredHeight) (ps : List Published) → ((q : Name) → is_needed hs q ≡ true → given q ≡ false) → TouchesOnly given old new → KeepsHeights hs old.state ps → LeavesOnly old new (λ image. StandsFor image ps)
stands_apart given old new hs ps apart touches keeps =
    weaker old new (λ image. ShowsHeights image hs ps) (λ image. StandsFor image ps) (λ image shows. shown_stands image hs ps shows)
    (touches_keep_images given (is_needed hs) (λ files. ShowsHeights files hs ps) old new (shown_depends hs ps) apart touches keeps.images)

-- The heights that files stand for are those that can be read.
pub stands_shown : (hs : List StoredHeight) (files : Files) (ps : List Published) → AllByRecursion IsHeight hs → IsReadable hs files → StandsFor files ps → ShowsHeights files hs ps
stands_shown hs files ps good readable stands = heights_shown files hs ps good readable.listed readable.marks readable.stacks stands

-- Files whose heights can be read open.
pub readable_opens : (hs : List StoredHeight) (files : Files) → AllByRecursion IsHeight hs → length hs ≤ MAX_PUBLISHED → IsReadable hs files → (ps : List Published) × OpensAt files ps
readable_opens hs files good few readable = marks_open files hs good few readable.listed readable.marks readable.stacks

-- What a call on a store and its disk leaves at Ok, where it keeps both.
pub over_after : {T E : Type 0} (r : Result T E) (old new : Store) (f g : Files) → MatchesFiles old f → OnOk r (IsReadable new.heights g) → OnOk r ((height : ℕ) → IsWritable old height f → IsWritable new height g) → OnOk r (MatchesFiles new g)
over_after (Ok x) old new f g over readable writable = record { readable = readable; writable = λ height. writable height (over.writable height) }
over_after (Err e) old new f g over readable writable = tt

-- ---- a height that is found

not_some : {X : Type 0} (x : X) → None ≡ Some x → ⊥
not_some x is = false≢true (ap is_some is)

-- what holds of all holds of the one that is found
pub found_has : (P : StoredHeight → Type 0) (p : StoredHeight → Bool) (hs : List StoredHeight) (h : StoredHeight) → find p hs ≡ Some h → AllByRecursion P hs → P h
found_has P p [] h is all = absurd (not_some h is)
found_has P p (x ∷ hs) h is all = step (p x) (λ e. found_has P p hs h e all.1) is
  where
    step : (b : Bool) → (find p hs ≡ Some h → P h) → cond b (Some x) (find p hs) ≡ Some h → P h
    step true later e = subst P (same_Some x h e) all.0
    step false later e = later e

-- Where the heights can be read, the page files of one that is found are there.
pub stacks_found : (files : Files) (hs : List StoredHeight) (height : ℕ) (h : StoredHeight) → Some h ≡ height_at hs height → IsReadable hs files → HasStacks files h
stacks_found files hs height h found readable = found_has (HasStacks files) (λ x. x.mark.height == height) hs h (sym found) readable.stacks

-- ---- the newest height

pub tail_ascends : (x : ℕ) (xs : List ℕ) → IsStrictlyIncreasing (x ∷ xs) → IsStrictlyIncreasing xs
tail_ascends x xs up k within =
    let next : suc k + 1 ≡ suc (k + 1) = omega arith in
    subst (λ (i : ℕ). slice_index (x ∷ xs) (suc k) < slice_index (x ∷ xs) i) next (up (suc k) (omega (arith, within)))

pub last_above : (x : ℕ) (xs : List ℕ) (last : ℕ) → IsStrictlyIncreasing (x ∷ xs) → Some last ≡ last_or (Some x) xs → x ≤ last
last_above x [] last up e = let one : last ≡ x = cc e in omega (arith, one)
last_above x (y ∷ xs) last up e =
    let below : x < y = up 0 (omega arith) in
    omega (arith, below, last_above y xs last (tail_ascends x (y ∷ xs) up) e)

pub last_height : (hs : List StoredHeight) (h : StoredHeight) → Some h ≡ last_or None hs → Some h.mark.height ≡ last_or None (heights_in hs)
last_height [] h e = absurd (cc e)
last_height (x ∷ []) h e = let one : h ≡ x = cc e in ap (λ (y : StoredHeight). Some y.mark.height) one
last_height (x ∷ y ∷ hs) h e = last_height (y ∷ hs) h e

-- The last of ascending heights is found.
pub last_found : (hs : List StoredHeight) (h : StoredHeight) → IsStrictlyIncreasing (heights_in hs) → Some h ≡ last_or None hs → Some h ≡ height_at hs h.mark.height
last_found [] h up e = absurd (cc e)
last_found (x ∷ []) h up e =
    let one : x ≡ h = cc e in
    let here : (x.mark.height == h.mark.height) ≡ true = grind (arith, nat_tests, ap (λ (y : StoredHeight). y.mark.height) one) in
    rw here e
last_found (x ∷ y ∷ hs) h up e =
    let more = tail_ascends x.mark.height (heights_in (y ∷ hs)) up in
    let below : x.mark.height < y.mark.height = up 0 (omega arith) in
    let above : y.mark.height ≤ h.mark.height = last_above y.mark.height (heights_in hs) h.mark.height more (last_height (y ∷ hs) h e) in
    let apart : (x.mark.height == h.mark.height) ≡ false = grind (arith, nat_tests, below, above) in
    rw apart (last_found (y ∷ hs) h more e)
