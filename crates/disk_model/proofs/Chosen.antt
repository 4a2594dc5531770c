-- The image that a disk in memory makes is the one of its choice, and one that a crash may leave.
use Rattle.std.proofs.Common.{◌≡◌, ℕ, Bool, true, false, ◌||◌, ◌&&◌, ◌==◌, ◌/◌, ◌%◌, List, [], ◌∷◌, ◌++◌, map, is_some, Option, None, unwrap_or, if◌then◌else◌, refl, inl, inr, sym, ◌∙◌, ap, subst, cond}
use Rattle.std.proofs.lemmas.Bool.{cases_Bool}
use Rattle.format_spec.proofs.Lists.{and_false}
use Rattle.disk_model.specs.declared.name.Name.{Name}
use Rattle.disk_model.specs.declared.event.Event.{Event}
use Rattle.disk_model.specs.Files.{Files, same_name, files_with, files_after_rename}
use Rattle.disk_model.specs.State.{DiskState, Shows, ShowsOneOf, IsImageNow, marks_with}
use Rattle.disk_model.specs.Call.{Call, look, settle, create, append, seal, rename, remove, without, under_way, done}
use Rattle.disk_model.specs.View.{DiskView}
use Rattle.disk_model.specs.Mem.{fresh_view}
use Rattle.disk_model.specs.Record.{call_of, disk_of_files, after_event, state_after, view_of}
use Rattle.disk_model.specs.Images.{spoiled_file, spoiled_where, last_from, outcome_chosen, image_of, chosen_after, chosen_of, is_marked, is_marked_after}
use Rattle.disk_model.specs.Laws.{replaced_apart}
use Rattle.disk_model.specs.Frame.{done_apart}

-- ---- the possibility that a choice takes

-- f is chosen among these, of which there is one at least
abbrev IsPicked : Bool → Files → List Files → Type 0
IsPicked happened f [] = ⊥
IsPicked happened f (x ∷ xs) = f ≡ outcome_chosen happened (x ∷ xs)

last_map : (g : Files → Files) (x : Files) (xs : List Files) → last_from (g x) (map g xs) ≡ g (last_from x xs)
last_map g x [] = refl
last_map g x (y ∷ xs) = last_map g y xs

last_append : (x y : Files) (xs ys : List Files) → last_from x (xs ++ y ∷ ys) ≡ last_from y ys
last_append x y [] ys = refl
last_append x y (z ∷ xs) ys = last_append z y xs ys

picked_map : (happened : Bool) (g : Files → Files) (f : Files) (xs : List Files) → IsPicked happened f xs → IsPicked happened (g f) (map g xs)
picked_map happened g f [] is = absurd is
picked_map true g f (x ∷ xs) is = ap g is ∙ sym (last_map g x xs)
picked_map false g f (x ∷ xs) is = ap g is

picked_either : (happened : Bool) (g : Files → Files) (f : Files) (xs : List Files) → IsPicked happened f xs → IsPicked happened (if happened then g f else f) (xs ++ map g xs)
picked_either happened g f [] is = absurd is
picked_either true g f (x ∷ xs) is = ap g is ∙ sym (last_map g x xs) ∙ sym (last_append x (g x) xs (map g xs))
picked_either false g f (x ∷ xs) is = is

picked_one : (happened : Bool) (f : Files) → IsPicked happened f (f ∷ [])
picked_one true f = refl
picked_one false f = refl

picked_step : (happened : Bool) (call : Call) (b : Bool) (s : DiskState) (f : Files) → IsPicked happened f s.outcomes → IsPicked happened (chosen_after happened call b s.files f) (cond b (done call s) (under_way call s)).outcomes
picked_step happened look true s f h = h
picked_step happened look false s f h = h
picked_step happened settle true s f h = picked_one happened s.files
picked_step happened settle false s f h = h
picked_step happened (create n) true s f h = h
picked_step happened (create n) false s f h = h
picked_step happened (append n bytes) true s f h = h
picked_step happened (append n bytes) false s f h = h
picked_step happened (seal n) true s f h = picked_map happened (λ f. files_with f n (s.files n)) f s.outcomes h
picked_step happened (seal n) false s f h = h
picked_step happened (rename from to) true s f h = picked_map happened (λ f. files_after_rename f from to (s.files from)) f s.outcomes h
picked_step happened (rename from to) false s f h = picked_either happened (λ f. files_after_rename f from to (s.files from)) f s.outcomes h
picked_step happened (remove n) true s f h = picked_map happened (without n) f s.outcomes h
picked_step happened (remove n) false s f h = picked_either happened (without n) f s.outcomes h

reading_step : (call : Call) (b : Bool) (s : DiskState) → (cond b (done call s) (under_way call s)).files ≡ (cond b (done call (disk_of_files s.files)) (under_way call (disk_of_files s.files))).files
reading_step look true s = refl
reading_step look false s = refl
reading_step settle true s = refl
reading_step (create n) true s = refl
reading_step (append n bytes) true s = refl
reading_step (seal n) true s = refl
reading_step (rename from to) true s = refl
reading_step (remove n) true s = refl
reading_step settle false s = refl
reading_step (create n) false s = refl
reading_step (append n bytes) false s = refl
reading_step (seal n) false s = refl
reading_step (rename from to) false s = refl
reading_step (remove n) false s = refl

picked_after : (happened : Bool) (s : DiskState) (f : Files) (es : List Event) → IsPicked happened f s.outcomes → IsPicked happened (chosen_of happened s.files f es) (state_after s es).outcomes
picked_after happened s f [] h = h
picked_after happened s f (e ∷ es) h =
    subst (λ (r : Files). IsPicked happened (chosen_of happened r (chosen_after happened (call_of e.act) e.done s.files f) es) (state_after (after_event s e) es).outcomes) (reading_step (call_of e.act) e.done s)
    (picked_after happened (after_event s e) (chosen_after happened (call_of e.act) e.done s.files f) es (picked_step happened (call_of e.act) e.done s f h))

picked_is : (happened : Bool) (f : Files) (xs : List Files) → IsPicked happened f xs → f ≡ outcome_chosen happened xs
picked_is happened f [] h = absurd h
picked_is happened f (x ∷ xs) h = h

pub chosen_is : (happened : Bool) (first : Files) (es : List Event) → chosen_of happened first first es ≡ outcome_chosen happened (state_after (disk_of_files first) es).outcomes
chosen_is happened first es = picked_is happened _ _ (picked_after happened (disk_of_files first) first es (picked_one happened first))

-- ---- which files are loose

-- the mark is that of the disk where a file is there
abbrev Marks : Bool → DiskState → Name → Type 0
Marks was s q = is_some (s.files q) ≡ true → was ≡ s.loose q

and_true : (a b : Bool) → b ≡ true → a ≡ (a && b)
and_true true b h = sym h
and_true false b h = refl

marks_same : (was mark : Bool) (m : Name → Bool) (n q : Name) → (same_name n q ≡ false → was ≡ m q) → (if same_name n q then mark else was) ≡ marks_with m n mark q
marks_same was mark m n q h = elim (cases_Bool (same_name n q)) [ inl same ↦ rw same refl | inr apart ↦ rw apart (h apart) ]

there_apart : (f : Files) (n : Name) (x : Option (List ℕ)) (q : Name) → same_name n q ≡ false → is_some (files_with f n x q) ≡ true → is_some (f q) ≡ true
there_apart f n x q apart there = sym (ap is_some (replaced_apart f n x q apart)) ∙ there

moved_marks : (was : Bool) (m : Name → Bool) (from to q : Name) → ((same_name from q || same_name to q) ≡ false → was ≡ m q) → (if same_name from q || same_name to q then false else was) ≡ marks_with (marks_with m from false) to false q
moved_marks was m from to q h = elim (cases_Bool (same_name to q)) [
  | inl same ↦ elim (cases_Bool (same_name from q)) [ inl other ↦ rw (same, other) refl | inr apart ↦ rw (same, apart) refl ]
  | inr apart ↦ elim (cases_Bool (same_name from q)) [ inl other ↦ rw (apart, other) refl | inr off ↦ rw (apart, off) (h (rw (off, apart) refl)) ]
]

marks_step : (q : Name) (was : Bool) (call : Call) (b : Bool) (s : DiskState) → Marks was s q → Marks (is_marked q was call b) (cond b (done call s) (under_way call s)) q
marks_step q was look true s h = h
marks_step q was look false s h = h
marks_step q was settle true s h = λ there. h there ∙ and_true (s.loose q) (is_some (s.files q)) there
marks_step q was settle false s h = h
marks_step q was (create n) true s h = λ there. marks_same was true s.loose n q (λ apart. h (there_apart s.files n _ q apart there))
marks_step q was (create n) false s h = λ there. marks_same was true s.loose n q (λ apart. h there)
marks_step q was (append n bytes) true s h = λ there. marks_same was true s.loose n q (λ apart. h (there_apart s.files n _ q apart there))
marks_step q was (append n bytes) false s h = λ there. marks_same was true s.loose n q (λ apart. h there)
marks_step q was (seal n) true s h = λ there. marks_same was false s.loose n q (λ apart. h there)
marks_step q was (seal n) false s h = λ there. marks_same was true s.loose n q (λ apart. h there)
marks_step q was (rename from to) true s h = λ there. moved_marks was s.loose from to q (λ apart. h (sym (ap is_some (done_apart (rename from to) s q apart)) ∙ there))
marks_step q was (rename from to) false s h = h
marks_step q was (remove n) true s h = λ there. marks_same was false s.loose n q (λ apart. h (there_apart s.files n None q apart there))
marks_step q was (remove n) false s h = h

marks_after : (q : Name) (was : Bool) (s : DiskState) (es : List Event) → Marks was s q → Marks (is_marked_after q was es) (state_after s es) q
marks_after q was s [] h = h
marks_after q was s (e ∷ es) h = marks_after q (is_marked q was (call_of e.act) e.done) (after_event s e) es (marks_step q was (call_of e.act) e.done s h)

-- ---- the image

same_test : (a b there : Bool) → (there ≡ true → a ≡ b) → (a && there) ≡ (b && there)
same_test a b there h = elim (cases_Bool there) [ inl is ↦ ap (λ (t : Bool). t && there) (h is) | inr not_there ↦ and_false a there not_there ∙ sym (and_false b there not_there) ]

pub image_is : (first : Files) (es : List Event) (choice : ℕ) (reading chosen image : Files) → reading ≡ (state_after (disk_of_files first) es).files → ((q : Name) → chosen q ≡ chosen_of (choice % 2 == 1) first first es q)
    → ((q : Name) → image q ≡ spoiled_where (choice / 2 % 4) (λ q. is_marked_after q false es) reading chosen q) → image ≡ image_of choice (state_after (disk_of_files first) es)
unfolding image_of
image_is first es choice reading chosen image reads is spoils = λ i q. (
    spoils q
    ∙ ap (λ (f : Files). spoiled_where (choice / 2 % 4) (λ q. is_marked_after q false es) f chosen q) reads
    ∙ ap (λ (t : Bool). if t then spoiled_file (choice / 2 % 4) (unwrap_or (state.files q) []) else chosen q) (same_test (is_marked_after q false es) (state.loose q) (is_some (state.files q)) (marks_after q false (disk_of_files first) es (λ _. refl)))
    ∙ ap (λ (x : Option (List ℕ)). if state.loose q && is_some (state.files q) then spoiled_file (choice / 2 % 4) (unwrap_or (state.files q) []) else x) (is q ∙ ap (λ (f : Files). f q) (chosen_is (choice % 2 == 1) first es))
    ) i
  where
    state : DiskState
    state = state_after (disk_of_files first) es

shows_picked : (happened : Bool) (m : Name → Bool) (f image : Files) (xs : List Files) → IsPicked happened f xs → Shows m f image → ShowsOneOf m xs image
shows_picked happened m f image [] is shows = absurd is
shows_picked false m f image (x ∷ xs) is shows = inl (subst (λ (f : Files). Shows m f image) is shows)
shows_picked true m f image (x ∷ []) is shows = inl (subst (λ (f : Files). Shows m f image) is shows)
shows_picked true m f image (x ∷ y ∷ xs) is shows = inr (shows_picked true m f image (y ∷ xs) is shows)

-- Each choice is an image that a crash may leave.
pub choice_is_image : (first : Files) (es : List Event) (choice : ℕ) → IsImageNow (state_after (disk_of_files first) es) (image_of choice (state_after (disk_of_files first) es))
unfolding image_of
choice_is_image first es choice =
    let s = state_after (disk_of_files first) es in
    let happened = choice % 2 == 1 in
    let f = chosen_of happened first first es in
    shows_picked happened s.loose f (image_of choice s) s.outcomes (picked_after happened (disk_of_files first) first es (picked_one happened first))
    (record { firm = λ q firm. rw firm (ap (λ (f : Files). f q) (sym (chosen_is happened first es))) })

-- a disk with these files, of which no call was asked
pub fresh_is : (first files : Files) (es : List Event) → es ≡ [] → first ≡ files → view_of first es 0 ≡ fresh_view files
fresh_is first files es none same = λ i. view_of (same i) (none i) 0

pub fresh_is_image : (s : DiskState) (v : DiskView) (choice : ℕ) → v ≡ fresh_view (image_of choice s) → IsImageNow s (image_of choice s) → IsImageNow s v.state.files
fresh_is_image s v choice is image = subst (λ (f : Files). IsImageNow s f) (sym (ap (λ (v : DiskView). v.state.files) is)) image
