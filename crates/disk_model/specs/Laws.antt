-- Laws of files, images and calls.
use Rattle.std.specs.Prelude.{◌≡◌, ◌⊎◌, ℕ, Bool, true, false, ◌&&◌, ◌||◌, if◌then◌else◌, List, [], ◌∷◌, ◌++◌, map, Option, None, is_some, refl}
use Rattle.std.proofs.Common.{inl, inr, ⊎_elim, sym, ◌∙◌, ap, arith}
use Rattle.std.proofs.lemmas.Bool.{cases_Bool, false≢true}
use Rattle.std.proofs.lemmas.Bool.Decides.{nat_tests}
use Rattle.std.proofs.lemmas.Map.Views.{exact_unsigned_eq}
use Rattle.std.specs.List.{AllByRecursion}
use Rattle.disk_model.specs.declared.name.Name.{Name}
use Rattle.disk_model.specs.declared.name.Name.TheVariants.{Page, Mark, Draft, Stage}
use Rattle.disk_model.specs.Files.{Files, same_name, files_with, files_after_rename}
use Rattle.disk_model.specs.State.{DiskState, Shows, ShowsOneOf, IsImageNow, IsSettled, IsFirm, IsLoose, marks_with}
use Rattle.disk_model.specs.Call.{Call, look, settle, create, append, seal, rename, remove, is_given, without, under_way, done}

pub same_name_eq : (a b : Name) → same_name a b ≡ true → a ≡ b
same_name_eq (Page m) (Page n) h = ap Page (exact_unsigned_eq m n h)
same_name_eq (Mark m) (Mark n) h = ap Mark (exact_unsigned_eq m n h)
same_name_eq (Draft m) (Draft n) h = ap Draft (exact_unsigned_eq m n h)
same_name_eq (Stage m) (Stage n) h = ap Stage (exact_unsigned_eq m n h)
same_name_eq _ _ h = absurd (false≢true h)

pub same_name_refl : (a : Name) → same_name a a ≡ true
same_name_refl (Page n) = grind (arith, nat_tests)
same_name_refl (Mark n) = grind (arith, nat_tests)
same_name_refl (Draft n) = grind (arith, nat_tests)
same_name_refl (Stage n) = grind (arith, nat_tests)

pub replaced_here : (f : Files) (n : Name) (x : Option (List ℕ)) (q : Name) → same_name n q ≡ true → files_with f n x q ≡ x
replaced_here f n x q h = rw h refl

pub replaced_apart : (f : Files) (n : Name) (x : Option (List ℕ)) (q : Name) → same_name n q ≡ false → files_with f n x q ≡ f q
replaced_apart f n x q h = rw h refl

pub or_false : (a b : Bool) → (a || b) ≡ false → (a ≡ false) × (b ≡ false)
or_false true b h = absurd (false≢true (sym h))
or_false false b h = (refl, h)

-- ---- possibilities

module _ (loose : Name → Bool) (image : Files) where
  pub shows_left : (xs ys : List Files) → ShowsOneOf loose xs image → ShowsOneOf loose (xs ++ ys) image
  shows_left [] ys h = absurd h
  shows_left (x ∷ xs) ys (inl here) = inl here
  shows_left (x ∷ xs) ys (inr there) = inr (shows_left xs ys there)

  pub shows_right : (xs ys : List Files) → ShowsOneOf loose ys image → ShowsOneOf loose (xs ++ ys) image
  shows_right [] ys h = h
  shows_right (x ∷ xs) ys h = inr (shows_right xs ys h)

  pub shows_either : (xs ys : List Files) → ShowsOneOf loose (xs ++ ys) image → ShowsOneOf loose xs image ⊎ ShowsOneOf loose ys image
  shows_either [] ys h = inr h
  shows_either (x ∷ xs) ys (inl here) = inl (inl here)
  shows_either (x ∷ xs) ys (inr there) = ⊎_elim (λ l. inl (inr l)) (λ r. inr r) (shows_either xs ys there)

-- what each possibility allows, all of them together do
pub shows_map : {loose other : Name → Bool} {image : Files} (g : Files → Files) (P : Files → Type 0) → ((f : Files) → Shows loose (g f) image → (j : Files) × Shows other f j × P j) → (xs : List Files) → ShowsOneOf loose (map g xs) image → (j : Files) × ShowsOneOf other xs j × P j
shows_map g P step [] h = absurd h
shows_map g P step (x ∷ xs) (inl here) = let from = step x here in (from.0, inl from.1, from.2)
shows_map g P step (x ∷ xs) (inr there) = let from = shows_map g P step xs there in (from.0, inr from.1, from.2)

pub shows_each : {loose other : Name → Bool} {image : Files} (P : Files → Type 0) → ((f : Files) → Shows loose f image → (j : Files) × Shows other f j × P j) → (xs : List Files) → ShowsOneOf loose xs image → (j : Files) × ShowsOneOf other xs j × P j
shows_each P step [] h = absurd h
shows_each P step (x ∷ xs) (inl here) = let from = step x here in (from.0, inl from.1, from.2)
shows_each P step (x ∷ xs) (inr there) = let from = shows_each P step xs there in (from.0, inr from.1, from.2)

pub shows_into : {loose other : Name → Bool} {image new : Files} (g : Files → Files) → ((f : Files) → Shows loose f image → Shows other (g f) new) → (xs : List Files) → ShowsOneOf loose xs image → ShowsOneOf other (map g xs) new
shows_into g step [] h = absurd h
shows_into g step (x ∷ xs) (inl here) = inl (step x here)
shows_into g step (x ∷ xs) (inr there) = inr (shows_into g step xs there)

pub shows_more : {loose other : Name → Bool} {image new : Files} → ((f : Files) → Shows loose f image → Shows other f new) → (xs : List Files) → ShowsOneOf loose xs image → ShowsOneOf other xs new
shows_more step [] h = absurd h
shows_more step (x ∷ xs) (inl here) = inl (step x here)
shows_more step (x ∷ xs) (inr there) = inr (shows_more step xs there)

-- ---- calls

-- what a call does to loose marks and to each possibility, off the names that it is given: nothing
marked_here : (m : Name → Bool) (n : Name) (b : Bool) (q : Name) → same_name n q ≡ true → marks_with m n b q ≡ b
marked_here m n b q h = rw h refl

marked_apart : (m : Name → Bool) (n : Name) (b : Bool) (q : Name) → same_name n q ≡ false → marks_with m n b q ≡ m q
marked_apart m n b q h = rw h refl

-- The image with what these files have at the names that a call is given.
abbrev image_with_given : Call → Files → Files → Files
image_with_given call files image = λ q. if is_given call q then files q else image q

restored_shows : (call : Call) (loose other : Name → Bool) (f g image : Files) → ((q : Name) → is_given call q ≡ false → other q ≡ false → (loose q ≡ false) × (g q ≡ f q)) → Shows loose g image
    → (j : Files) × Shows other f j × ((q : Name) → is_given call q ≡ false → image q ≡ j q)
restored_shows call loose other f g image apart shows = (
  image_with_given call f image,
  record {
    firm = λ q firm. elim (cases_Bool (is_given call q)) [
      | inl given ↦ rw given refl
      | inr not_given ↦ let parts = apart q not_given firm in rw not_given (shows.firm q parts.0 ∙ parts.1)
    ];
  },
  λ q not_given. rw not_given refl,
)

-- Each image in the middle of a call is an image before it, but for the names that the call is given.
pub under_way_apart : (call : Call) (s : DiskState) (image : Files) → IsImageNow (under_way call s) image → (j : Files) × IsImageNow s j × ((q : Name) → is_given call q ≡ false → image q ≡ j q)
under_way_apart look s image h = (image, h, λ q _. refl)
under_way_apart settle s image h = (image, h, λ q _. refl)
under_way_apart (create n) s image h = shows_each _ (λ f. restored_shows (create n) _ _ f f image (λ q not_given firm. (marked_apart s.loose n true q not_given ∙ firm, refl))) s.outcomes h
under_way_apart (append n bytes) s image h = shows_each _ (λ f. restored_shows (append n bytes) _ _ f f image (λ q not_given firm. (marked_apart s.loose n true q not_given ∙ firm, refl))) s.outcomes h
under_way_apart (seal n) s image h = shows_each _ (λ f. restored_shows (seal n) _ _ f f image (λ q not_given firm. (marked_apart s.loose n true q not_given ∙ firm, refl))) s.outcomes h
under_way_apart (rename from to) s image h = elim (shows_either _ _ s.outcomes _ h) [
  | inl before ↦ (image, before, λ q _. refl)
  | inr after ↦ shows_map (λ f. files_after_rename f from to (s.files from)) _ (λ f. restored_shows (rename from to) _ _ f (files_after_rename f from to (s.files from)) image (λ q not_given firm.
      let parts = or_false _ _ not_given in (firm, replaced_apart (files_with f from None) to (s.files from) q parts.1 ∙ replaced_apart f from None q parts.0))) s.outcomes after
]
under_way_apart (remove n) s image h = elim (shows_either _ _ s.outcomes _ h) [
  | inl before ↦ (image, before, λ q _. refl)
  | inr after ↦ shows_map (without n) _ (λ f. restored_shows (remove n) _ _ f (without n f) image (λ q not_given firm. (firm, replaced_apart f n None q not_given))) s.outcomes after
]

-- A loose mark more allows more.
looser : (m : Name → Bool) (n : Name) (f image : Files) → Shows m f image → Shows (marks_with m n true) f image
looser m n f image shows = record { firm = λ q firm. shows.firm q (unmarked m n q firm) }
  where
    unmarked : (m : Name → Bool) (n q : Name) → marks_with m n true q ≡ false → m q ≡ false
    unmarked m n q firm = elim (cases_Bool (same_name n q)) [
      | inl same ↦ absurd (false≢true (sym firm ∙ rw same refl))
      | inr apart ↦ sym (marked_apart m n true q apart) ∙ firm
    ]

-- An image before a call is one in the middle of it.
pub under_way_from_before : (call : Call) (s : DiskState) (image : Files) → IsImageNow s image → IsImageNow (under_way call s) image
under_way_from_before look s image h = h
under_way_from_before settle s image h = h
under_way_from_before (create n) s image h = shows_more (λ f shows. looser s.loose n f image shows) s.outcomes h
under_way_from_before (append n bytes) s image h = shows_more (λ f shows. looser s.loose n f image shows) s.outcomes h
under_way_from_before (seal n) s image h = shows_more (λ f shows. looser s.loose n f image shows) s.outcomes h
under_way_from_before (rename from to) s image h = shows_left _ _ s.outcomes _ h
under_way_from_before (remove n) s image h = shows_left _ _ s.outcomes _ h

shows_from : {loose other : Name → Bool} {image : Files} (g : Files → Files) → ((f : Files) → Shows loose (g f) image → Shows other f image) → (xs : List Files) → ShowsOneOf loose (map g xs) image → ShowsOneOf other xs image
shows_from g step [] h = absurd h
shows_from g step (x ∷ xs) (inl here) = inl (step x here)
shows_from g step (x ∷ xs) (inr there) = inr (shows_from g step xs there)

-- A loose mark less allows less.
unloosed : (m : Name → Bool) (n : Name) (q : Name) → m q ≡ false → marks_with m n false q ≡ false
unloosed m n q firm = elim (cases_Bool (same_name n q)) [
  | inl same ↦ rw same refl
  | inr apart ↦ marked_apart m n false q apart ∙ firm
]

unloosed_shows : (m : Name → Bool) (n : Name) (f image : Files) → Shows (marks_with m n false) f image → Shows m f image
unloosed_shows m n f image shows = record { firm = λ q firm. shows.firm q (unloosed m n q firm) }

-- To give a name the same in both keeps what one shows of the other.
both_replaced : (m : Name → Bool) (n : Name) (x : Option (List ℕ)) (f image : Files) → Shows m f image → Shows (marks_with m n false) (files_with f n x) (files_with image n x)
both_replaced m n x f image shows = record {
  firm = λ q firm. elim (cases_Bool (same_name n q)) [
    | inl same ↦ rw same refl
    | inr apart ↦ replaced_apart image n x q apart ∙ shows.firm q (sym (marked_apart m n false q apart) ∙ firm) ∙ sym (replaced_apart f n x q apart)
  ];
}

one_replaced : (m : Name → Bool) (n : Name) (x : Option (List ℕ)) (f image : Files) → Shows m f image → Shows (marks_with m n true) f (files_with image n x)
one_replaced m n x f image shows = record {
  firm = λ q firm. elim (cases_Bool (same_name n q)) [
    | inl same ↦ absurd (false≢true (sym firm ∙ rw same refl))
    | inr apart ↦ replaced_apart image n x q apart ∙ shows.firm q (sym (marked_apart m n true q apart) ∙ firm)
  ];
}

sealed_shows : (m : Name → Bool) (n : Name) (x : Option (List ℕ)) (f image : Files) → Shows (marks_with m n false) (files_with f n x) image → Shows (marks_with m n true) f image
sealed_shows m n x f image shows = record {
  firm = λ q firm. elim (cases_Bool (same_name n q)) [
    | inl same ↦ absurd (false≢true (sym firm ∙ rw same refl))
    | inr apart ↦ shows.firm q (marked_apart m n false q apart ∙ sym (marked_apart m n true q apart) ∙ firm) ∙ replaced_apart f n x q apart
  ];
}

pub replaced_same : (f : Files) (n q : Name) → files_with f n (f n) q ≡ f q
replaced_same f n q = elim (cases_Bool (same_name n q)) [
  | inl same ↦ replaced_here f n (f n) q same ∙ ap f (same_name_eq n q same)
  | inr apart ↦ replaced_apart f n (f n) q apart
]

same_image : (m : Name → Bool) (f image new : Files) → ((q : Name) → new q ≡ image q) → Shows m f image → Shows m f new
same_image m f image new same shows = record { firm = λ q firm. same q ∙ shows.firm q firm }

-- the disk as it reads is one of its images
abbrev pub IsSound : DiskState → Type 0
IsSound s = IsImageNow s s.files

and_false : (a b : Bool) → a ≡ false → (a && b) ≡ false
and_false a b h = rw h refl

-- An image after a call is one in the middle of it.
pub under_way_from_done : (call : Call) (s : DiskState) (image : Files) → IsSound s → IsImageNow (done call s) image → IsImageNow (under_way call s) image
under_way_from_done look s image sound h = h
under_way_from_done settle s image sound (inl shows) = shows_more (λ f read. record { firm = λ q firm. shows.firm q (and_false (s.loose q) (is_some (s.files q)) firm) ∙ read.firm q firm }) s.outcomes sound
under_way_from_done settle s image sound (inr none) = absurd none
under_way_from_done (create n) s image sound h = h
under_way_from_done (append n bytes) s image sound h = h
under_way_from_done (seal n) s image sound h = shows_from (λ f. files_with f n (s.files n)) (λ f shows. sealed_shows s.loose n (s.files n) f image shows) s.outcomes h
under_way_from_done (rename from to) s image sound h =
    shows_right _ _ s.outcomes _ (shows_more (λ f shows. unloosed_shows s.loose from f image (unloosed_shows (marks_with s.loose from false) to f image shows)) _ h)
under_way_from_done (remove n) s image sound h = shows_right _ _ s.outcomes _ (shows_more (λ f shows. unloosed_shows s.loose n f image shows) _ h)

pub done_is_sound : (call : Call) (s : DiskState) → IsSound s → IsSound (done call s)
done_is_sound look s sound = sound
done_is_sound settle s sound = inl (record { firm = λ q _. refl })
done_is_sound (create n) s sound = shows_more (λ f shows. one_replaced s.loose n _ f s.files shows) s.outcomes sound
done_is_sound (append n bytes) s sound = shows_more (λ f shows. one_replaced s.loose n _ f s.files shows) s.outcomes sound
done_is_sound (seal n) s sound = shows_into (λ f. files_with f n (s.files n)) (λ f shows. same_image _ _ _ s.files (λ q. sym (replaced_same s.files n q)) (both_replaced s.loose n (s.files n) f s.files shows)) s.outcomes sound
done_is_sound (rename from to) s sound =
    shows_into (λ f. files_after_rename f from to (s.files from)) (λ f shows. both_replaced (marks_with s.loose from false) to (s.files from) _ _ (both_replaced s.loose from None f s.files shows)) s.outcomes sound
done_is_sound (remove n) s sound = shows_into (without n) (λ f shows. both_replaced s.loose n None f s.files shows) s.outcomes sound

-- A call that fails and changes nothing that reads leaves the disk sound.
pub under_way_is_sound : (call : Call) (s : DiskState) → IsSound s → IsImageNow (under_way call s) s.files
under_way_is_sound call s sound = under_way_from_before call s s.files sound

pub under_way_files : (call : Call) (s : DiskState) → (under_way call s).files ≡ s.files
under_way_files look s = refl
under_way_files settle s = refl
under_way_files (create n) s = refl
under_way_files (append n bytes) s = refl
under_way_files (seal n) s = refl
under_way_files (rename from to) s = refl
under_way_files (remove n) s = refl

shows_same : (m : Name → Bool) (f files image : Files) → Shows m f image → Shows m f files → Shows m files image
shows_same m f files image one other = record { firm = λ q firm. one.firm q firm ∙ sym (other.firm q firm) }

settled_each : (m : Name → Bool) (files image : Files) (outcomes : List Files) → AllByRecursion (λ outcome. Shows m outcome files) outcomes → ShowsOneOf m outcomes image → Shows m files image
settled_each m files image [] settled h = absurd h
settled_each m files image (f ∷ outcomes) settled (inl here) = shows_same m f files image here settled.0
settled_each m files image (f ∷ outcomes) settled (inr there) = settled_each m files image outcomes settled.1 there

-- Where nothing is pending, each image has each firm file as it reads.
pub image_of_settled : (s : DiskState) (image : Files) → IsSettled s → IsImageNow s image → Shows s.loose s.files image
image_of_settled s image settled h = settled_each s.loose s.files image s.outcomes settled h

settled_map : (m n : Name → Bool) (files new : Files) (g : Files → Files) → ((f : Files) → Shows m f files → Shows n (g f) new) → (outcomes : List Files) → AllByRecursion (λ outcome. Shows m outcome files) outcomes → AllByRecursion (λ outcome. Shows n outcome new) (map g outcomes)
settled_map m n files new g step [] settled = tt
settled_map m n files new g step (f ∷ outcomes) settled = (step f settled.0, settled_map m n files new g step outcomes settled.1)

settled_more : (m n : Name → Bool) (files new : Files) → ((f : Files) → Shows m f files → Shows n f new) → (outcomes : List Files) → AllByRecursion (λ outcome. Shows m outcome files) outcomes → AllByRecursion (λ outcome. Shows n outcome new) outcomes
settled_more m n files new step [] settled = tt
settled_more m n files new step (f ∷ outcomes) settled = (step f settled.0, settled_more m n files new step outcomes settled.1)

-- After a call that succeeds nothing is pending that wasn't before it.
pub done_is_settled : (call : Call) (s : DiskState) → IsSettled s → IsSettled (done call s)
done_is_settled look s settled = settled
done_is_settled settle s settled = (record { firm = λ q _. refl }, tt)
done_is_settled (create n) s settled = settled_more s.loose _ s.files _ (λ f shows. one_replaced s.loose n _ f s.files shows) s.outcomes settled
done_is_settled (append n bytes) s settled = settled_more s.loose _ s.files _ (λ f shows. one_replaced s.loose n _ f s.files shows) s.outcomes settled
done_is_settled (seal n) s settled =
    settled_map s.loose _ s.files s.files (λ f. files_with f n (s.files n)) (λ f shows. same_image _ _ _ s.files (λ q. sym (replaced_same s.files n q)) (both_replaced s.loose n (s.files n) f s.files shows)) s.outcomes settled
done_is_settled (rename from to) s settled =
    settled_map s.loose _ s.files _ (λ f. files_after_rename f from to (s.files from)) (λ f shows. both_replaced (marks_with s.loose from false) to (s.files from) _ _ (both_replaced s.loose from None f s.files shows)) s.outcomes settled
done_is_settled (remove n) s settled = settled_map s.loose _ s.files _ (without n) (λ f shows. both_replaced s.loose n None f s.files shows) s.outcomes settled

-- In the middle of a rename where nothing else is pending, each image is as before it or as after it.
pub rename_images : (s : DiskState) (from to : Name) (image : Files) → IsSettled s → IsImageNow (under_way (rename from to) s) image → Shows s.loose s.files image ⊎ Shows s.loose (files_after_rename s.files from to (s.files from)) image
rename_images s from to image settled middle = elim (shows_either _ _ s.outcomes _ middle) [
  | inl before ↦ inl (settled_each s.loose s.files image s.outcomes settled before)
  | inr after ↦ inr (settled_each s.loose (files_after_rename s.files from to (s.files from)) image _ (settled_map s.loose s.loose s.files _ (λ f. files_after_rename f from to (s.files from)) (λ f shows.
      unloosed_shows s.loose from _ _ (unloosed_shows (marks_with s.loose from false) to _ _ (both_replaced (marks_with s.loose from false) to (s.files from) _ _ (both_replaced s.loose from None f s.files shows)))) s.outcomes settled) after)
]

-- and of a removal
pub remove_images : (s : DiskState) (name : Name) (image : Files) → IsSettled s → IsImageNow (under_way (remove name) s) image → Shows s.loose s.files image ⊎ Shows s.loose (without name s.files) image
remove_images s name image settled middle = elim (shows_either _ _ s.outcomes _ middle) [
  | inl before ↦ inl (settled_each s.loose s.files image s.outcomes settled before)
  | inr after ↦ inr (settled_each s.loose (without name s.files) image _ (settled_map s.loose s.loose s.files _ (without name) (λ f shows. unloosed_shows s.loose name _ _ (both_replaced s.loose name None f s.files shows)) s.outcomes settled) after)
]

-- ---- what a call leaves of the names that it is given

pub created_loose : (s : DiskState) (n : Name) → IsLoose (done (create n) s) n
created_loose s n = record { there = ap is_some (replaced_here s.files n _ n (same_name_refl n)); loose = marked_here s.loose n true n (same_name_refl n) }

pub appended_loose : (s : DiskState) (n : Name) (bytes : List ℕ) → IsLoose (done (append n bytes) s) n
appended_loose s n bytes = record { there = ap is_some (replaced_here s.files n _ n (same_name_refl n)); loose = marked_here s.loose n true n (same_name_refl n) }

pub sealed_firm : (s : DiskState) (n : Name) → IsLoose s n → IsFirm (done (seal n) s) n
sealed_firm s n was = record { there = was.there; firm = marked_here s.loose n false n (same_name_refl n) }

-- A firm file that the call isn't given stays firm.
pub done_firm_apart : (call : Call) (s : DiskState) (q : Name) → is_given call q ≡ false → s.loose q ≡ false → (done call s).loose q ≡ false
done_firm_apart look s q apart firm = firm
done_firm_apart settle s q apart firm = and_false (s.loose q) (is_some (s.files q)) firm
done_firm_apart (create n) s q apart firm = marked_apart s.loose n true q apart ∙ firm
done_firm_apart (append n bytes) s q apart firm = marked_apart s.loose n true q apart ∙ firm
done_firm_apart (seal n) s q apart firm = marked_apart s.loose n false q apart ∙ firm
done_firm_apart (rename from to) s q apart firm = unloosed (marks_with s.loose from false) to q (unloosed s.loose from q firm)
done_firm_apart (remove n) s q apart firm = marked_apart s.loose n false q apart ∙ firm

-- ---- what each image has after a call that succeeded

mapped_at : (m : Name → Bool) (g : Files → Files) (n : Name) (x : Option (List ℕ)) (image : Files) → ((f : Files) → g f n ≡ x) → m n ≡ false → (outcomes : List Files) → ShowsOneOf m (map g outcomes) image → image n ≡ x
mapped_at m g n x image all firm [] h = absurd h
mapped_at m g n x image all firm (f ∷ outcomes) (inl here) = here.firm n firm ∙ all f
mapped_at m g n x image all firm (f ∷ outcomes) (inr there) = mapped_at m g n x image all firm outcomes there

pub sealed_is_there : (s : DiskState) (n : Name) (image : Files) → IsImageNow (done (seal n) s) image → image n ≡ s.files n
sealed_is_there s n image h = mapped_at _ (λ f. files_with f n (s.files n)) n (s.files n) image (λ f. replaced_here f n (s.files n) n (same_name_refl n)) (marked_here s.loose n false n (same_name_refl n)) s.outcomes h

pub removed_is_gone : (s : DiskState) (n : Name) (image : Files) → IsImageNow (done (remove n) s) image → image n ≡ None
removed_is_gone s n image h = mapped_at _ (without n) n None image (λ f. replaced_here f n None n (same_name_refl n)) (marked_here s.loose n false n (same_name_refl n)) s.outcomes h

pub renamed_is_there : (s : DiskState) (from to : Name) (image : Files) → IsImageNow (done (rename from to) s) image → image to ≡ s.files from
renamed_is_there s from to image h = mapped_at _ (λ f. files_after_rename f from to (s.files from)) to (s.files from) image (λ f. replaced_here (files_with f from None) to (s.files from) to (same_name_refl to)) (marked_here (marks_with s.loose from false) to false to (same_name_refl to)) s.outcomes h

pub renamed_is_gone : (s : DiskState) (from to : Name) (image : Files) → same_name to from ≡ false → IsImageNow (done (rename from to) s) image → image from ≡ None
renamed_is_gone s from to image apart h =
    mapped_at _ (λ f. files_after_rename f from to (s.files from)) from None image (λ f. replaced_apart (files_with f from None) to (s.files from) from apart ∙ replaced_here f from None from (same_name_refl from))
    (marked_apart (marks_with s.loose from false) to false from apart ∙ marked_here s.loose from false from (same_name_refl from)) s.outcomes h

-- After `settle` each image has each firm file as it reads, and so does the disk.
pub settled_is_settled : (s : DiskState) → IsSettled (done settle s)
settled_is_settled s = (record { firm = λ q _. refl }, tt)
