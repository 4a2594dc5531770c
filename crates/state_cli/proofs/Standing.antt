-- What the images of a disk stand for, before a line and where the disk doesn't open.
use Rattle.std.proofs.Common.{◌≡◌, ◌≤◌, ℕ, suc, List, [], ◌∷◌, length, Option, Some, None, Result, Ok, Err, Bool, IsTrue, IsErrOf, refl, ◌∙◌, ap, sym, subst, inl, arith}
use Rattle.std.specs.List.{AllByRecursion, AllZip}
use Rattle.format_spec.specs.declared.limits.TheConstants.{MAX_PUBLISHED}
use Rattle.state_spec.specs.State.{SameState, state_from}
use Rattle.store_spec.specs.Image.{Published, SamePublished, IsOpened, GivesHeight, GivesTrueHeight, StandsFor, Opens, heights_of, memories_from}
use Rattle.store_spec.specs.Mark.{IsMarkText, is_opened}
use Rattle.store_spec.proofs.Images.{opens_once, stands_open}
use Rattle.disk_model.specs.declared.name.Kind.TheVariants as kind
use Rattle.disk_model.specs.declared.name.Name.TheVariants as name
use Rattle.disk_model.specs.Files.{Files, IsListing}
use Rattle.disk_model.specs.State.{DiskState, IsImageNow}
use Rattle.disk_model.specs.View.{DiskView, EachImage, LeavesOnly}
use Rattle.disk_model.specs.Moments.{at_start, weaker}
use Rattle.height_store.specs.Kept.{StandsForSome, StandsAsBefore, StandsForEither}
use Rattle.height_store.specs.Laws.{kept_stands}
use Rattle.height_store.specs.Bad.{IsFirstBadMark, IsFirstBadPage}
use Rattle.height_store.specs.Refused.{bad_mark_refused, bad_page_refused}
use Rattle.machine_spec.specs.Machine.{Machine, anew, newest, resumed_at, start}
use Rattle.machine_spec.proofs.Opened.{same_version}
use Rattle.state_manager.specs.Kept.{ManagerView, Keeps}
use Rattle.state_manager.specs.declared.stop.OpenError.{OpenError}
use Rattle.state_manager.specs.declared.stop.OpenError.TheVariants as opening
use Rattle.script_text.specs.declared.ending.RunStop.{RunStop}
use Rattle.script_text.specs.declared.ending.RunStop.TheVariants as stops
use Rattle.state_cli.proofs.Turns.{part_only}
use Rattle.state_cli.specs.Ends.{EndsBy, EndsFrom, IsAtStart, IsOpen, PlaysBehind, StandsAs, all_shown}
use Rattle.state_cli.specs.Stops.{stop_of_opening}

-- ---- equal heights

same_heights : (ps qs : List Published) → AllZip SamePublished ps qs → heights_of ps ≡ heights_of qs
same_heights [] [] same = refl
same_heights [] (q ∷ qs) same = absurd same
same_heights (p ∷ ps) [] same = absurd same
same_heights (p ∷ ps) (q ∷ qs) same = λ i. same.0.height i ∷ same_heights ps qs same.1 i

same_count : (ps qs : List Published) → AllZip SamePublished ps qs → length ps ≡ length qs
same_count [] [] same = refl
same_count [] (q ∷ qs) same = absurd same
same_count (p ∷ ps) [] same = absurd same
same_count (p ∷ ps) (q ∷ qs) same = ap suc (same_count ps qs same.1)

module _ (files : Files) where
  -- an equal height is given by the same mark, with the same hashes
  abbrev gives_same : (p q : Published) → SamePublished p q → GivesHeight files p → GivesHeight files q
  gives_same p q same g = record {
    text = g.text;
    there = subst (λ (h : ℕ). files (name.Mark h) ≡ Some g.text) same.height g.there;
    mark = g.mark;
    system = g.system;
    layers = g.layers;
    spelled = subst (λ (h : ℕ). IsMarkText h g.text g.mark g.system) same.height g.spelled;
    layers_there = g.layers_there;
    same_state = sym same.state ∙ subst (λ (h : ℕ). SameState p.state (state_from g.mark.version h g.system (memories_from g.system g.layers))) same.height g.same_state;
    same_layers = sym same.layers ∙ g.same_layers;
  }

  all_same : (ps qs : List Published) → AllZip SamePublished ps qs → AllByRecursion (GivesTrueHeight files) ps → AllByRecursion (GivesTrueHeight files) qs
  all_same [] [] same each = tt
  all_same [] (q ∷ qs) same each = absurd same
  all_same (p ∷ ps) [] same each = absurd same
  all_same (p ∷ ps) (q ∷ qs) same each = ((gives_same p q same.0 each.0.0, each.0.1), all_same ps qs same.1 each.1)

  all_opened : (ps qs : List Published) → AllZip SamePublished ps qs → AllByRecursion IsOpened ps → AllByRecursion IsOpened qs
  all_opened [] [] same opened = tt
  all_opened [] (q ∷ qs) same opened = absurd same
  all_opened (p ∷ ps) [] same opened = absurd same
  all_opened (p ∷ ps) (q ∷ qs) same opened = (subst (λ (v : ℕ). IsTrue (is_opened v)) (same_version p.state q.state same.0.state) opened.0, all_opened ps qs same.1 opened.1)

  stands_same : (ps qs : List Published) → AllZip SamePublished ps qs → StandsFor files ps → StandsFor files qs
  stands_same ps qs same stands = record {
    marks = subst (IsListing kind.Mark files) (same_heights ps qs same) stands.marks;
    few = subst (λ (count : ℕ). count ≤ MAX_PUBLISHED) (same_count ps qs same) stands.few;
    versions = all_opened ps qs same stands.versions;
    each = all_same ps qs same stands.each;
  }

-- ---- opening

-- Where each image stood for these heights, an image that stands as one of them did stands for them too.
stands_still : (old : DiskState) (ps : List Published) → EachImage old (λ image. StandsFor image ps) → (image : Files) → StandsAsBefore old image → StandsFor image ps
stands_still old ps each image b = stands_same image b.0 ps (opens_once b.2 b.0 ps (stands_open b.2 b.0 b.4) (stands_open b.2 ps (each b.2 b.3))) b.1

published_at : (last : Option Published) (ps : List Published) → (resumed_at last (anew ps)).published ≡ ps
published_at None ps = refl
published_at (Some p) ps = refl

pub start_published : (ps : List Published) → (start ps).published ≡ ps
start_published ps = published_at (newest ps) ps

-- each image stands for the heights of the machine that begins
pub stands_first : (s : DiskState) (first : Machine) → StandsAs s first → EachImage s (λ image. StandsFor image first.published)
stands_first s first entry image now = subst (StandsFor image) (sym (ap (λ (m : Machine). m.published) entry.first_is ∙ start_published entry.heights)) (entry.each image now)

pub stands_for_some : (s : DiskState) (first : Machine) → StandsAs s first → EachImage s StandsForSome
stands_for_some s first entry = λ image now. (entry.heights, entry.each image now)

-- so it does at each moment of opening
pub stands_opening : (old new : DiskView) (first : Machine) → StandsAs old.state first → LeavesOnly old new (StandsAsBefore old.state) → LeavesOnly old new (λ image. StandsFor image first.published)
stands_opening old new first entry before = weaker old new _ _ (λ image b. subst (StandsFor image) (sym (ap (λ (m : Machine). m.published) entry.first_is ∙ start_published entry.heights)) (stands_still old.state entry.heights entry.each image b)) before

-- ---- lines

-- where a machine is kept, each image stands for its heights
pub keeps_stand : (held : ManagerView) (s : DiskState) (m : Machine) → Keeps held s m → EachImage s (λ image. StandsFor image m.published)
keeps_stand held s m keeps = kept_stands held.store.heights s m.published keeps.heights

-- as long as the disk isn't called
pub keeps_images : (held : ManagerView) (v : DiskView) (m : Machine) (qs : List Published) → Keeps held v.state m → LeavesOnly v v (StandsForEither m.published qs)
keeps_images held v m qs keeps = at_start v _ (λ image now. inl (keeps_stand held v.state m keeps image now))

-- ---- disks that aren't opened

-- it stopped before a byte was taken
ends_unread : (ending : Result Unit RunStop) (tells : Bool) (old new : DiskView) (ended : Type 0) → EndsBy ending tells old.state.files ended all_shown 0 (part_only [])
    → (IsTrue tells → (first : Machine) → StandsAs old.state first → PlaysBehind ending first [] new.state × LeavesOnly old new (λ image. StandsFor image first.published))
    → EndsFrom 0 ending tells (StandsAs old.state) all_shown IsOpen ended old new [] []
ends_unread ending tells old new ended by plays = record {
  answered = [];
  behind = part_only [];
  last = [];
  script_is = refl;
  gained_is = refl;
  turns = tt;
  few = omega arith;
  lacks = inl refl;
  by = by;
  closed = refl;
  plays = λ told first entry. let p = plays told first entry in record {
    replies = tt;
    behind = p.0;
    moments = weaker old new _ _ (λ image stands. record { front = []; others = []; turns_are = refl; stands = stands }) p.1;
  };
}

at_the_start : IsAtStart 0 (part_only [])
at_the_start = record { between = record { none_begun = refl; fed = refl; none_cut = refl }; none = refl; nothing = refl }

-- a word is no option
pub ends_unused : (tells : Bool) (v : DiskView) (ended : Type 0) → EndsFrom 0 (Err stops.Usage) tells (StandsAs v.state) all_shown IsOpen ended v v [] []
ends_unused tells v ended = ends_unread (Err stops.Usage) tells v v ended at_the_start (λ told first entry. let stands = stands_first v.state first entry in (stands, at_start v _ stands))

-- the disk is not opened
pub not_opened : {T : Type 0} (error : OpenError) (tells : Bool) (old new : DiskView) (ended : Type 0) → (IsTrue tells → IsImageNow old.state old.state.files)
    → (IsTrue tells → (height : ℕ) → IsErrOf {T = T} (Err error) (opening.BadMark height) → IsFirstBadMark old.state.files height)
    → (IsTrue tells → (number : ℕ) → IsErrOf {T = T} (Err error) (opening.BadPage number) → IsFirstBadPage old.state.files number)
    → (IsTrue tells → EachImage old.state StandsForSome → LeavesOnly old new (StandsAsBefore old.state))
    → EndsFrom 0 (Err (stop_of_opening error)) tells (StandsAs old.state) all_shown IsOpen ended old new [] []
not_opened (opening.BadMark height) tells old new ended reads marks pages images = ends_unread (Err (stops.BadMark height)) tells old new ended (at_the_start, λ told. marks told height refl)
    (λ told first entry. absurd (bad_mark_refused old.state.files height (marks told height refl) (entry.heights, stands_open old.state.files entry.heights (entry.each old.state.files (reads told)))))
not_opened (opening.BadPage number) tells old new ended reads marks pages images = ends_unread (Err (stops.BadPage number)) tells old new ended (at_the_start, λ told. pages told number refl)
    (λ told first entry. absurd (bad_page_refused old.state.files number (pages told number refl) (entry.heights, stands_open old.state.files entry.heights (entry.each old.state.files (reads told)))))
not_opened opening.Fault tells old new ended reads marks pages images = ends_unread (Err stops.DiskFault) tells old new ended (inl at_the_start)
    (λ told first entry. let stands = stands_opening old new first entry (images told (stands_for_some old.state first entry)) in (λ image now. inl (stands.now image now), stands))
not_opened opening.Memory tells old new ended reads marks pages images = ends_unread (Err stops.Memory) tells old new ended
    (inl (record { between = record { none_begun = refl; fed = refl; none_cut = refl }; one = refl; short = omega arith; few = omega arith }))
    (λ told first entry. let stands = stands_opening old new first entry (images told (stands_for_some old.state first entry)) in (λ image now. inl (stands.now image now), stands))
