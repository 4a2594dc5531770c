-- What a call leaves of files that it isn't given, and of those that it is.
use Rattle.std.specs.Prelude.{◌≡◌, Bool, true, false, None, is_some, Result, Ok, Err, refl}
use Rattle.std.proofs.Common.{sym, ◌∙◌, ap, subst}
use Rattle.disk_model.specs.declared.disk.DiskError.{DiskError}
use Rattle.disk_model.specs.declared.disk.DiskError.TheVariants.{Fault, Memory}
use Rattle.disk_model.specs.declared.name.Name.{Name}
use Rattle.disk_model.specs.Files.{Files, same_name, files_with}
use Rattle.disk_model.specs.State.{DiskState, IsImageNow, IsLoose, IsSettled}
use Rattle.disk_model.specs.Call.{Call, look, settle, create, append, seal, rename, remove, is_given, under_way, done}
use Rattle.disk_model.specs.View.{DiskView, EachImage, LeavesOnly, Done, Does}
use Rattle.disk_model.specs.Laws.{IsSound, under_way_apart, replaced_apart, or_false, done_firm_apart, done_is_settled}
use Rattle.disk_model.specs.Moments.{at_start, one_call, then, weaker}

-- P speaks of the files of these names alone
pub record DependsOnly (names : Name → Bool) (P : Files → Type 0) : Type 0 where
  pub carries : (f g : Files) → ((q : Name) → names q ≡ true → g q ≡ f q) → P f → P g

-- the call is given none of these names
abbrev pub Spares : Call → (Name → Bool) → Type 0
Spares call names = (q : Name) → names q ≡ true → is_given call q ≡ false

-- a call leaves the files that it isn't given
pub done_apart : (call : Call) (s : DiskState) (q : Name) → is_given call q ≡ false → (done call s).files q ≡ s.files q
done_apart look s q apart = refl
done_apart settle s q apart = refl
done_apart (create n) s q apart = replaced_apart s.files n _ q apart
done_apart (append n bytes) s q apart = replaced_apart s.files n _ q apart
done_apart (seal n) s q apart = refl
done_apart (rename from to) s q apart =
    let parts = or_false _ _ apart in replaced_apart (files_with s.files from None) to (s.files from) q parts.1 ∙ replaced_apart s.files from None q parts.0
done_apart (remove n) s q apart = replaced_apart s.files n None q apart

pub does_apart : {T : Type 0} (call : Call) (result : Result T DiskError) (old new : DiskView) → Does call result old new → (q : Name) → is_given call q ≡ false → new.state.files q ≡ old.state.files q
does_apart call (Ok x) old new does q apart = ap (λ (s : DiskState). s.files q) does.state ∙ done_apart call old.state q apart
does_apart call (Err Fault) old new does q apart = does.state.others q apart
does_apart call (Err Memory) old new does q apart = ap (λ (v : DiskView). v.state.files q) does

-- What is said of files that the call isn't given is true of them as they read after it, whatever it answers.
pub reads_kept : {T : Type 0} (call : Call) (result : Result T DiskError) (old new : DiskView) (names : Name → Bool) (P : Files → Type 0) → DependsOnly names P → Spares call names → Does call result old new → P old.state.files → P new.state.files
reads_kept call result old new names P only spares does holds = only.carries old.state.files new.state.files (λ q named. does_apart call result old new does q (spares q named)) holds

-- the same of each image in the middle of the call
pub images_kept : (call : Call) (s : DiskState) (names : Name → Bool) (P : Files → Type 0) → DependsOnly names P → Spares call names → EachImage s P → EachImage (under_way call s) P
images_kept call s names P only spares each image middle =
    let before = under_way_apart call s image middle in only.carries before.0 image (λ q named. before.2 q (spares q named)) (each before.0 before.1)

-- and of each image since the call began
pub moments_kept : {T : Type 0} (call : Call) (result : Result T DiskError) (old new : DiskView) (names : Name → Bool) (P : Files → Type 0) → IsSound old.state → DependsOnly names P → Spares call names → Does call result old new → EachImage old.state P
    → LeavesOnly old new P
moments_kept call result old new names P sound only spares does each = one_call call result old new P sound does each (images_kept call old.state names P only spares each)

-- ---- several calls on some names

-- The files are those of an image of this disk, but for names that pass the test.
abbrev pub ComesFrom : (Name → Bool) → DiskState → Files → Type 0
ComesFrom given s image = (before : Files) × IsImageNow s before × ((q : Name) → given q ≡ false → image q ≡ before q)

-- one call that is given such names alone
pub call_comes_from : {T : Type 0} (call : Call) (result : Result T DiskError) (old new : DiskView) (given : Name → Bool) → ((q : Name) → given q ≡ false → is_given call q ≡ false) → IsSound old.state → Does call result old new → LeavesOnly old new (ComesFrom given old.state)
call_comes_from call result old new given within sound does = one_call call result old new (ComesFrom given old.state) sound does
    (λ image h. (image, h, λ q _. refl))
    (λ image middle. let from = under_way_apart call old.state image middle in (from.0, from.1, λ q apart. from.2 q (within q apart)))

pub then_comes_from : (old mid new : DiskView) (given : Name → Bool) → LeavesOnly old mid (ComesFrom given old.state) → LeavesOnly mid new (ComesFrom given mid.state) → LeavesOnly old new (ComesFrom given old.state)
then_comes_from old mid new given first second = then old mid new _ first (weaker mid new _ _ (λ image from.
    let earlier = first.now from.0 from.1 in (earlier.0, earlier.1, λ q apart. from.2 q apart ∙ earlier.2 q apart)) second)

-- What is said of other names is true of each image since.
pub comes_from_keeps : (old new : DiskView) (given names : Name → Bool) (P : Files → Type 0) → DependsOnly names P → ((q : Name) → names q ≡ true → given q ≡ false) → EachImage old.state P → LeavesOnly old new (ComesFrom given old.state) → LeavesOnly old new P
comes_from_keeps old new given names P only apart each leaves = weaker old new _ _ (λ image from. only.carries from.0 image (λ q named. from.2 q (apart q named)) (each from.0 from.1)) leaves

-- The calls between the two were given such names alone: every image since is one from before but for those names, and all other files read as
-- before, and stay firm or loose.
pub record TouchesOnly (given : Name → Bool) (old new : DiskView) : Type 0 where
  pub images : LeavesOnly old new (ComesFrom given old.state)
  pub reads : (q : Name) → given q ≡ false → new.state.files q ≡ old.state.files q
  pub firm : (q : Name) → given q ≡ false → old.state.loose q ≡ false → new.state.loose q ≡ false
  pub loose : (q : Name) → given q ≡ false → IsLoose old.state q → IsLoose new.state q

under_way_firm : (call : Call) (s : DiskState) (q : Name) → is_given call q ≡ false → s.loose q ≡ false → (under_way call s).loose q ≡ false
under_way_firm look s q apart firm = firm
under_way_firm settle s q apart firm = firm
under_way_firm (create n) s q apart firm = rw apart firm
under_way_firm (append n bytes) s q apart firm = rw apart firm
under_way_firm (seal n) s q apart firm = rw apart firm
under_way_firm (rename from to) s q apart firm = firm
under_way_firm (remove n) s q apart firm = firm

does_firm : {T : Type 0} (call : Call) (result : Result T DiskError) (old new : DiskView) → Does call result old new → (q : Name) → is_given call q ≡ false → old.state.loose q ≡ false → new.state.loose q ≡ false
does_firm call (Ok x) old new does q apart firm = ap (λ (s : DiskState). s.loose q) does.state ∙ done_firm_apart call old.state q apart firm
does_firm call (Err Fault) old new does q apart firm = ap (λ (m : Name → Bool). m q) does.state.loose ∙ under_way_firm call old.state q apart firm
does_firm call (Err Memory) old new does q apart firm = ap (λ (v : DiskView). v.state.loose q) does ∙ firm

-- a loose file that is there stays loose
done_loose : (call : Call) (s : DiskState) (q : Name) → is_given call q ≡ false → is_some (s.files q) ≡ true → s.loose q ≡ true → (done call s).loose q ≡ true
done_loose look s q apart there loose = loose
done_loose settle s q apart there loose = rw (loose, there) refl
done_loose (create n) s q apart there loose = rw apart loose
done_loose (append n bytes) s q apart there loose = rw apart loose
done_loose (seal n) s q apart there loose = rw apart loose
done_loose (rename from to) s q apart there loose = let parts = or_false (same_name from q) (same_name to q) apart in rw (parts.1, parts.0) loose
done_loose (remove n) s q apart there loose = rw apart loose

under_way_loose : (call : Call) (s : DiskState) (q : Name) → is_given call q ≡ false → s.loose q ≡ true → (under_way call s).loose q ≡ true
under_way_loose look s q apart loose = loose
under_way_loose settle s q apart loose = loose
under_way_loose (create n) s q apart loose = rw apart loose
under_way_loose (append n bytes) s q apart loose = rw apart loose
under_way_loose (seal n) s q apart loose = rw apart loose
under_way_loose (rename from to) s q apart loose = loose
under_way_loose (remove n) s q apart loose = loose

does_loose : {T : Type 0} (call : Call) (result : Result T DiskError) (old new : DiskView) → Does call result old new → (q : Name) → is_given call q ≡ false → IsLoose old.state q → IsLoose new.state q
does_loose call result old new does q apart was = record { there = ap is_some (does_apart call result old new does q apart) ∙ was.there; loose = by result does }
  where
    by : {T : Type 0} (result : Result T DiskError) → Does call result old new → new.state.loose q ≡ true
    by (Ok x) does = ap (λ (s : DiskState). s.loose q) does.state ∙ done_loose call old.state q apart was.there was.loose
    by (Err Fault) does = ap (λ (m : Name → Bool). m q) does.state.loose ∙ under_way_loose call old.state q apart was.loose
    by (Err Memory) does = ap (λ (v : DiskView). v.state.loose q) does ∙ was.loose

-- no call so far
pub touches_none : (given : Name → Bool) (v : DiskView) → TouchesOnly given v v
touches_none given v = record { images = at_start v _ (λ image h. (image, h, λ q _. refl)); reads = λ q _. refl; firm = λ q _ firm. firm; loose = λ q _ was. was }

-- one call, whatever it answers
pub touches_call : {T : Type 0} (call : Call) (result : Result T DiskError) (old new : DiskView) (given : Name → Bool) → ((q : Name) → given q ≡ false → is_given call q ≡ false) → IsSound old.state → Does call result old new → TouchesOnly given old new
touches_call call result old new given within sound does = record {
  images = call_comes_from call result old new given within sound does;
  reads = λ q apart. does_apart call result old new does q (within q apart);
  firm = λ q apart. does_firm call result old new does q (within q apart);
  loose = λ q apart. does_loose call result old new does q (within q apart);
}

pub touches_then : (given : Name → Bool) (old mid new : DiskView) → TouchesOnly given old mid → TouchesOnly given mid new → TouchesOnly given old new
touches_then given old mid new first second = record {
  images = then_comes_from old mid new given first.images second.images;
  reads = λ q apart. second.reads q apart ∙ first.reads q apart;
  firm = λ q apart firm. second.firm q apart (first.firm q apart firm);
  loose = λ q apart was. second.loose q apart (first.loose q apart was);
}

-- given more names
pub touches_wider : (given wider : Name → Bool) (old new : DiskView) → ((q : Name) → wider q ≡ false → given q ≡ false) → TouchesOnly given old new → TouchesOnly wider old new
touches_wider given wider old new within touches = record {
  images = weaker old new _ _ (λ image from. (from.0, from.1, λ q apart. from.2 q (within q apart))) touches.images;
  reads = λ q apart. touches.reads q (within q apart);
  firm = λ q apart. touches.firm q (within q apart);
  loose = λ q apart. touches.loose q (within q apart);
}

-- What is said of other files stays true of each image and of the files as they read.
pub touches_keep_images : (given names : Name → Bool) (P : Files → Type 0) (old new : DiskView) → DependsOnly names P → ((q : Name) → names q ≡ true → given q ≡ false) → TouchesOnly given old new → EachImage old.state P → LeavesOnly old new P
touches_keep_images given names P old new only apart touches each = comes_from_keeps old new given names P only apart each touches.images

pub touches_keep_reads : (given names : Name → Bool) (P : Files → Type 0) (old new : DiskView) → DependsOnly names P → ((q : Name) → names q ≡ true → given q ≡ false) → TouchesOnly given old new → P old.state.files → P new.state.files
touches_keep_reads given names P old new only apart touches holds = only.carries old.state.files new.state.files (λ q named. touches.reads q (apart q named)) holds

-- After a call that succeeds nothing is pending that wasn't before it.
pub done_settles : (call : Call) (old new : DiskView) → Done call old new → IsSettled old.state → IsSettled new.state
done_settles call old new does settled = subst IsSettled (sym does.state) (done_is_settled call old.state settled)

-- ---- what is said of some names of a disk

-- the files of these names read the same, and stay firm or loose
pub record SameAt (names : Name → Bool) (s t : DiskState) : Type 0 where
  pub files : (q : Name) → names q ≡ true → t.files q ≡ s.files q
  pub firm : (q : Name) → names q ≡ true → s.loose q ≡ false → t.loose q ≡ false
  pub loose : (q : Name) → names q ≡ true → IsLoose s q → IsLoose t q

-- P speaks of these names alone: how their files read, and whether they are firm or loose
pub record Needs (names : Name → Bool) (P : DiskState → Type 0) : Type 0 where
  pub carries : (s t : DiskState) → SameAt names s t → P s → P t

-- what is said of files alone, as they read
pub needs_files : (names : Name → Bool) (P : Files → Type 0) → DependsOnly names P → Needs names (λ s. P s.files)
needs_files names P only = record { carries = λ s t same. only.carries s.files t.files same.files }

pub touches_same : (given names : Name → Bool) (old new : DiskView) → ((q : Name) → names q ≡ true → given q ≡ false) → TouchesOnly given old new → SameAt names old.state new.state
touches_same given names old new apart touches = record {
  files = λ q named. touches.reads q (apart q named);
  firm = λ q named. touches.firm q (apart q named);
  loose = λ q named. touches.loose q (apart q named);
}

-- What needs some names goes on to hold through calls that are given none of them.
pub needs_kept : (given names : Name → Bool) (P : DiskState → Type 0) (old new : DiskView) → Needs names P → ((q : Name) → names q ≡ true → given q ≡ false) → TouchesOnly given old new → P old.state → P new.state
needs_kept given names P old new needs apart touches = needs.carries old.state new.state (touches_same given names old new apart touches)
