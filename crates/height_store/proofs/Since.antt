-- What opening leaves, and what a crash leaves meanwhile.
use Rattle.std.specs.Prelude.{◌≡◌, ℕ, ◌+◌, ◌≤◌, Bool, true, false, not, ◌&&◌, nat_eq, List, [], ◌∷◌, Result, is_some, None, refl}
use Rattle.std.specs.List.{list_any, AllByRecursion}
use Rattle.std.proofs.Common.{inl, inr, sym, ◌∙◌, ap, subst, arith}
use Rattle.std.proofs.lemmas.Bool.{cases_Bool, false≢true}
use Rattle.store_spec.specs.Image.{Published, StandsFor}
use Rattle.disk_model.specs.declared.disk.DiskError.{DiskError}
use Rattle.disk_model.specs.declared.name.Kind.TheVariants as kind
use Rattle.disk_model.specs.declared.name.Name.{Name}
use Rattle.disk_model.specs.declared.name.Name.TheVariants as name
use Rattle.disk_model.specs.Files.{Files, IsListing}
use Rattle.disk_model.specs.State.{DiskState, IsImageNow}
use Rattle.disk_model.specs.Call.{settle, done}
use Rattle.disk_model.specs.View.{DiskView, EachImage, LeavesOnly, Done, Does}
use Rattle.disk_model.specs.Laws.{IsSound, or_false, settled_is_settled}
use Rattle.disk_model.specs.Moments.{one_call, then, weaker}
use Rattle.disk_model.specs.Frame.{TouchesOnly}
use Rattle.disk_model.specs.OnlyReads.{OnlyReads, reads_only_leave}
use Rattle.page_file.specs.Files.{NumberedFile, IsAsKnown}
use Rattle.store_spec.proofs.Images.{listing_once}
use Rattle.height_store.specs.Bad.{marks_bytes}
use Rattle.height_store.specs.Found.{IsFound, is_stray}
use Rattle.height_store.specs.Needed.{kept_there}
use Rattle.height_store.specs.Kept.{MatchesFiles, HasMark, KeepsHeights, StandsForSome, StandsAsBefore}
use Rattle.height_store.specs.Entry.{needed_firm}
use Rattle.height_store.specs.Standing.{heights_shown}
use Rattle.height_store.specs.Laws.{settled_keeps, kept_apart, stands_apart}
use Rattle.height_store.specs.Store.{Store, StoredHeight, IsHeight, numbers_of, is_named, is_needed}
use Rattle.height_store.specs.Shown.{or_right, first_named}
use Rattle.height_store.proofs.Strays.{listing_kept}

-- ---- until the first removal

-- Each image since is one from before.
pub settle_leaves : {T : Type 0} (result : Result T DiskError) (old mid : DiskView) → IsSound old.state → Does settle result old mid → LeavesOnly old mid (IsImageNow old.state)
settle_leaves result old mid sound does = one_call settle result old mid (IsImageNow old.state) sound does (λ image h. h) (λ image h. h)

pub reads_only_leave_before : (most : ℕ) (old mid new : DiskView) → LeavesOnly old mid (IsImageNow old.state) → OnlyReads most mid new → LeavesOnly old new (IsImageNow old.state)
reads_only_leave_before most old mid new first reads_only = then old mid new (IsImageNow old.state) first (reads_only_leave most mid new (IsImageNow old.state) reads_only first.now)

pub as_before : (old new : DiskView) → EachImage old.state StandsForSome → LeavesOnly old new (IsImageNow old.state) → LeavesOnly old new (StandsAsBefore old.state)
as_before old new each leaves = weaker old new (IsImageNow old.state) (StandsAsBefore old.state) (λ image h. let stands = each image h in (stands.0, stands.1, image, h, stands.1)) leaves

-- At a bad mark no more was read than of the marks.
pub bad_mark_read : (old mid listed new : DiskView) (marks given heights : List ℕ) → Done settle old mid → OnlyReads 0 mid listed → IsListing kind.Mark mid.state.files marks → given ≡ marks → IsListing kind.Mark old.state.files heights
    → OnlyReads (marks_bytes listed.state.files given) listed new → new.bytes_read ≤ old.bytes_read + marks_bytes old.state.files heights
bad_mark_read old mid listed new marks given heights settled lists found given_is wanted reads_only =
    let from : mid.state.files ≡ old.state.files = ap (λ (s : DiskState). s.files) settled.state in
    let same : listed.state.files ≡ old.state.files = ap (λ (s : DiskState). s.files) lists.state ∙ from in
    let are : marks ≡ heights = listing_once kind.Mark old.state.files marks heights (subst (λ (f : Files). IsListing kind.Mark f marks) from found) wanted in
    let count : marks_bytes listed.state.files given ≡ marks_bytes old.state.files heights = λ i. marks_bytes (same i) ((given_is ∙ are) i) in
    omega (arith, reads_only.read_most, lists.read_most, settled.bytes_read, count)

-- ---- what the marks name is no stray

pub touches_named : (given named : List ℕ) (seen new : DiskView) → given ≡ named → TouchesOnly (is_stray given) seen new → TouchesOnly (is_stray named) seen new
touches_named given named seen new same touches = subst (λ (numbers : List ℕ). TouchesOnly (is_stray numbers) seen new) same touches

pub gone_named : (given named : List ℕ) (files : Files) → given ≡ named → ((q : Name) → is_stray given q ≡ true → files q ≡ None) → (q : Name) → is_stray named q ≡ true → files q ≡ None
gone_named given named files same gone = subst (λ (numbers : List ℕ). (q : Name) → is_stray numbers q ≡ true → files q ≡ None) same gone

module _ (hs : List StoredHeight) (named : List ℕ) (names : (n : ℕ) → list_any (nat_eq n) named ≡ is_named hs n) where
  pub needed_apart : (q : Name) → is_needed hs q ≡ true → is_stray named q ≡ false
  needed_apart (name.Mark n) needed = refl
  needed_apart (name.Page n) needed = ap not (names n ∙ needed)
  needed_apart (name.Draft n) needed = absurd (false≢true needed)
  needed_apart (name.Stage n) needed = absurd (false≢true needed)

-- page files of these numbers are where they were
pub kept_on : (files now : Files) (pages : List NumberedFile) → ((n : ℕ) → list_any (nat_eq n) (numbers_of pages) ≡ true → now (name.Page n) ≡ files (name.Page n)) → AllByRecursion (IsAsKnown files) pages → AllByRecursion (IsAsKnown now) pages
kept_on files now [] same kept = tt
kept_on files now (file ∷ pages) same kept =
    let has = kept.0.1 in (
      (kept.0.0, record { text = has.text; there = same file.number (first_named file.number (numbers_of pages)) ∙ has.there; good = has.good }),
      kept_on files now pages (λ n h. same n (or_right (nat_eq n file.number) (list_any (nat_eq n) (numbers_of pages)) h)) kept.1,
    )

pub each_mark : (files now : Files) (hs : List StoredHeight) → ((n : ℕ) → now (name.Mark n) ≡ files (name.Mark n)) → AllByRecursion (HasMark files) hs → AllByRecursion (HasMark now) hs
each_mark files now [] same marks = tt
each_mark files now (h ∷ hs) same marks = (same h.mark.height ∙ marks.0, each_mark files now hs same marks.1)

-- ---- after the removals

module _ (store : Store) (files : Files) (seen new : DiskView) (same : seen.state.files ≡ files) (found : IsFound store files)
    (touches : TouchesOnly (is_stray store.named) seen new) (gone : (q : Name) → is_stray store.named q ≡ true → new.state.files q ≡ None) where
  reads_same : (q : Name) → is_stray store.named q ≡ false → new.state.files q ≡ files q
  reads_same q apart = touches.reads q apart ∙ ap (λ (f : Files). f q) same

  still_kept : AllByRecursion (IsAsKnown new.state.files) found.pages
  still_kept = kept_on files new.state.files found.pages (λ n h. reads_same (name.Page n) (ap not (ap (list_any (nat_eq n)) (sym found.once) ∙ h))) found.kept

  pub opened_over : MatchesFiles store new.state.files
  opened_over = record {
    readable = record {
      listed = listing_kept kind.Mark files new.state.files _ (λ n. reads_same (name.Mark n) refl) found.listed;
      marks = each_mark files new.state.files store.heights (λ n. reads_same (name.Mark n) refl) found.marks;
      stacks = found.stacks new.state.files still_kept;
    };
    writable = λ height. record {
      room = λ n unused. gone (name.Page n) (ap not (or_false (list_any (nat_eq n) store.named) _ unused).0);
      no_draft = gone (name.Draft height) refl;
    };
  }

  pub opened_pages : ((n : ℕ) → list_any (nat_eq n) store.named ≡ is_named store.heights n) → (n : ℕ) → is_some (new.state.files (name.Page n)) ≡ is_named store.heights n
  opened_pages names n = elim (cases_Bool (list_any (nat_eq n) store.named)) [
    | inl named ↦ kept_there new.state.files found.pages n still_kept (ap (list_any (nat_eq n)) found.once ∙ named) ∙ sym named ∙ names n
    | inr free ↦ ap is_some (gone (name.Page n) (ap not free)) ∙ sym free ∙ names n
  ]

-- ---- the heights

firm_and : (a b : Bool) → a ≡ false → (a && b) ≡ false
firm_and a b h = rw h refl

module _ (store : Store) (old mid listed seen new : DiskView) (sound : IsSound old.state) (settled : mid.state ≡ done settle old.state)
    (lists : OnlyReads 0 mid listed) (reads : (most : ℕ) × OnlyReads most listed seen)
    (found : IsFound store listed.state.files) (good : AllByRecursion IsHeight store.heights)
    (names : (n : ℕ) → list_any (nat_eq n) store.named ≡ is_named store.heights n) where
  listed_state : listed.state ≡ done settle old.state
  listed_state = lists.state ∙ settled

  seen_state : seen.state ≡ done settle old.state
  seen_state = reads.1.state ∙ listed_state

  own : IsFound store old.state.files
  own = subst (λ (s : DiskState). IsFound store s.files) listed_state found

  pub opened_keeps : (ps : List Published) → EachImage old.state StandsForSome → StandsFor old.state.files ps → KeepsHeights store.heights seen.state ps
  opened_keeps ps each stands =
      let shows = heights_shown old.state.files store.heights ps good own.listed own.marks (own.stacks old.state.files own.kept) stands in
      subst (λ (s : DiskState). KeepsHeights store.heights s ps) (sym seen_state)
      (settled_keeps store.heights (done settle old.state) ps (settled_is_settled old.state)
      (λ q needed. firm_and (old.state.loose q) _ (needed_firm store.heights old.state good own.marks sound each q needed)) shows)

  pub opened_stands : TouchesOnly (is_stray store.named) seen new → (ps : List Published) → EachImage old.state StandsForSome → StandsFor old.state.files ps → KeepsHeights store.heights new.state ps
  opened_stands touches ps each stands =
      kept_apart (is_stray store.named) seen new store.heights ps (needed_apart store.heights store.named names) touches (opened_keeps ps each stands)

  pub opened_images : LeavesOnly old seen (IsImageNow old.state) → TouchesOnly (is_stray store.named) seen new → EachImage old.state StandsForSome → LeavesOnly old new (StandsAsBefore old.state)
  opened_images first touches each =
      let stands = each old.state.files sound in
      then old seen new (StandsAsBefore old.state) (as_before old seen each first)
      (weaker seen new (λ image. StandsFor image stands.0) (StandsAsBefore old.state) (λ image h. (stands.0, h, old.state.files, sound, stands.1))
      (stands_apart (is_stray store.named) seen new store.heights stands.0 (needed_apart store.heights store.named names) touches (opened_keeps stands.0 each stands.1)))
