-- Heights that are kept as page files of given numbers are written.
use Rattle.std.proofs.Common.{◌≡◌, ℕ, ◌≤◌, true, false, ◌||◌, nat_eq, List, [], ◌∷◌, length, map, arith, inl, inr, refl, sym, ap, subst, ◌∙◌}
use Rattle.std.specs.List.{list_any, AllByRecursion, AllZip}
use Rattle.std.proofs.lemmas.Bool.{cases_Bool, false≢true, eqb-true}
use Rattle.std.proofs.lemmas.List.{length-map}
use Rattle.format_spec.specs.Bytes.{Bytes}
use Rattle.state_spec.specs.State.{State}
use Rattle.state_spec.specs.Manifest.{chunk_hashes}
use Rattle.store_spec.specs.Image.{Published, StandsFor}
use Rattle.store_spec.specs.Mark.{Mark, MarkMemory, IsMark}
use Rattle.sys_state.specs.System.{System, part_of}
use Rattle.manifest.specs.Fits.{FitMemories}
use Rattle.disk_model.specs.declared.name.Name.{Name}
use Rattle.disk_model.specs.declared.name.Name.TheVariants as name
use Rattle.disk_model.specs.Files.{Files}
use Rattle.disk_model.specs.State.{DiskState, IsSettled}
use Rattle.disk_model.specs.View.{DiskView, LeavesOnly}
use Rattle.disk_model.specs.Moments.{weaker}
use Rattle.disk_model.specs.Frame.{TouchesOnly}
use Rattle.disk_model.specs.Laws.{IsSound}
use Rattle.page_file.specs.Files.{NumberedFile, IsAsKnown}
use Rattle.height_store.specs.Store.{Store, StoredHeight, GivesFew, mark_names, is_named, is_needed, is_used, numbers_of}
use Rattle.height_store.specs.Kept.{IsReadable, HasRoom, ShowsHeight, HasStacks, IsMadeOf, HasFirmPages, KeepsHeights, StandsForEither}
use Rattle.height_store.specs.Laws.{kept_apart, stands_apart}
use Rattle.whole_state.specs.Whole.{HasParts, whole}
use Rattle.whole_state.specs.Written.{GivesNumbers, IsWholeStack, AreFinished, is_given_since}
use Rattle.whole_state.proofs.Made.{is_made, pages_firm}
use Rattle.whole_state.proofs.Giving.{kept_used, apart_from_used}

module _ (store : Store) (f : Files) (room : HasRoom store f) (n : ℕ) where
  in_stack : (stack : List NumberedFile) → AllByRecursion (IsAsKnown f) stack → list_any (nat_eq n) (numbers_of stack) ≡ true → is_used store n ≡ true
  in_stack [] kept named = absurd (false≢true named)
  in_stack (file ∷ stack) kept named = elim (cases_Bool (nat_eq n file.number)) [
    | inl here ↦ subst (λ (k : ℕ). is_used store k ≡ true) (sym (eqb-true n file.number here)) (kept_used store f file room kept.0)
    | inr apart ↦ in_stack stack kept.1 (sym (rw apart refl) ∙ named)
  ]

  in_stacks : (stacks : List (List NumberedFile)) (layers : List (List ℕ)) → map numbers_of stacks ≡ layers → AllByRecursion (AllByRecursion (IsAsKnown f)) stacks → list_any (λ ns. list_any (nat_eq n) ns) layers ≡ true → is_used store n ≡ true
  in_stacks [] layers is kept named = absurd (false≢true (ap (list_any (λ ns. list_any (nat_eq n) ns)) is ∙ named))
  in_stacks (stack ∷ stacks) layers is kept named =
      let here = ap (list_any (λ ns. list_any (nat_eq n) ns)) is ∙ named in
      elim (cases_Bool (list_any (nat_eq n) (numbers_of stack))) [
        | inl here_named ↦ in_stack stack kept.0 here_named
        | inr none ↦ in_stacks stacks (map numbers_of stacks) refl kept.1 (sym (rw none refl) ∙ here)
      ]

  named_layers : (ms : List MarkMemory) → list_any (λ ns. list_any (nat_eq n) ns) (map (λ x. x.layers) ms) ≡ list_any (λ memory. list_any (nat_eq n) memory.layers) ms
  named_layers [] = refl
  named_layers (m ∷ ms) = ap (λ b. list_any (nat_eq n) m.layers || b) (named_layers ms)

  in_heights : (hs : List StoredHeight) (ps : List Published) → AllZip (ShowsHeight f) hs ps → AllByRecursion (HasStacks f) hs → is_named hs n ≡ true → is_used store n ≡ true
  in_heights [] ps shows kept named = absurd (false≢true named)
  in_heights (h ∷ hs) [] shows kept named = absurd shows
  in_heights (h ∷ hs) (p ∷ ps) shows kept named = elim (cases_Bool (mark_names h.mark n)) [
    | inl here ↦ in_stacks h.stacks (map (λ x. x.layers) h.mark.memories) shows.0.good.parts.numbers kept.0 (named_layers h.mark.memories ∙ here)
    | inr apart ↦ in_heights hs ps shows.1 kept.1 (sym (rw apart refl) ∙ named)
  ]

-- no file that the heights need has a number that was given since
pub needed_apart : (store new : Store) (s : DiskState) (ps : List Published) → IsSound s → IsReadable store.heights s.files → HasRoom store s.files → KeepsHeights store.heights s ps → (q : Name) → is_needed store.heights q ≡ true → is_given_since store new q ≡ false
needed_apart store new s ps sound readable room keeps (name.Mark n) needed = refl
needed_apart store new s ps sound readable room keeps (name.Draft n) needed = refl
needed_apart store new s ps sound readable room keeps (name.Stage n) needed = refl
needed_apart store new s ps sound readable room keeps (name.Page n) needed =
    apart_from_used store new n (in_heights store s.files room n store.heights ps (keeps.images s.files sound).each readable.stacks needed)

-- ---- memories were written whole, and there is a mark over them

pub record Wrote (old mid : Store) (before between : DiskView) (system : System) (memories : List Bytes) (stacks : List (List NumberedFile)) (m : Mark) (height : ℕ) : Type 0 where
  pub sound : IsSound before.state
  pub readable : IsReadable old.heights before.state.files
  pub room : HasRoom old before.state.files
  pub heights : mid.heights ≡ old.heights
  pub touches : TouchesOnly (is_given_since old mid) before between
  pub settled : IsSettled before.state → IsSettled between.state
  pub finished : AllZip (AreFinished between.state) memories stacks
  pub whole : AllZip IsWholeStack memories stacks
  pub good : IsMark m (part_of system)
  pub one : m.version ≡ 1
  pub is_height : m.height ≡ height
  pub layers : map (λ x. x.layers) m.memories ≡ map numbers_of stacks
  pub sums : map (λ x. x.sums) m.memories ≡ map (chunk_hashes 1) memories
  pub fit : FitMemories (part_of system) memories

-- until the mark is written each image stands for the heights before
pub stands_on : (old mid : Store) (before between : DiskView) (ps qs : List Published) → IsSound before.state → IsReadable old.heights before.state.files → HasRoom old before.state.files → TouchesOnly (is_given_since old mid) before between → KeepsHeights old.heights before.state ps
    → LeavesOnly before between (StandsForEither ps qs)
stands_on old mid before between ps qs sound readable room touches keeps = weaker before between (λ image. StandsFor image ps) (StandsForEither ps qs) (λ image stands. inl stands)
    (stands_apart (is_given_since old mid) before between old.heights ps (needed_apart old mid before.state ps sound readable room keeps) touches keeps)

-- what publishing the mark asks for is so
pub publishes : {X : Type 0} (old mid : Store) (before between : DiskView) (system : System) (memories : List Bytes) (stacks : List (List NumberedFile)) (m : Mark) (height : ℕ) (ps : List Published) (state : State)
    → (IsSettled between.state → KeepsHeights mid.heights between.state ps → IsMadeOf between.state.files m (part_of system) stacks (whole height state) → HasFirmPages between.state m → X)
    → Wrote old mid before between system memories stacks m height → HasParts state system memories → IsSettled before.state → KeepsHeights old.heights before.state ps → X
publishes old mid before between system memories stacks m height ps state publish wrote parts settled keeps =
    let kept = kept_apart (is_given_since old mid) before between old.heights ps (needed_apart old mid before.state ps wrote.sound wrote.readable wrote.room keeps) wrote.touches keeps in
    publish (wrote.settled settled) (subst (λ (hs : List StoredHeight). KeepsHeights hs between.state ps) (sym wrote.heights) kept)
    (is_made between.state m system memories stacks height state wrote.good wrote.one wrote.is_height wrote.layers wrote.sums wrote.fit wrote.whole wrote.finished parts)
    (pages_firm between.state m memories stacks wrote.layers wrote.finished)

pub given_bounds : {V : Type 0} (bytes : V → Bytes) (ms : List V) (old new : Store) → length (map bytes ms) ≤ 2048 → GivesNumbers (length ms) old new → GivesFew old new
given_bounds bytes ms old new few gives = let count = length-map ms bytes in record { least = gives.given_least; most = omega (arith, gives.given_most, few, count) }
