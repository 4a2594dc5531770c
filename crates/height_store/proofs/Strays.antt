-- Removing the files that no mark names.
use Rattle.std.specs.Prelude.{◌≡◌, ℕ, true, false, nat_eq, List, [], ◌∷◌, is_some, refl}
use Rattle.std.proofs.Common.{sym, ◌∙◌, ap, subst}
use Rattle.std.proofs.lemmas.Bool.{false≢true}
use Rattle.std.specs.List.{list_any, AllByRecursion}
use Rattle.format_spec.proofs.Lists.{and_false}
use Rattle.disk_model.specs.declared.name.Kind.{Kind}
use Rattle.disk_model.specs.declared.name.Kind.TheVariants as kind
use Rattle.disk_model.specs.declared.name.Name.{Name}
use Rattle.disk_model.specs.declared.name.Name.TheVariants as name
use Rattle.disk_model.specs.Files.{Files, IsListing, name_of}
use Rattle.disk_model.specs.State.{IsThere}
use Rattle.disk_model.specs.View.{DiskView}
use Rattle.disk_model.specs.Frame.{TouchesOnly}
use Rattle.height_store.specs.Found.{is_stray}
use Rattle.height_store.specs.Opened.{is_swept}
use Rattle.height_store.specs.Shown.{or_right, first_named}

pub pages_within : (numbers named : List ℕ) (q : Name) → is_stray named q ≡ false → is_swept kind.Page numbers named q ≡ false
pages_within numbers named (name.Page n) h = and_false (list_any (nat_eq n) numbers) _ h
pages_within numbers named (name.Mark n) h = refl
pages_within numbers named (name.Draft n) h = refl
pages_within numbers named (name.Stage n) h = refl

pub drafts_within : (numbers named : List ℕ) (q : Name) → is_stray named q ≡ false → is_swept kind.Draft numbers [] q ≡ false
drafts_within numbers named (name.Page n) h = refl
drafts_within numbers named (name.Mark n) h = refl
drafts_within numbers named (name.Draft n) h = absurd (false≢true (sym h))
drafts_within numbers named (name.Stage n) h = refl

pub stages_within : (numbers named : List ℕ) (q : Name) → is_stray named q ≡ false → is_swept kind.Stage numbers [] q ≡ false
stages_within numbers named (name.Page n) h = refl
stages_within numbers named (name.Mark n) h = refl
stages_within numbers named (name.Draft n) h = refl
stages_within numbers named (name.Stage n) h = absurd (false≢true (sym h))

-- ---- the files that are swept are there

pub all_listed : (P : ℕ → Type 0) (numbers : List ℕ) → ((n : ℕ) → list_any (nat_eq n) numbers ≡ true → P n) → AllByRecursion P numbers
all_listed P [] each = tt
all_listed P (x ∷ xs) each = (each x (first_named x xs), all_listed P xs (λ n h. each n (or_right (nat_eq n x) (list_any (nat_eq n) xs) h)))

pub are_there : (kind : Kind) (files : Files) (numbers : List ℕ) → IsListing kind files numbers → AllByRecursion (λ n. is_some (files (name_of kind n)) ≡ true) numbers
are_there kind files numbers listing = all_listed _ numbers (λ n h. sym (listing.each n) ∙ h)

-- the same where other files were touched
pub listing_kept : (kind : Kind) (files now : Files) (numbers : List ℕ) → ((n : ℕ) → now (name_of kind n) ≡ files (name_of kind n)) → IsListing kind files numbers → IsListing kind now numbers
listing_kept kind files now numbers same listing = record {
  ascending = listing.ascending;
  each = λ n. listing.each n ∙ ap is_some (sym (same n));
}

-- drafts are there after page files were swept, and stage files after both
pub there_after_pages : (numbers keep : List ℕ) (old mid : DiskView) (drafts given : List ℕ) → drafts ≡ given → IsListing kind.Draft old.state.files drafts
    → TouchesOnly (is_swept kind.Page numbers keep) old mid → AllByRecursion (λ n. IsThere mid.state (name.Draft n)) given
there_after_pages numbers keep old mid drafts given same listing first = subst (AllByRecursion (λ n. IsThere mid.state (name.Draft n))) same
    (are_there kind.Draft mid.state.files drafts (listing_kept kind.Draft old.state.files mid.state.files drafts (λ n. first.reads (name.Draft n) refl) listing))

pub there_after_drafts : (numbers keep others : List ℕ) (old mid late : DiskView) (stages given : List ℕ) → stages ≡ given → IsListing kind.Stage old.state.files stages
    → TouchesOnly (is_swept kind.Page numbers keep) old mid → TouchesOnly (is_swept kind.Draft others []) mid late → AllByRecursion (λ n. IsThere late.state (name.Stage n)) given
there_after_drafts numbers keep others old mid late stages given same listing first second = subst (AllByRecursion (λ n. IsThere late.state (name.Stage n))) same
    (are_there kind.Stage late.state.files stages (listing_kept kind.Stage old.state.files late.state.files stages (λ n. second.reads (name.Stage n) refl ∙ first.reads (name.Stage n) refl) listing))
