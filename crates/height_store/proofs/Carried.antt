-- Heights shown by files, and by other files that have the same marks and page files.
use Rattle.std.proofs.Common.{◌≡◌, ℕ, true, false, List, [], ◌∷◌, refl, ◌∙◌}
use Rattle.std.specs.List.{AllByRecursion}
use Rattle.std.proofs.lemmas.Bool.{false≢true}
use Rattle.sys_state.specs.System.{part_of}
use Rattle.store_spec.specs.Image.{Published}
use Rattle.disk_model.specs.declared.name.Name.{Name}
use Rattle.disk_model.specs.declared.name.Name.TheVariants as name
use Rattle.disk_model.specs.Files.{Files, same_name}
use Rattle.page_file.specs.Files.{NumberedFile, IsAsKnown}
use Rattle.height_store.specs.Store.{StoredHeight, mark_names, is_needed}
use Rattle.height_store.specs.Kept.{ShowsHeight}
use Rattle.height_store.specs.Laws.{made_apart}
use Rattle.format_spec.proofs.Lists.{all_weaker}

pub all_both : {A : Type 0} (P Q : A → Type 0) (xs : List A) → AllByRecursion P xs → AllByRecursion Q xs → AllByRecursion (λ x. P x × Q x) xs
all_both P Q [] one other = tt
all_both P Q (x ∷ xs) one other = ((one.0, other.0), all_both P Q xs one.1 other.1)

pub height_carried : (f g : Files) (h : StoredHeight) (p : Published) → g (name.Mark h.mark.height) ≡ f (name.Mark h.mark.height) → ((n : ℕ) → mark_names h.mark n ≡ true → g (name.Page n) ≡ f (name.Page n)) → ShowsHeight f h p → ShowsHeight g h p
height_carried f g h p mark pages shows = record {
  good = shows.good;
  mark = mark ∙ shows.mark;
  made = made_apart f g h.mark (part_of h.system) h.stacks p pages shows.made;
}

-- page files are kept where they read the same
pub stacks_carried : (f g : Files) → ((n : ℕ) → g (name.Page n) ≡ f (name.Page n)) → (stacks : List (List NumberedFile)) → AllByRecursion (AllByRecursion (IsAsKnown f)) stacks → AllByRecursion (AllByRecursion (IsAsKnown g)) stacks
stacks_carried f g same stacks kept = all_weaker (AllByRecursion (IsAsKnown f)) (AllByRecursion (IsAsKnown g)) (λ stack all. all_weaker (IsAsKnown f) (IsAsKnown g) one stack all) stacks kept
  where
    one : (file : NumberedFile) → IsAsKnown f file → IsAsKnown g file
    one file kept = (kept.0, record { text = kept.1.text; there = same file.number ∙ kept.1.there; good = kept.1.good })

-- neither a draft nor a stage file is needed
pub no_draft_needed : (hs : List StoredHeight) (height : ℕ) (q : Name) → is_needed hs q ≡ true → same_name (name.Draft height) q ≡ false
no_draft_needed hs height (name.Mark n) needed = refl
no_draft_needed hs height (name.Page n) needed = refl
no_draft_needed hs height (name.Draft n) needed = absurd (false≢true needed)
no_draft_needed hs height (name.Stage n) needed = refl
