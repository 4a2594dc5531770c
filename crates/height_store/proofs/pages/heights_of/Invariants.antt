use Rattle.std.proofs.Common.{◌≡◌, map}
use Rattle.std.specs.List.{AllByRecursion}
use Rattle.disk_model.specs.Files.{Files}
use Rattle.page_file.specs.Files.{IsAsKnown}
use Rattle.height_store.specs.Kept.{HasStacks}
use Rattle.height_store.specs.Store.{IsHeight}
use Rattle.height_store.proofs.pages.heights_of.Given as goal

abbrev pub invariant-loop-mark : goal.invariant-loop-mark
invariant-loop-mark l =
    (goal.iterator-loop-mark).can_next l.mark-iterator ×
    (goal.iterator-loop-mark).is_finite l.mark-iterator ×
    record {
      marks : map (λ h. record { mark = h.mark; system = h.system }) l.heights.items ≡ l.yielded;
      good : AllByRecursion IsHeight l.heights.items;
      stacks : (all : Files) → AllByRecursion (IsAsKnown all) l.files → AllByRecursion (HasStacks all) l.heights.items;
    }
