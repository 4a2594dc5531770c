use Rattle.std.proofs.Common.{◌≡◌, ◌||◌, ℕ, take, false, get_or}
use Rattle.page_spec.specs.Layers.{has_page}
use Rattle.layer_stack.proofs.union.mark_pages.Given as goal

abbrev pub invariant-loop-page : goal.invariant-loop-page
invariant-loop-page l = (page : ℕ) → get_or l.marks page false ≡ (get_or l.initial.marks page false || has_page page (take l.page-index l.pages))
