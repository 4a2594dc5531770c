use Rattle.std.proofs.Common.{◌≡◌, ℕ, take, length, false, get_or}
use Rattle.std.specs.List.{list_any}
use Rattle.page_spec.specs.Layers.{has_page}
use Rattle.layer_stack.specs.Stacks.{pages_in}
use Rattle.layer_stack.proofs.stack.Stack.pages_of.Given as goal

abbrev pub invariant-loop-file : goal.invariant-loop-file
invariant-loop-file l = record {
  long : length l.marks.items ≡ l.memory;
  marked : (page : ℕ) → get_or l.marks.items page false ≡ list_any (has_page page) (pages_in (take l.file-index l.layers));
}
