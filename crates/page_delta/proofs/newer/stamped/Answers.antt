use Rattle.std.proofs.Common.{◌++◌, ◌∙◌, List, ℕ, Some, ap}
use Rattle.page_delta.specs.Delta.{Pages, pages_after}
use Rattle.page_delta.specs.Nodes.{part}
use Rattle.page_delta.proofs.Walks.{part-whole}
use Rattle.page_delta.proofs.newer.stamped.Goals as goal

pub returns : goal.returns
returns c =
    c.in_ok-newer_below.ensures ∙ ap (λ (xs : List ℕ). xs ++ pages_after c.args.b (part 3 c.args.nodes.now.slots (Some c.args.root) 0 32))
    c.new-pages.ensures.items
    ∙ ap (λ (ps : Pages). pages_after c.args.b ps) (part-whole c.args.nodes.now.slots c.args.root)
