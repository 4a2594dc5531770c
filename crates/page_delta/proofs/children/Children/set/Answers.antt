use Rattle.std.proofs.Common.{◌∙◌, ap, map, List, Option, ℕ, set, Some, arith}
use Rattle.std.proofs.lemmas.List.{map-set}
use Rattle.page_pool.specs.Pool.{slot_of}
use Rattle.page_delta.proofs.Arrays.{slot_of-below}
use Rattle.page_delta.proofs.children.Children.set.Goals as goal

pub returns : goal.returns
returns c =
    map-set slot_of c.self.inside.keys c.args.digit c.args.child
    ∙ ap (λ (o : Option ℕ). set (map slot_of c.self.inside.keys) c.args.digit o) (slot_of-below c.args.child (omega (arith, c.requires.child)))
    ∙ ap (λ (l : List (Option ℕ)). set l c.args.digit (Some c.args.child)) c.self.view_is
