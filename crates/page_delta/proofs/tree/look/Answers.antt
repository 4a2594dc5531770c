use Rattle.std.proofs.Common.{◌/◌, ◌%◌, ◌∙◌, sym, ap}
use Rattle.page_delta.specs.Nodes.{child_in}
use Rattle.page_delta.proofs.tree.look.Goals as goal

pub index-requires-2 : goal.index-requires-2
index-requires-2 c = c.requires.closed c.args.root (c.args.page / 32768 % 32) c.in_ok-upper.upper (ap (λ o. child_in o (c.args.page / 32768 % 32)) c.index.ensures ∙ sym c.in_ok-upper.ensures)

pub index-requires-3 : goal.index-requires-3
index-requires-3 c = c.requires.closed c.in_ok-upper.upper (c.args.page / 1024 % 32) c.in_ok-lower.lower (ap (λ o. child_in o (c.args.page / 1024 % 32)) c.index-2.ensures ∙ sym c.in_ok-lower.ensures)

pub index-requires-4 : goal.index-requires-4
index-requires-4 c = c.requires.closed c.in_ok-lower.lower (c.args.page / 32 % 32) c.in_ok-leaf.leaf (ap (λ o. child_in o (c.args.page / 32 % 32)) c.index-3.ensures ∙ sym c.in_ok-leaf.ensures)
