use Rattle.std.proofs.Common.{◌∙◌, ℕ, List, Option, Some, None, get_or, sym, ap, arith}
use Rattle.page_delta.specs.Nodes.{width, child_in, entry_in}
use Rattle.page_delta.specs.declared.entry.Entry.{Entry}
use Rattle.page_delta.proofs.Copies.{few-counts, few-slots}
use Rattle.page_delta.proofs.tree.share.Goals as goal

pub raise_each-requires-clause-live : goal.raise_each-requires-clause-live
raise_each-requires-clause-live c = λ k child e. c.requires.children k child (ap (λ n. child_in (Some n) k) c.in-Branch.is ∙ ap (λ (l : List (Option ℕ)). get_or l k None) (sym c.all.ensures) ∙ e)

pub raise_each-requires-clause-room : goal.raise_each-requires-clause-room
raise_each-requires-clause-room c = λ child.
    let few = few-counts c.args.nodes.now.slots c.args.pool.now c.requires.stands child in
    let wide = sym (ap width c.in-Branch.is) ∙ c.requires.wide in
    omega arith

pub retain_each-requires-clause-live : goal.retain_each-requires-clause-live
retain_each-requires-clause-live c = λ k entry e. c.requires.entries k entry (ap (λ n. entry_in (Some n) k) c.in-Leaf.is ∙ ap (λ (l : List (Option Entry)). get_or l k None) (sym c.all-in-Leaf.ensures) ∙ e)

pub retain_each-requires-clause-room : goal.retain_each-requires-clause-room
retain_each-requires-clause-room c = λ slot.
    let few = few-slots c.args.nodes.now.slots c.args.pool.now c.requires.stands slot in
    let wide = sym (ap width c.in-Leaf.is) ∙ c.requires.wide in
    omega arith
