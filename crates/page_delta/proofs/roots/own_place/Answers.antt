use Rattle.std.proofs.Common.{◌%◌, ◌∙◌, sym, ap, subst}
use Rattle.page_delta.specs.Nodes.{entry_in}
use Rattle.page_delta.specs.Shared.{IsOwnLeaf}
use Rattle.page_delta.specs.declared.roots.Root.{Root}
use Rattle.page_delta.proofs.Sharing.{not-some}
use Rattle.page_delta.proofs.Rooted.{kept-closed}
use Rattle.page_delta.proofs.InPlace.{placed-live}
use Rattle.page_delta.proofs.roots.own_place.Goals as goal
use Rattle.std.proofs.lemmas.Option.{same_Some}

pub own_leaf-requires-clause-closed : goal.own_leaf-requires-clause-closed
own_leaf-requires-clause-closed c = kept-closed c.args.nodes.now.slots c.args.ids.now.slots c.requires.kept

pub count-requires : goal.count-requires
count-requires c = placed-live c.args.nodes.now.slots c.args.pool.now c.in_ok-leaf.leaf
    (c.args.page % 32) c.in_ok-entry.entry c.requires.held
    (ap (λ o. entry_in o (c.args.page % 32)) c.index-2.ensures ∙ sym c.in_ok-entry.ensures)

pub returns-in_err-leaf-clause-some : goal.returns-in_err-leaf-clause-some
returns-in_err-leaf-clause-some c = λ leaf slot o.
    let same = same_Some o.root c.index.result.now (sym o.root_is ∙ c.index.ensures) in
    absurd (not-some c.own_leaf.result c.in_err-leaf.was
    (c.own_leaf.ensures.some leaf (subst (λ (r : Root). IsOwnLeaf c.args.nodes.now.slots r.node c.args.page leaf) same o.leaf_is)))
