use Rattle.std.proofs.Common.{◌≡◌, ◌∙◌, sym, ap, arith}
use Rattle.page_pool.specs.Pool.{count_at}
use Rattle.page_delta.specs.Nodes.{child_in, count_in, node_at}
use Rattle.page_delta.proofs.Looks.{child-live}
use Rattle.page_delta.proofs.tree.own_child.Goals as goal

pub index-requires-in-Some : goal.index-requires-in-Some
index-requires-in-Some c = child-live c.args.nodes.now.slots (count_at c.args.pool.now) c.requires.stands.hands c.requires.stands.loose c.args.parent c.args.digit c.in-Some.child c.requires.stands.shared (ap (λ o. child_in o c.args.digit) c.index.ensures ∙ sym c.in-Some.ensures)

pub split-requires-clause-many : goal.split-requires-clause-many
split-requires-clause-many c =
    let live = child-live c.args.nodes.now.slots (count_at c.args.pool.now) c.requires.stands.hands c.requires.stands.loose c.args.parent c.args.digit c.in-Some.child c.requires.stands.shared (ap (λ o. child_in o c.args.digit) c.index.ensures ∙ sym c.in-Some.ensures) in
    let pos = c.requires.stands.shared.alive c.in-Some.child live in
    let is : count_in (node_at c.args.nodes.now.slots c.in-Some.child) ≡ c.count.result = ap count_in c.index-in-Some.ensures ∙ sym c.count.ensures in
    omega (arith, c.if-count-eq1.false)
