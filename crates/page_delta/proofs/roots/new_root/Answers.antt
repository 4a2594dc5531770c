use Rattle.std.proofs.Common.{ℕ, [], refl, arith}
use Rattle.page_delta.specs.Totals.{total}
use Rattle.page_delta.specs.Roots.{roots}
use Rattle.page_delta.specs.Shared.{slots_in}
use Rattle.page_delta.specs.declared.roots.Root.{Root}
use Rattle.page_delta.proofs.RootCalls.{Added, PutsEmpty, added-at, kept-added, adds-root, puts-empty, root-empty, shared-empty, looks-empty, held-empty, places-empty, pages-none}
use Rattle.page_delta.proofs.roots.new_root.Goals.{After-insert_reserved}
use Rattle.page_delta.proofs.roots.new_root.Goals as goal

abbrev root_of : ℕ → Root
root_of node = record { node = node; pages = 0 }

empty_put : (c : After-insert_reserved) → PutsEmpty c.args.nodes.now.slots c.put-node.new.nodes.slots c.put-node.result c.empty.result 3
empty_put c =
    puts-empty c.args.nodes.now.slots c.make_room.new.nodes.slots c.put-node.new.nodes.slots c.put-node.result c.empty.result 3
    (omega arith) c.make_room.ensures.nodes c.empty.ensures c.put-node.ensures.fresh c.put-node.ensures.here c.put-node.ensures.rest

added : (c : After-insert_reserved) → Added c.args.ids.now.slots c.insert_reserved.new.self.slots c.in_ok-id.id (root_of c.put-node.result)
added c =
    let new = c.insert_reserved.ensures in
    added-at c.args.ids.now.slots c.make_id.new.ids.slots c.insert_reserved.new.self.slots c.insert_reserved.result c.in_ok-id.id (root_of c.put-node.result)
    (omega (arith, new.key, c.in_ok-id.ensures.id)) c.make_id.ensures.ids new.was_vacant new.updates.changed new.updates.others

pub returns-clause-kept : goal.returns-clause-kept
returns-clause-kept c =
    let ids = c.args.ids.now.slots in
    let now = c.insert_reserved.new.self.slots in
    let xs = c.args.nodes.now.slots in
    let ys = c.put-node.new.nodes.slots in
    let root = root_of c.put-node.result in
    let p = empty_put (goal.at.returns-clause-kept c).After-insert_reserved in
    let a = added (goal.at.returns-clause-kept c).After-insert_reserved in
    let counts : ℕ → ℕ = λ slot. total (slots_in slot) xs in
    kept-added ids now c.in_ok-id.id root a xs ys (root-empty ids now c.in_ok-id.id root xs ys c.empty.result a c.requires p refl)
    counts (λ slot. 0) (shared-empty xs ys root.node c.empty.result 3 p counts (λ m. total (roots m) ids) (λ slot. 0) c.requires.shared)
    (places-empty xs ys root.node c.empty.result 3 p) (omega (arith, c.put-node.ensures.len, c.in_ok-make_room.ensures.few))
    (rw c.make_id.ensures.ids at c.in_ok-id.ensures.few)

pub returns-clause-added : goal.returns-clause-added
returns-clause-added c =
    let ids = c.args.ids.now.slots in
    let now = c.insert_reserved.new.self.slots in
    let xs = c.args.nodes.now.slots in
    let ys = c.put-node.new.nodes.slots in
    let root = root_of c.put-node.result in
    let p = empty_put (goal.at.returns-clause-added c).After-insert_reserved in
    let a = added (goal.at.returns-clause-added c).After-insert_reserved in
    adds-root ids now c.in_ok-id.id root a xs ys (root-empty ids now c.in_ok-id.id root xs ys c.empty.result a c.requires p refl)
    [] (pages-none ys root.node (looks-empty xs ys root.node c.empty.result 3 p)) (held-empty xs ys root.node c.empty.result 3 p)
