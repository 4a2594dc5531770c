use Rattle.std.proofs.Common.{◌∙◌, List, Option, Some, None, refl, sym, ap, subst, arith}
use Rattle.page_delta.specs.Roots.{root_at, AreSound}
use Rattle.page_delta.specs.declared.roots.Root.{Root}
use Rattle.page_delta.proofs.RootCopies.{stands-kept}
use Rattle.page_delta.proofs.RootCalls.{Added, added-at}
use Rattle.page_delta.proofs.KeepCalls.{held-tree, kept-tree, maps-tree, kept-newer, keeps-root}
use Rattle.page_delta.proofs.keep.keep_root.Goals.{After-insert_reserved}
use Rattle.page_delta.proofs.keep.keep_root.Goals as goal
use Rattle.format_spec.proofs.Lists.{on_err}

pub keep_tree-requires-clause-stands : goal.keep_tree-requires-clause-stands
keep_tree-requires-clause-stands c = stands-kept c.args.nodes.now.slots c.args.ids.now.slots c.args.pool.now
    (λ s. 0) c.requires.kept c.requires.held (λ slot. omega arith)

pub returns-in_err-root-clause-kept : goal.returns-in_err-root-clause-kept
returns-in_err-root-clause-kept c =
    subst (λ (ids : List (Option Root)). AreSound c.keep_tree.new.nodes.slots ids) (sym c.make_id.ensures.ids)
    (kept-tree c.args.nodes.now.slots c.keep_tree.new.nodes.slots c.args.ids.now.slots c.args.pool.now c.keep_tree.new.pool None
    c.requires.kept c.requires.held c.in_err-root.ensures.err refl)

pub returns-in_err-root-clause-held : goal.returns-in_err-root-clause-held
returns-in_err-root-clause-held c = held-tree c.args.nodes.now.slots c.keep_tree.new.nodes.slots c.args.ids.now.slots c.args.pool.now
    c.keep_tree.new.pool None c.requires.kept c.requires.held c.in_err-root.ensures.err

pub returns-in_err-root-clause-err : goal.returns-in_err-root-clause-err
returns-in_err-root-clause-err c =
    on_err c.from_residual-in_err-root.result (rw c.make_id.ensures.ids
    (maps-tree c.args.nodes.now.slots c.keep_tree.new.nodes.slots c.args.ids.now.slots c.args.pool.now c.keep_tree.new.pool None
    c.requires.kept c.requires.held c.in_err-root.ensures.err))

added : (c : After-insert_reserved) → Added c.args.ids.now.slots c.insert_reserved.new.self.slots c.in_ok-kept.kept c.in_ok-root.root
added c =
    let new = c.insert_reserved.ensures in
    added-at c.args.ids.now.slots c.make_id.new.ids.slots c.insert_reserved.new.self.slots c.insert_reserved.result c.in_ok-kept.kept c.in_ok-root.root
    (omega (arith, new.key, c.in_ok-kept.ensures.id)) c.make_id.ensures.ids new.was_vacant new.updates.changed new.updates.others

pub returns-clause-kept : goal.returns-clause-kept
returns-clause-kept c =
    let is = sym (ap (λ (ids : List (Option Root)). root_at ids c.args.id) c.make_id.ensures.ids) ∙ c.index.ensures in
    kept-newer c.args.nodes.now.slots c.keep_tree.new.nodes.slots c.args.ids.now.slots c.insert_reserved.new.self.slots c.args.pool.now
    c.keep_tree.new.pool c.args.id c.in_ok-kept.kept c.args.b c.index.result.now c.in_ok-root.root c.requires.kept c.requires.held is
    c.in_ok-root.ensures.keeps c.in_ok-root.ensures.newer (added (goal.at.returns-clause-kept c).After-insert_reserved)
    (rw c.make_id.ensures.ids at c.in_ok-kept.ensures.few)

pub returns-clause-held : goal.returns-clause-held
returns-clause-held c = held-tree c.args.nodes.now.slots c.keep_tree.new.nodes.slots c.args.ids.now.slots c.args.pool.now
    c.keep_tree.new.pool (Some c.in_ok-root.root.node) c.requires.kept c.requires.held c.in_ok-root.ensures.keeps

pub returns-clause-added : goal.returns-clause-added
returns-clause-added c =
    let is = sym (ap (λ (ids : List (Option Root)). root_at ids c.args.id) c.make_id.ensures.ids) ∙ c.index.ensures in
    keeps-root c.args.nodes.now.slots c.keep_tree.new.nodes.slots c.args.ids.now.slots c.insert_reserved.new.self.slots c.args.pool.now
    c.keep_tree.new.pool c.args.id c.in_ok-kept.kept c.args.b c.index.result.now c.in_ok-root.root c.requires.kept c.requires.held is
    c.in_ok-root.ensures.keeps c.in_ok-root.ensures.newer (added (goal.at.returns-clause-added c).After-insert_reserved)
    (rw c.make_id.ensures.ids at c.in_ok-kept.ensures.few)
