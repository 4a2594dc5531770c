use Rattle.std.proofs.Common.{◌≡◌, ◌∙◌, ap, sym}
use Rattle.tree_spec.specs.Labelled.{state_tree}
use Rattle.sys_state.specs.System.{part_of}
use Rattle.hash_tree.specs.View.{tree_view}
use Rattle.live_state.specs.StateKept.{StateView}
use Rattle.live_state.proofs.Hashed.{parts_kept, tree_root_is}
use Rattle.live_state.proofs.height_state.HeightState.tree_root.Goals as goal

pub returns-in-Some : goal.returns-in-Some
returns-in-Some c = λ k keeps.
    let parts = parts_kept c.args.self.now c.self.inside.sys k keeps (ap (λ (h : StateView). h.system) c.self.view_is) in
    let kept : tree_view c.in-Some.tree ≡ state_tree (part_of c.self.inside.sys) = rw c.in-Some.is at c.self.invariant.kept in
    tree_root_is k.1 _ _ c.root.ensures (kept ∙ ap state_tree (sym parts))

pub returns-in-None : goal.returns-in-None
returns-in-None c = λ k keeps. c.tree_root_of.ensures k.1 (parts_kept c.args.self.now c.self.inside.sys k keeps (ap (λ (h : StateView). h.system) c.self.view_is))
