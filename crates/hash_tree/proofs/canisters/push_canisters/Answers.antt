use Rattle.std.proofs.Common.{ap, ◌∙◌, arith}
use Rattle.tree_spec.specs.Tree.{labeled}
use Rattle.hash_tree.specs.View.{tree_view}
use Rattle.hash_tree.proofs.Stacking.{enough_pushed}
use Rattle.hash_tree.proofs.Ids.{as_many, all_canisters}
use Rattle.hash_tree.proofs.canisters.push_canisters.Goals as goal

pub take_forks-requires : goal.take_forks-requires
take_forks-requires c = omega (arith, as_many c.args.sys.now.canisters, enough_pushed _ _ _ c.in_ok-push_ids.ensures)

pub returns : goal.returns
returns c =
    all_canisters c.args.sys.now.canisters _ _ _ _ _ c.in_ok-all.all c.in_ok-under.field-0
    (λ e. c.if-canisters-eq0.false (c.canisters.ensures.count ∙ e)) c.in_ok-push_ids.ensures c.canisters-2.ensures.count c.in_ok-all.ensures.taken
    (c.in_ok-under.ensures ∙ ap (λ l. labeled l (tree_view c.in_ok-all.all)) c.in_ok-from_slice.ensures.value) c.in_ok-push.ensures.items
