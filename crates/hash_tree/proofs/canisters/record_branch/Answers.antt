use Rattle.std.proofs.Common.{◌∙◌, ap}
use Rattle.sha2.specs.Sha256.{sha256}
use Rattle.tree_spec.specs.Tree.{labeled, leaf}
use Rattle.std.proofs.Common.{◌≡◌, codes}
use Rattle.sys_state.specs.System.{part_of_record}
use Rattle.hash_tree.specs.View.{tree_view}
use Rattle.hash_tree.specs.Canisters.{record_tree}
use Rattle.hash_tree.proofs.Stacking.{ok_then}
use Rattle.hash_tree.proofs.Ids.{record_none, record_some}
use Rattle.hash_tree.proofs.canisters.record_branch.Goals as goal

pub returns-in-None : goal.returns-in-None
returns-in-None c = record_none (part_of_record c.args.record.now) _ c.in-None.is (c.in_ok-certified.ensures ∙ ap (λ b. labeled (codes "certified_data") (leaf b)) c.in_ok-copy.ensures)

pub returns-in_ok-leaf_under-in-Some : goal.returns-in_ok-leaf_under-in-Some
returns-in_ok-leaf_under-in-Some c =
    let hash = c.in_ok-hash-in-Some.ensures.value ∙ c.bytes-in-Some.ensures.value ∙ c.plain_hash.ensures ∙ ap sha256 c.bytes.ensures.value in
    let hashed = c.in_ok-leaf_under-in-Some.ensures ∙ ap (λ b. labeled (codes "module_hash") (leaf b)) hash in
    ok_then c.beside.result _ (λ b. tree_view b ≡ record_tree (part_of_record c.args.record.now)) c.beside.ensures
    (λ b e. record_some (part_of_record c.args.record.now) c.in-Some.module _ _ _ c.in-Some.is
    (ap tree_view c.certified.view_is ∙ c.in_ok-certified.ensures ∙ ap (λ b. labeled (codes "certified_data") (leaf b)) c.in_ok-copy.ensures) hashed e)
