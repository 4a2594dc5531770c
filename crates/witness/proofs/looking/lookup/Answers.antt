use Rattle.std.proofs.Common.{◌∙◌, ◌+◌, drop, sym, ap, arith}
use Rattle.format_spec.specs.Bytes.{Bytes}
use Rattle.tree_spec.specs.Tree.{flatten}
use Rattle.tree_spec.specs.Lookup.{missing}
use Rattle.hash_tree.specs.View.{tree_view}
use Rattle.witness.proofs.Steps.{at_label, at_path_end}
use Rattle.witness.proofs.looking.lookup.Goals as goal
use Rattle.tree_spec.proofs.Labels.{lookup_some, lookup_none}

pub returns-in-None : goal.returns-in-None
returns-in-None c =
    let path = c.args.path.now in
    let items = c.labels-label-items.result.now in
    let i = c.loop-label.label-index in
    let t = tree_view c.loop-label.at.now in
    let label = c.bytes.result.now in
    c.missing.ensures
    ∙ ap (λ (l : Bytes). missing l (flatten t)) (c.bytes-in-None.ensures.value ∙ sym c.bytes.ensures.value)
    ∙ sym (lookup_none label (drop (i + 1) path) t (sym c.in-None.ensures))
    ∙ sym (at_label items path i c.label-item.result label t c.labels-label-items.ensures.value (omega (arith, c.loop-label-test.true)) c.label-item.is c.bytes.ensures.value)
    ∙ c.loop-label.invariant

pub loop-label-preserved : goal.loop-label-preserved
loop-label-preserved c =
    let path = c.args.path.now in
    let items = c.labels-label-items.result.now in
    let i = c.loop-label.label-index in
    let t = tree_view c.loop-label.at.now in
    let label = c.bytes.result.now in
    sym (lookup_some label (drop (i + 1) path) t (tree_view c.in-Some.below.now) (sym c.in-Some.ensures))
    ∙ sym (at_label items path i c.label-item.result label t c.labels-label-items.ensures.value (omega (arith, c.loop-label-test.true)) c.label-item.is c.bytes.ensures.value)
    ∙ c.loop-label.invariant

pub returns : goal.returns
returns c =
    c.at_end.ensures
    ∙ sym (at_path_end c.labels-label-items.result.now c.args.path.now c.loop-label.label-index (tree_view c.loop-label.at.now) c.labels-label-items.ensures.value c.loop-label-test.false)
    ∙ c.loop-label.invariant
