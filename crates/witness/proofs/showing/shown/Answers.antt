use Rattle.std.proofs.Common.{◌≡◌, ◌∙◌, map, ap}
use Rattle.hash_tree.specs.View.{tree_view}
use Rattle.witness.specs.Parts.{part}
use Rattle.witness.specs.Shows.{IsWitness}
use Rattle.witness.proofs.Witnesses.{is_witness, gathered_more, gathered_all}
use Rattle.witness.proofs.showing.shown.Goals as goal
use Rattle.std.proofs.lemmas.Result.{IfOk-weaker}

pub loop-path-init : goal.loop-path-init
loop-path-init c = record { same = ap (map (λ p. p.now)) c.in_ok-rests.ensures.items; some = tt }

pub loop-path-preserved : goal.loop-path-preserved
loop-path-preserved c =
    gathered_more (λ p. p.now) c.loop-path.rests.items c.push.new.self.items c.labels.result c.args.paths.now c.loop-path.path-index c.path-item.result c.loop-path.invariant
    c.in_ok-push.ensures.items c.labels.ensures.value c.loop-path-test.true c.path-item.is c.labels.ensures.path

pub returns : goal.returns
returns c = λ v s good is.
    let ps = c.args.paths.now in
    let all = gathered_all (map (λ p. p.now) c.loop-path.rests.items) ps c.loop-path.path-index c.loop-path-test.false c.loop-path.invariant in
    let paths : map (λ p. p.now) c.deref.result.now ≡ ps = ap (map (λ p. p.now)) c.deref.ensures.value ∙ all.0 in
    IfOk-weaker c.part.result (λ w. tree_view w ≡ part (tree_view c.args.tree.now) (map (λ p. p.now) c.deref.result.now)) (λ w. IsWitness s ps (tree_view w))
    (λ w h. is_witness v s good ps all.1 (tree_view w) (h ∙ ap (λ t. part t (map (λ p. p.now) c.deref.result.now)) is ∙ ap (part _) paths))
    c.part.ensures
