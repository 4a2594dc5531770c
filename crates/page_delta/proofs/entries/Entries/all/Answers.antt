use Rattle.std.proofs.Common.{List, Option, length, None, ap, sym, ◌∙◌, arith}
use Rattle.std.proofs.lemmas.List.{ext_get_or}
use Rattle.page_delta.specs.declared.entry.Entry.{Entry}
use Rattle.page_delta.proofs.Arrays.{entries-wide, all-step}
use Rattle.page_delta.proofs.entries.Entries.all.Goals as goal

pub returns : goal.returns
returns c =
    let all = c.loop-place-test.false in
    let len = c.loop-place.invariant.0 in
    let wide = ap (λ (l : List (Option Entry)). length l) c.self.view_is in
    let told = entries-wide c.self.inside.slots c.self.inside.stamps (omega (arith, c.self.told.0, c.self.told.1)) in
    ext_get_or None c.loop-place.all c.args.self.now (len ∙ sym (sym wide ∙ told ∙ c.self.told.1)) (λ k below. c.loop-place.invariant.1 k (omega arith))

pub loop-place-preserved : goal.loop-place-preserved
loop-place-preserved c =
    all-step c.loop-place.all c.args.self.now c.loop-place.place c.at.result c.loop-place.invariant.0 c.loop-place.invariant.1 c.loop-place-test.true c.at.ensures
