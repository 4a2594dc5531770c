use Rattle.std.proofs.Common.{sym, ap}
use Rattle.store_spec.specs.Mark.{Mark}
use Rattle.height_store.proofs.Parts.{height_decoded, is_decoded}
use Rattle.height_store.proofs.publishing.published.Goals as goal

pub index_of-requires : goal.index_of-requires
index_of-requires c = (height_decoded _ c.args.text.now c.args.mark.now c.args.stacks.items c.in-Ok.mark c.in-Ok.sys c.requires.text (sym (ap (λ (m : Mark). m.height) c.mark.view_is)) c.requires.fits c.in-Ok.ensures.exact).1.parts.mark

pub invariant_of-result : goal.invariant_of-result
invariant_of-result c = record {
  good = (height_decoded _ c.args.text.now c.args.mark.now c.args.stacks.items c.in-Ok.mark c.in-Ok.sys c.requires.text (sym (ap (λ (m : Mark). m.height) c.mark.view_is)) c.requires.fits c.in-Ok.ensures.exact).1;
  chunks = c.in_ok-chunks-in-Ok.ensures;
}

pub returns-in_ok-chunks-in-Ok-clause-good : goal.returns-in_ok-chunks-in-Ok-clause-good
returns-in_ok-chunks-in-Ok-clause-good c = (invariant_of-result c).good

pub returns-in_ok-chunks-in-Ok-clause-mark : goal.returns-in_ok-chunks-in-Ok-clause-mark
returns-in_ok-chunks-in-Ok-clause-mark c = (height_decoded _ c.args.text.now c.args.mark.now c.args.stacks.items c.in-Ok.mark c.in-Ok.sys c.requires.text (sym (ap (λ (m : Mark). m.height) c.mark.view_is)) c.requires.fits c.in-Ok.ensures.exact).0

pub unreachable-requires : goal.unreachable-requires
unreachable-requires c = is_decoded _ c.args.text.now c.args.mark.now c.args.stacks.items c.requires.text (sym (ap (λ (m : Mark). m.height) c.mark.view_is)) c.requires.fits c.in-Err-BadMark.field-0 c.in-Err-BadMark.field-0-0 c.in-Err-BadMark.field-0-is c.in-Err-BadMark.ensures.exact
