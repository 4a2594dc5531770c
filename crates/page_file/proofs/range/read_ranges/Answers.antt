use Rattle.std.proofs.Common.{◌+◌, ◌*◌, ◌≡◌, ◌∙◌, ap, sym, arith, take, ◌++◌, ◌∷◌, []}
use Rattle.page_file.specs.Ranges.{text_of}
use Rattle.page_file.proofs.Parts.{take_both, ranges_push}
use Rattle.page_file.proofs.Steps.{text_push}
use Rattle.page_file.proofs.range.read_ranges.Goals as goal

pub loop-i-preserved : goal.loop-i-preserved
loop-i-preserved c =
    let is = c.in_ok-push.ensures.items in
    let at : 12 * c.loop-i.i + 12 ≡ 12 * (c.loop-i.i + 1) = omega arith in
    record {
      value = is ∙ (λ i. c.loop-i.invariant.value i ++ c.range_at.ensures.value i ∷ []) ∙ sym (ranges_push c.loop-i.i c.args.bytes.now);
      text = ap text_of is ∙ text_push c.loop-i.ranges.items c.range_at.result
          ∙ (λ i. c.loop-i.invariant.text i ++ c.range_at.ensures.text i)
          ∙ sym (take_both (12 * c.loop-i.i) 12 c.args.bytes.now) ∙ ap (λ k. take k c.args.bytes.now) at;
    }
