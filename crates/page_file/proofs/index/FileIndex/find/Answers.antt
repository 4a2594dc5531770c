use Rattle.std.proofs.Common.{◌+◌, ◌-◌, ◌≤◌, ◌==◌, ◌∙◌, length, get_or, ap, sym, subst, arith}
use Rattle.std.specs.List.{position}
use Rattle.page_spec.specs.PageFile.{PageIndex}
use Rattle.page_file.specs.declared.range.Range.{Range}
use Rattle.page_file.specs.Ranges.{numbers_in, AreRanges}
use Rattle.page_file.proofs.Find.{firsts_ascend, none_before, found_by, found_here, found_nowhere, range_fits}
use Rattle.page_file.proofs.index.FileIndex.find.Goals as goal

pub begun_by-after-requires : goal.begun_by-after-requires
begun_by-after-requires c = firsts_ascend c.self.inside.memory 0 0 c.deref.result.now (subst (AreRanges c.self.inside.memory 0 0) (sym c.deref.ensures.value) c.self.invariant.ascend)

pub returns-then-after-eq0 : goal.returns-then-after-eq0
returns-then-after-eq0 c =
    let h = subst (AreRanges c.self.inside.memory 0 0) (sym c.deref.ensures.value) c.self.invariant.ascend in
    sym (none_before c.args.page c.self.inside.memory 0 0 c.deref.result.now h (λ d lt. c.begun_by-after.ensures.later 0 d (omega arith) lt))
    ∙ ap (λ ns. position (λ p. p == c.args.page) ns) (ap numbers_in c.deref.ensures.value ∙ ap (λ (i : PageIndex). i.numbers) c.self.view_is)

pub overflow_sub-offset : goal.overflow_sub-offset
overflow_sub-offset c =
    let r = c.index-range.result.now in
    let at = c.index-range.ensures ∙ ap (λ rs. get_or rs (c.begun_by-after.result - 1) r) (sym c.deref.ensures.value) in
    let some : 1 ≤ c.begun_by-after.result = omega (arith, c.if-after-eq0.false) in
    subst (λ (x : Range). x.first ≤ c.args.page) (sym at) (c.begun_by-after.ensures.begun (c.begun_by-after.result - 1) r (omega (arith, some)))

pub overflow_add-result : goal.overflow_add-result
overflow_add-result c =
    let r = c.index-range.result.now in
    let some : 1 ≤ c.begun_by-after.result = omega (arith, c.if-after-eq0.false) in
    let fits = range_fits c.self.inside.memory 0 0 c.self.inside.ranges.items c.self.invariant.ascend (omega arith) (c.begun_by-after.result - 1) r (omega (arith, some, c.begun_by-after.ensures.count, ap length c.deref.ensures.value)) in
    let here = subst (λ (x : Range). (x.place ≤ x.first) × (x.first + x.length ≤ c.self.inside.memory)) (sym c.index-range.ensures) fits in
    omega (arith, here, c.if-offset-range.true, c.self.invariant.memory_fits)

pub returns-then-offset-range : goal.returns-then-offset-range
returns-then-offset-range c =
    let r = c.index-range.result.now in
    let h = subst (AreRanges c.self.inside.memory 0 0) (sym c.deref.ensures.value) c.self.invariant.ascend in
    let at = c.index-range.ensures ∙ ap (λ rs. get_or rs (c.begun_by-after.result - 1) r) (sym c.deref.ensures.value) in
    sym (found_by c.args.page c.self.inside.memory c.deref.result.now c.begun_by-after.result r r h c.begun_by-after.ensures.count c.begun_by-after.ensures.begun c.begun_by-after.ensures.later c.if-after-eq0.false at
    ∙ found_here c.args.page r c.if-offset-range.true)
    ∙ ap (λ ns. position (λ p. p == c.args.page) ns) (ap numbers_in c.deref.ensures.value ∙ ap (λ (i : PageIndex). i.numbers) c.self.view_is)

pub returns-else-offset-range : goal.returns-else-offset-range
returns-else-offset-range c =
    let r = c.index-range.result.now in
    let h = subst (AreRanges c.self.inside.memory 0 0) (sym c.deref.ensures.value) c.self.invariant.ascend in
    let at = c.index-range.ensures ∙ ap (λ rs. get_or rs (c.begun_by-after.result - 1) r) (sym c.deref.ensures.value) in
    sym (found_by c.args.page c.self.inside.memory c.deref.result.now c.begun_by-after.result r r h c.begun_by-after.ensures.count c.begun_by-after.ensures.begun c.begun_by-after.ensures.later c.if-after-eq0.false at
    ∙ found_nowhere c.args.page r c.if-offset-range.false)
    ∙ ap (λ ns. position (λ p. p == c.args.page) ns) (ap numbers_in c.deref.ensures.value ∙ ap (λ (i : PageIndex). i.numbers) c.self.view_is)
