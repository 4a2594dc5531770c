use Rattle.std.proofs.Common.{◌+◌, ◌++◌, ◌∷◌, [], ◌∙◌, ap, refl, arith}
use Rattle.page_file.proofs.Build.{last_fits, has_wider, has_next, has_same}
use Rattle.page_file.proofs.Kept.{pages_fit}
use Rattle.page_file.proofs.index.FileIndex.build.Goals.{then-page-last, else-page-last+in_ok-push}
use Rattle.page_file.proofs.index.FileIndex.build.Goals as goal

pub overflow_add-last-else-page-last : goal.overflow_add-last-else-page-last
overflow_add-last-else-page-last c =
    let fits = last_fits c.args.memory 0 0 c.loop-i.ranges.items c.loop-i.last c.loop-i.invariant.ascend (omega arith) in
    omega (arith, fits, c.requires.memory_fits)

pub loop-i-preserved : goal.loop-i-preserved
loop-i-preserved c =
    let m = c.args.memory in
    let ns = c.args.pages.now in
    let i = c.loop-i.i in
    let rs = c.loop-i.ranges.items in
    let last = c.loop-i.last in
    elim c.if-page-last.branch [
      | then-page-last w ↦ has_same m ns (i + 1) rs c.if-page-last.ranges.items _ c.if-page-last.last (ap (λ v. v.items) w.ranges-is) w.last-is
          (has_wider m ns i rs last _ c.loop-i.invariant c.requires.within c.loop-i-test.true refl w.if-page-last.true)
      | else-page-last+in_ok-push w ↦ has_same m ns (i + 1) (rs ++ last ∷ []) c.if-page-last.ranges.items _ c.if-page-last.last (ap (λ v. v.items) w.ranges-is ∙ w.in_ok-push.ensures.items) w.last-is
          (has_next m ns i rs last _ c.loop-i.invariant c.requires.ascends c.requires.within c.loop-i-test.true refl w.if-page-last.false)
    ]

pub overflow_cast-result : goal.overflow_cast-result
overflow_cast-result c = omega (arith, pages_fit (record { memory = c.args.memory; numbers = c.args.pages.now }) c.requires, c.requires.memory_fits)
