use Rattle.std.proofs.Common.{◌+◌, ◌*◌, ◌∙◌, ap, arith}
use Rattle.page_file.proofs.Kept.{counts, offset_is}
use Rattle.page_file.proofs.index.FileIndex.offset.Goals as goal

pub overflow_mul-result : goal.overflow_mul-result
overflow_mul-result c = omega (arith, counts c.self.inside c.self.invariant)

pub overflow_add-result : goal.overflow_add-result
overflow_add-result c = omega (arith, counts c.self.inside c.self.invariant)

pub overflow_add-result-2 : goal.overflow_add-result-2
overflow_add-result-2 c = omega (arith, counts c.self.inside c.self.invariant)

pub returns : goal.returns
returns c = ap (λ n. n + 4096 * c.args.place) (offset_is c.self.inside c.args.self.now c.len.result c.self.invariant c.self.view_is (c.len.ensures ∙ c.self.inside.ranges.ok.0))
