use Rattle.std.proofs.Common.{◌≡◌, ◌++◌, ◌∷◌, [], ℕ, map, get_or, Option, None, List, sym, ap, ◌∙◌, arith}
use Rattle.std.specs.List.{range_with_len}
use Rattle.std.proofs.lemmas.List.FromFn.{map-range_with_len_more}
use Rattle.manifest_incr.specs.Tables.{Sums}
use Rattle.manifest_incr.proofs.Taken.{first_more}
use Rattle.manifest_incr.proofs.table.first_sums.Goals as goal

pub loop-i-preserved : goal.loop-i-preserved
loop-i-preserved c = first_more c.args.sums.now c.loop-i.first.items c.push.new.self.items c.sum_or_none.result c.loop-i.i c.in_ok-push.ensures.items c.sum_or_none.ensures c.loop-i.invariant
