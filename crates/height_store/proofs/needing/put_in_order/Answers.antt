use Rattle.std.specs.List.Sorted.{IsStrictlyIncreasing}
use Rattle.std.proofs.Common.{subst, sym}
use Rattle.std.proofs.lemmas.List.Filters.{dedup_is}
use Rattle.std.proofs.lemmas.Map.Keys.{IsStrictlyIncreasing-dedup}
use Rattle.height_store.proofs.Needs.{once_in_order}
use Rattle.height_store.proofs.needing.put_in_order.Goals as goal

pub returns-clause-each : goal.returns-clause-each
returns-clause-each c = λ n. once_in_order n c.args.numbers.now.items c.sort_unstable.new.self.items c.dedup.new.self.items c.sort_unstable.ensures.permutation (dedup_is _ _ _ c.dedup.ensures.filtered)

pub returns-clause-ascends : goal.returns-clause-ascends
returns-clause-ascends c =
    subst IsStrictlyIncreasing (sym (dedup_is _ _ _ c.dedup.ensures.filtered)) (IsStrictlyIncreasing-dedup c.sort_unstable.new.self.items c.sort_unstable.ensures.sorted)
