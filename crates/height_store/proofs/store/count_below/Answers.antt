use Rattle.std.proofs.Common.{ltb, rules, arith}
use Rattle.std.proofs.lemmas.Bool.{ltb-true, ltb-false, lt-ltb}
use Rattle.std.proofs.lemmas.List.Sorted.{IsPartitionPoint-from_clause}
use Rattle.height_store.proofs.store.count_below.Goals as goal

pub returns-clause-below : goal.returns-clause-below
returns-clause-below c =
    let point = IsPartitionPoint-from_clause (λ n. ltb n c.args.from) _ _ c.partition_point.ensures.partitioned
    (λ i j d le lt at. lt-ltb _ _ (omega (arith, c.requires i j d le lt, ltb-true _ _ at))) (λ a r q k. search rules) in
    λ k d lt. ltb-true _ _ (point.0 k d (omega arith) lt)

pub returns-clause-others : goal.returns-clause-others
returns-clause-others c =
    let point = IsPartitionPoint-from_clause (λ n. ltb n c.args.from) _ _ c.partition_point.ensures.partitioned
    (λ i j d le lt at. lt-ltb _ _ (omega (arith, c.requires i j d le lt, ltb-true _ _ at))) (λ a r q k. search rules) in
    λ k d le lt. ltb-false _ _ (point.1 k d le lt)
