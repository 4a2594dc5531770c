use Rattle.std.proofs.Common.{leb, rules, arith}
use Rattle.std.proofs.lemmas.Bool.{leb-true, leb-false, le-leb}
use Rattle.std.proofs.lemmas.List.Sorted.{IsPartitionPoint-from_clause}
use Rattle.page_file.proofs.range.begun_by.Goals as goal

pub returns-clause-begun : goal.returns-clause-begun
returns-clause-begun c =
    let point = IsPartitionPoint-from_clause (λ r. leb r.first c.args.page) _ _ c.partition_point.ensures.partitioned
    (λ i j d le lt at. le-leb _ _ (omega (arith, c.requires i j d le lt, leb-true _ _ at))) (λ a r q k. search rules) in
    λ k d lt. leb-true _ _ (point.0 k d (omega arith) lt)

pub returns-clause-later : goal.returns-clause-later
returns-clause-later c =
    let point = IsPartitionPoint-from_clause (λ r. leb r.first c.args.page) _ _ c.partition_point.ensures.partitioned
    (λ i j d le lt at. le-leb _ _ (omega (arith, c.requires i j d le lt, leb-true _ _ at))) (λ a r q k. search rules) in
    λ k d le lt. leb-false _ _ (point.1 k d le lt)
