use Rattle.std.proofs.Common.{rules, arith, nat_lt}
use Rattle.std.proofs.lemmas.Bool.{ltb-true, ltb-false}
use Rattle.std.proofs.lemmas.List.Sorted.{IsPartitionPoint-from_clause, IsPartitionedBy-ltb}
use Rattle.symbol_index.proofs.stems.below.Goals as goal

pub returns : goal.returns
returns c =
    let parted = IsPartitionedBy-ltb (λ h. h.stem) _ c.args.stem c.requires in
    let point = IsPartitionPoint-from_clause (λ h. nat_lt h.stem c.args.stem) _ _ c.partition_point.ensures.partitioned parted (λ a r q k. search rules) in
    record { bound = c.partition_point.ensures.bound; before = λ k d lt. ltb-true _ _ (point.0 k d (omega (arith, c.partition_point.ensures.bound)) lt); behind = λ k d le lt. ltb-false _ _ (point.1 k d le lt) }
