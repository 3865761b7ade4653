use Rattle.std.proofs.Common.{leb, leb-true, arith, rules}
use Rattle.std.proofs.lemmas.Bool.{leb-false}
use Rattle.std.proofs.lemmas.List.Sorted.{IsPartitionPoint-from_clause, IsPartitionedBy-leb}
use Rattle.flat_memory.proofs.OrderLaws.{rise}
use Rattle.flat_memory.proofs.block_list.place_of.Goals as goal

pub returns : goal.returns
returns c =
    let parted = IsPartitionedBy-leb (λ b. b.from) _ c.args.at (rise c.args.blocks.now c.requires) in
    let point = IsPartitionPoint-from_clause (λ b. leb b.from c.args.at) _ _ c.partition_point.ensures.partitioned parted (λ a r q k. search rules) in
    record {
      bound = c.partition_point.ensures.bound;
      below = λ k d lt. leb-true _ _ (point.0 k d (omega (arith, c.partition_point.ensures.bound)) lt);
      above = λ k d le lt. leb-false _ _ (point.1 k d le lt);
    }
