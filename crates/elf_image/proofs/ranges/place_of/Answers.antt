use Rattle.std.proofs.Common.{leb, leb-true, arith, rules}
use Rattle.std.proofs.lemmas.Bool.{leb-false}
use Rattle.std.proofs.lemmas.List.Sorted.{IsPartitionPoint-from_clause, IsPartitionedBy-leb}
use Rattle.elf_image.proofs.Places.{rise}
use Rattle.elf_image.proofs.ranges.place_of.Goals as goal

pub returns : goal.returns
returns c =
    let parted = IsPartitionedBy-leb (λ r. r.from) _ c.args.at (rise 0 c.args.ranges.now c.requires) in
    let point = IsPartitionPoint-from_clause (λ r. leb r.from c.args.at) _ _ c.partition_point.ensures.partitioned parted (λ a r q k. search rules) in
    record { bound = c.partition_point.ensures.bound; below = λ k d lt. leb-true _ _ (point.0 k d (omega (arith, c.partition_point.ensures.bound)) lt); above = λ k d le lt. leb-false _ _ (point.1 k d le lt) }
