use Rattle.std.proofs.Common.{ltb, ltb-true, arith, rules}
use Rattle.std.proofs.lemmas.List.Sorted.{IsPartitionPoint-from_clause, IsPartitionedBy-ltb}
use Rattle.vx_sched.specs.Places.{read_offset}
use Rattle.vx_sched.proofs.places.count_before.Goals as goal

pub returns : goal.returns
returns c =
    let parted = IsPartitionedBy-ltb read_offset _ c.args.offset c.requires in
    let point = IsPartitionPoint-from_clause (λ r. ltb (read_offset r) c.args.offset) _ _ c.partition_point.ensures.partitioned parted (λ a r q k. search rules) in
    λ i d h. ltb-true _ _ (point.0 i d (omega arith) h)
