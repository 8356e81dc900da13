-- `range::count_below` meets its contract. Assumes nothing.
use Rattle.std.proofs.Common.{ltb, rules, arith}
use Rattle.std.proofs.lemmas.List.Sorted.{IsPartitionPoint-from_clause}
use Rattle.range.proofs.Comparing.{ascending_correct}
use Rattle.range.proofs.Counting.{parted, point_is_below}
use Rattle.range.proofs.count_below.Goals as goal

pub returns : goal.returns
returns c =
    let b = c.args.bound in
    let xs = c.args.list.now in
    let a = (ascending_correct xs).0 c.requires in
    let e = c.partition_point.ensures in
    let point =
    point_is_below b xs a e.bound
    (IsPartitionPoint-from_clause (λ x. ltb x b) xs _ e.partitioned (parted b xs a)
    (λ p r q k. search rules)) in
    omega (arith, point, e.bound)
