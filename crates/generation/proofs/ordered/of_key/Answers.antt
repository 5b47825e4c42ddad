use Rattle.std.proofs.Common.{nat_lt, nat_le, rules}
use Rattle.generation.proofs.Words.{IsPartitionPoint-from_clause}
use Rattle.generation.proofs.Searching.{of_key_is}
use Rattle.generation.proofs.ordered.of_key.Goals as goal

pub returns : goal.returns
returns g c =
    let n = g.K.Keys.key c.args.by.now in
    let k = c.args.key in
    of_key_is n k _ _ _ c.requires c.partition_point-end.ensures.bound c.partition_point-first.ensures.bound
    (λ up. IsPartitionPoint-from_clause (λ x. nat_le (n x) k) _ _ c.partition_point-end.ensures.partitioned up (λ a r q w. search rules))
    (λ up. IsPartitionPoint-from_clause (λ x. nat_lt (n x) k) _ _ c.partition_point-first.ensures.partitioned up (λ a r q w. search rules))
