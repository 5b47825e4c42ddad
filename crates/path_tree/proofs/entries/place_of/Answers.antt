use Rattle.std.proofs.Common.{rules, sym, of_calls}
use Rattle.std.proofs.lemmas.List.Sorted.{IsPartitionPoint-from_clause}
use Rattle.path_tree.specs.Inner.Places.{is_before}
use Rattle.path_tree.proofs.Places.{parted, prefix_len-point}
use Rattle.path_tree.proofs.entries.place_of.Goals as goal

pub returns-clause-place : goal.returns-clause-place
returns-clause-place c =
    let entries = c.args.entries.now in
    let path = c.args.path.now in
    let point = IsPartitionPoint-from_clause (is_before path) entries c.partition_point.result c.partition_point.ensures.partitioned (parted entries path c.requires) (λ a r q k. search (rules, of_calls)) in
    sym (prefix_len-point (is_before path) entries c.partition_point.result c.partition_point.ensures.bound point.0 point.1)
