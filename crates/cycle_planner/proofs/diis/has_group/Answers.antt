use Rattle.std.proofs.Common.{rules, of_calls, ◌∙◌, length}
use Rattle.std.proofs.lemmas.Bool.{le-ltb}
use Rattle.std.proofs.lemmas.List.Sorted.{IsPartitionPoint-from_clause}
use Rattle.cycle_planner.proofs.Halves.{is_lower, parted, has_at, has_none}
use Rattle.cycle_planner.proofs.diis.has_group.Goals as goal

pub returns-then-first-lines : goal.returns-then-first-lines
returns-then-first-lines c =
    let lines = c.args.lines.now in
    let first = c.partition_point-first.result in
    let point = IsPartitionPoint-from_clause (is_lower c.args.group) lines first c.partition_point-first.ensures.partitioned (parted lines c.requires c.args.group) (λ a r q k. search (rules, of_calls)) in
    let answer = has_at lines c.requires c.args.group first c.if-group-eq1.false point c.if-first-lines.true in
    let group = c.group_of.ensures in
    cc

pub returns-else-first-lines : goal.returns-else-first-lines
returns-else-first-lines c =
    let lines = c.args.lines.now in
    let first = c.partition_point-first.result in
    let point = IsPartitionPoint-from_clause (is_lower c.args.group) lines first c.partition_point-first.ensures.partitioned (parted lines c.requires c.args.group) (λ a r q k. search (rules, of_calls)) in
    le-ltb first (length lines) c.if-first-lines.false ∙ has_none lines c.args.group first c.if-group-eq1.false point c.if-first-lines.false
