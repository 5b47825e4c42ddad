use Rattle.std.proofs.Common.{◌≤◌, ap, length, map, ◌∙◌}
use Rattle.generation.proofs.Words.{All-filter, MOST_TOTAL_SIZE, Listed, is_in_group, view_listed}
use Rattle.generation.proofs.Searching.{groups_up, filter_seen}
use Rattle.generation.proofs.groups.group_modules.Goals as goal

pub of_key-requires : goal.of_key-requires
of_key-requires c = groups_up c.args.modules.now c.requires

pub returns-clause-group : goal.returns-clause-group
returns-clause-group c = ap (map view_listed) (rw c.from.ensures at c.of_key.ensures) ∙ filter_seen view_listed (is_in_group c.args.group) c.args.modules.now

pub returns-clause-sizes : goal.returns-clause-sizes
returns-clause-sizes c = λ all. rw c.of_key.ensures (All-filter _ (λ (l : Listed). length l.bytes ≤ MOST_TOTAL_SIZE) c.args.modules.now all)
