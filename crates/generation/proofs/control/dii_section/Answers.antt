use Rattle.std.proofs.Common.{◌≡◌, ap, length, map, arith}
use Rattle.generation.proofs.Words.{dii_lines, view_listed, length-map}
use Rattle.generation.proofs.Grouping.{few_of_group}
use Rattle.generation.proofs.Writing.{plain_lines}
use Rattle.generation.proofs.control.dii_section.Goals as goal

pub dii_payload-requires-clause-plain : goal.dii_payload-requires-clause-plain
dii_payload-requires-clause-plain c = rw c.in_ok-lines.ensures (plain_lines c.args.counts.now (map view_listed c.group_modules.result.now))

pub dii_payload-requires-clause-few : goal.dii_payload-requires-clause-few
dii_payload-requires-clause-few c =
    let many : length (dii_lines c.args.counts.now (map view_listed c.group_modules.result.now)) ≡ length (map view_listed c.group_modules.result.now) = length-map _ _ in
    omega (arith, few_of_group (map view_listed c.args.modules.now) c.args.group c.requires.rising c.requires.group.0, ap length c.in_ok-lines.ensures, many, ap length c.group_modules.ensures.group)

pub returns-clause-spells : goal.returns-clause-spells
returns-clause-spells c =
    rw (c.in_ok-payload.ensures.spells, c.in_ok-lines.ensures, c.group_modules.ensures.group, c.dii-transaction.ensures.transaction) at c.control.ensures.spells
