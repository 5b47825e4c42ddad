use Rattle.std.proofs.Common.{◌≤◌, ap, arith, length, map}
use Rattle.generation.proofs.Words.{All-map, MOST_TOTAL_SIZE, view_listed}
use Rattle.generation.proofs.Writing.{small_bytes}
use Rattle.generation.proofs.control.block_of_module.Goals as goal

pub block_section-requires : goal.block_section-requires
block_section-requires c = omega (arith, ap length c.bytes_of.ensures, small_bytes (map view_listed c.args.modules.now) c.args.id (All-map (λ m. length m.1 ≤ MOST_TOTAL_SIZE) view_listed c.args.modules.now c.requires.sizes))

pub returns-clause-spells : goal.returns-clause-spells
returns-clause-spells c = rw (c.count_in.ensures, c.from.ensures, c.bytes_of.ensures) at c.block_section.ensures.spells
