use Rattle.std.proofs.Common.{◌≡◌, ◌-◌, min, length, arith}
use Rattle.ddb_block.specs.Blocks as blocks
use Rattle.carousel_profile.specs.declared.TheConstants.{BLOCK_SIZE}
use Rattle.generation.proofs.control.block_section.Goals as goal

pub returns-clause-spells : goal.returns-clause-spells
returns-clause-spells c =
    let last : c.min.result ≡ min 255 (blocks.block_count_of (length c.args.bytes.now) BLOCK_SIZE - 1) = omega (arith, c.min.ensures, c.saturating_sub.ensures, c.block_count-blocks.ensures.count) in
    rw (← c.block_front.ensures.spells, c.block_bytes.ensures.block, last) at c.section.ensures.spells
