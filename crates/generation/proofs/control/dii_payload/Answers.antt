use Rattle.std.proofs.Common.{ap, length, arith}
use Rattle.carousel_profile.specs.declared.TheConstants.{BLOCK_SIZE}
use Rattle.generation.proofs.Writing.{dii_short}
use Rattle.generation.proofs.control.dii_payload.Goals as goal

pub returns-in-Ok-clause-short : goal.returns-in-Ok-clause-short
returns-in-Ok-clause-short c =
    let short = dii_short (record { download = c.args.carousel; block_size = BLOCK_SIZE; transaction = c.args.transaction.0; modules = c.args.modules.items }) c.requires.few in
    omega (arith, ap length c.in-Ok.ensures.spells, short)
