use Rattle.std.proofs.Common.{ap, sym}
use Rattle.std.specs.Option.{option_copied}
use Rattle.section_stream.proofs.Handing.{whole_part}
use Rattle.section_stream.proofs.payload.closes.Goals as goal

pub returns-in-Whole-clause-whole : goal.returns-in-Whole-clause-whole
returns-in-Whole-clause-whole c = whole_part _ c.in-Some.opened.now c.args.part.now c.in-Whole.n (ap option_copied c.in-Some.is) (sym c.in-Whole.ensures)
