use Rattle.std.proofs.Common.{Some, None}
use Rattle.psi_tables.proofs.Programs.{names_found}
use Rattle.psi_tables.proofs.followed.named_in.Goals as goal

pub returns-in-Some : goal.returns-in-Some
returns-in-Some c = names_found c.args.carousel c.args.pmt.now c.deref.result.now (Some c.in-Some.line.now) c.deref.ensures.value c.in-Some.ensures

pub returns-in-None : goal.returns-in-None
returns-in-None c = names_found c.args.carousel c.args.pmt.now c.deref.result.now None c.deref.ensures.value c.in-None.ensures
