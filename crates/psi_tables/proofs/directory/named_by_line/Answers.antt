use Rattle.std.proofs.Common.{Some, None, ap, ◌∙◌}
use Rattle.psi_tables.specs.Stands.{named_for}
use Rattle.psi_tables.proofs.Programs.{named_found}
use Rattle.psi_tables.proofs.directory.named_by_line.Goals as goal

pub returns-in-Some : goal.returns-in-Some
returns-in-Some c =
    c.named_for_program.ensures ∙ ap (named_for c.args.line.program) c.deref.ensures.value ∙ named_found c.args.followed.now c.args.line (Some c.in-Some.one.now) c.in-Some.ensures

pub returns-in-None : goal.returns-in-None
returns-in-None c = named_found c.args.followed.now c.args.line None c.in-None.ensures
