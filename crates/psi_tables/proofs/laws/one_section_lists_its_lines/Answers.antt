use Rattle.psi_tables.proofs.Usual.{one_section}
use Rattle.psi_tables.proofs.laws.one_section_lists_its_lines.Goals as goal

pub returns : goal.returns
returns c = one_section
