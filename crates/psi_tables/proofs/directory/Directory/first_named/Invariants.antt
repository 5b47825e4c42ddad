use Rattle.std.proofs.Common.{◌≡◌, None}
use Rattle.psi_tables.specs.Finding as finding
use Rattle.psi_tables.specs.Stands.{view_directory, section_kept}
use Rattle.psi_tables.specs.Inner.Stands.{named_by}
use Rattle.psi_tables.proofs.directory.Directory.first_named.Given as goal

abbrev pub invariant-loop-number : goal.invariant-loop-number
invariant-loop-number l = finding.first_named (named_by (view_directory l.self).followed) (finding.lines_of_sections (section_kept (view_directory l.self).sections l.version) l.number) ≡ None
