use Rattle.std.proofs.Common.{◌≡◌, map, drop}
use Rattle.psi_tables.specs.Finding.{first_named}
use Rattle.psi_tables.specs.Stands.{view_followed}
use Rattle.psi_tables.specs.Inner.Stands.{named_by}
use Rattle.psi_tables.proofs.directory.named_by_lines.Given as goal

abbrev pub invariant-loop-line : goal.invariant-loop-line
invariant-loop-line l = first_named (named_by (map view_followed l.followed)) (drop l.line-index l.lines) ≡ first_named (named_by (map view_followed l.followed)) l.lines
