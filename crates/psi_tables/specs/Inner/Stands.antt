-- The answer that what is kept gives.
use Rattle.std.specs.Prelude.{ℕ, List, Option, option_and_then, ◌==◌}
use Rattle.std.specs.List.{find}
use Rattle.psi_tables.specs.declared.tables.PatLine.{PatLine}
use Rattle.psi_tables.specs.declared.finder.Find.{Find}
use Rattle.psi_tables.specs.Finding.{found_with}
use Rattle.psi_tables.specs.Stands.{FollowedState, DirectoryState, named_for, section_kept}

-- the stream that a line's map table names
abbrev pub named_by : List FollowedState → PatLine → Option ℕ
named_by followed l = option_and_then (λ f. named_for l.program f.programs) (find (λ f. f.pid == l.pid) followed)

-- the answer that what is kept gives
abbrev pub found_by : DirectoryState → Find
found_by d = found_with d.newest (section_kept d.sections) (named_by d.followed)
