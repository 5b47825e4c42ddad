use Rattle.session_script.proofs.Imports.{◌≡◌, ◌++◌, map, view_line, finale_line}
use Rattle.session_script.proofs.script.add_finales.Given as goal

abbrev pub invariant-loop-last : goal.invariant-loop-last
invariant-loop-last l = map view_line l.lines.items ≡ map view_line l.fn.lines.items ++ map finale_line l.yielded
