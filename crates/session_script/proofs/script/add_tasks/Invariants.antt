use Rattle.session_script.proofs.Imports.{◌≡◌, ◌++◌, map, view_line, task_line}
use Rattle.session_script.proofs.script.add_tasks.Given as goal

abbrev pub invariant-loop-line : goal.invariant-loop-line
invariant-loop-line l = map view_line l.lines.items ≡ map view_line l.fn.lines.items ++ map (task_line l.fn.stage) l.yielded
