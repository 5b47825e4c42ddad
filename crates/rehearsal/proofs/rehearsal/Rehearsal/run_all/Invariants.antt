use Rattle.rehearsal.proofs.Words.{ℕ, List, ◌++◌, length, drop, map, Fields, LineFields, task_line, OutputState, HasRun}
use Rattle.session_script.specs.declared.script.Stage.{Stage}
use Rattle.rehearsal.proofs.rehearsal.Rehearsal.run_all.Given as goal

abbrev pub invariant-loop-line : goal.invariant-loop-line
invariant-loop-line g l = (stage : Stage) (ws : List ℕ) (script : Fields) (left : List LineFields) (first : OutputState)
    → HasRun l.fn.self ws script (map (task_line stage) l.fn.tasks.items ++ left) first (g.O.Output.state l.fn.out)
    → HasRun l.self ws script (map (task_line stage) (drop (length l.yielded) l.fn.tasks.items) ++ left) first (g.O.Output.state l.out)
