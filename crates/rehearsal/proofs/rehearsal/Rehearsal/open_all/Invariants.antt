use Rattle.rehearsal.proofs.Words.{ℕ, List, ◌++◌, length, drop, map, Fields, LineFields, finale_line, OutputState, HasRun}
use Rattle.rehearsal.proofs.rehearsal.Rehearsal.open_all.Given as goal

abbrev pub invariant-loop-last : goal.invariant-loop-last
invariant-loop-last g l = (ws : List ℕ) (script : Fields) (left : List LineFields) (first : OutputState)
    → HasRun l.fn.self ws script (map finale_line l.fn.finales.items ++ left) first (g.O.Output.state l.fn.out)
    → HasRun l.self ws script (map finale_line (drop (length l.yielded) l.fn.finales.items) ++ left) first (g.O.Output.state l.out)
