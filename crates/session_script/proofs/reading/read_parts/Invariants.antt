use Rattle.session_script.proofs.Imports.{length}
use Rattle.session_script.proofs.Walking.{Walked}
use Rattle.session_script.proofs.reading.read_parts.Given as goal

abbrev pub invariant-loop-line : goal.invariant-loop-line
invariant-loop-line l = Walked l.text (length l.yielded) l.reading
