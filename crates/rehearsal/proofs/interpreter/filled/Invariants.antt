use Rattle.rehearsal.proofs.Words.{◌≡◌, filled_bytes}
use Rattle.rehearsal.proofs.interpreter.filled.Given as goal

abbrev pub invariant-loop-place : goal.invariant-loop-place
invariant-loop-place l = l.bytes.items ≡ filled_bytes l.place l.from
