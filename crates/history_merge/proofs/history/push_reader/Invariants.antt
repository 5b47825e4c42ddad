use Rattle.history_merge.proofs.Words.{◌≡◌, ◌++◌, map, drop, view_waiting, waited_by}
use Rattle.history_merge.proofs.history.push_reader.Given as goal

abbrev pub invariant-loop-pass : goal.invariant-loop-pass
invariant-loop-pass l = map view_waiting l.waiting.items ++ waited_by (drop l.pass-index l.passes) l.number ≡ map view_waiting l.fn.waiting.items ++ waited_by l.passes l.number
