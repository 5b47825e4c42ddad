use Rattle.history_merge.proofs.Words.{length, map, known_view, view_waiting}
use Rattle.history_merge.proofs.Turns.{IsTold}
use Rattle.history_merge.proofs.history.Waiting.tell.Given as goal

abbrev pub invariant-loop-self : goal.invariant-loop-self
invariant-loop-self l = IsTold l.draws (view_waiting l.fn.self) (view_waiting l.self) (map known_view l.fn.told.items) (map known_view l.told.items)

abbrev pub decreases-loop-self : goal.decreases-loop-self
decreases-loop-self l = length l.self.opens.now
