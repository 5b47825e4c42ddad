use Rattle.history_merge.proofs.Words.{map, known_view, fates_view, view_waiting}
use Rattle.history_merge.proofs.Telling.{IsMerging}
use Rattle.history_merge.proofs.history.merge.Given as goal

abbrev pub invariant-loop-entry : goal.invariant-loop-entry
invariant-loop-entry l = IsMerging l.entries (map fates_view l.fates) l.editors l.passes l.entry-index l.draws (map view_waiting l.waiting) (map known_view l.told.items)
