use Rattle.history_merge.proofs.Words.{◌++◌, map, flat_map, known_view, view_waiting, opened_at}
use Rattle.history_merge.proofs.Turns.{IsTelling}
use Rattle.history_merge.proofs.history.tell_all.Given as goal

abbrev pub invariant-loop-reader : goal.invariant-loop-reader
invariant-loop-reader l = IsTelling l.draws l.reader-index (map view_waiting l.waiting) (map view_waiting l.fn.waiting) (map known_view l.told.items)
    (map known_view l.fn.told.items ++ flat_map (opened_at l.draws) (map view_waiting l.fn.waiting))
