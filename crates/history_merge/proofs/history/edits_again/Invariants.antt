use Rattle.history_merge.proofs.Words.{◌≡◌, take}
use Rattle.history_merge.proofs.history.edits_again.Given as goal

abbrev pub invariant-loop-edit : goal.invariant-loop-edit
invariant-loop-edit l = l.list.items ≡ take l.edit-index l.given
