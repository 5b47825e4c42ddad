use Rattle.session_script.proofs.Imports.{◌≡◌, Some, length, all_fates, fates_onto, words_left}
use Rattle.session_script.proofs.words.fates.Given as goal

abbrev pub invariant-loop-word : goal.invariant-loop-word
invariant-loop-word l = all_fates (words_left l.fn.words) ≡ fates_onto (Some l.fates.items) (all_fates (words_left l.words))

abbrev pub decreases-loop-word : goal.decreases-loop-word
decreases-loop-word l = length (words_left l.words)
