use Rattle.session_script.proofs.Imports.{◌≡◌, ◌≤◌, length, option_map, all_fates, words_left}
use Rattle.session_script.proofs.Lists.{counted}
use Rattle.session_script.proofs.words.fate_count.Given as goal

abbrev pub invariant-loop-word : goal.invariant-loop-word
invariant-loop-word l = record {
  bound : l.count ≤ 65536;
  so_far : option_map length (all_fates (words_left l.fn.words)) ≡ counted l.count (all_fates (words_left l.words));
}

abbrev pub decreases-loop-word : goal.decreases-loop-word
decreases-loop-word l = length (words_left l.words)
