use Rattle.session_script.proofs.Imports.{◌∙◌, ap, arith, Some, all_fates, fates_onto, words_left}
use Rattle.session_script.proofs.Lists.{filled}
use Rattle.session_script.proofs.words.fates.Goals as goal

pub loop-word-preserved : goal.loop-word-preserved
loop-word-preserved c = rw c.in_ok-resize.ensures.items
    (filled (all_fates (words_left c.args.words)) c.loop-word.fates.items c.loop-word.fates.len _ c.in-Some-fate_run.packets c.in-Some-fate_run.fate c.in-Some-next.word.now (words_left c.next.new.self) c.in-Some-fate_run.ensures.fates (omega arith) (omega arith)
    (c.loop-word.invariant ∙ ap (λ words. fates_onto (Some c.loop-word.fates.items) (all_fates words)) c.in-Some-next.ensures))
