-- A candidate that changes nothing of what a receiver holds changes no answer, so no shot is needed after it.
use Rattle.std.proofs.Common.{suc, ◌≡◌, List, [], ◌∷◌, ◌++◌, length, map, Option, refl, sym, ap, ◌∙◌, append-nil}
use Rattle.path_tree.specs.Paths.{Bytes, PathNames}
use Rattle.path_resolver.specs.Resolving.{Held, answer_of}
use Rattle.path_resolver.specs.declared.answer.Answer.{Answer}
use Rattle.tuner_core.specs.Answers.{LooksBack}
use Rattle.tuner_core.specs.Heard.{as_heard}
use Rattle.tuner_core.specs.Turns.{answer_after, held_after}
use Rattle.watch_desk.specs.declared.notice.Notice.{Notice}
use Rattle.watch_desk.specs.Notices.{notices}
use Rattle.watch_desk.specs.Parts.{HeldStays}
use Rattle.watch_desk.specs.Watching.{answer_on, last_shot}
use Rattle.watch_desk.specs.Telling.{AreUpToDate, ShotsAreNeededAtChanges, told_at, told_in}
use Rattle.watch_desk.proofs.Lists.{last_more}
use Rattle.watch_desk.proofs.Due.{nothing_told}
use Rattle.watch_desk.proofs.Over.{told_more}
use Rattle.watch_desk.proofs.Staying.{still_held, part_stays}

skipped : (paths prefixes : List PathNames) (candidates : List Bytes) (c : Bytes) → HeldStays candidates c → told_in paths prefixes (candidates ++ c ∷ []) ≡ told_in paths prefixes candidates
skipped paths prefixes candidates c stays =
    let none : notices prefixes paths (answer_after candidates) (answer_after (candidates ++ c ∷ [])) ≡ [] =
    nothing_told prefixes paths (answer_after candidates) (answer_after (candidates ++ c ∷ [])) (λ p. ap (λ (h : Held). answer_of h p) (sym stays)) in
    told_more paths prefixes candidates c
    ∙ ap (λ (ns : List Notice). told_in paths prefixes candidates ++ told_at (suc (length candidates)) ns) none
    ∙ append-nil (told_in paths prefixes candidates)

shown : (paths prefixes : List PathNames) (shots : List Held) (candidates : List Bytes) (c : Bytes) → AreUpToDate shots candidates
    → told_in paths prefixes (candidates ++ c ∷ [])
    ≡ told_in paths prefixes candidates ++ told_at (suc (length candidates)) (notices prefixes paths (answer_on (last_shot shots)) (answer_of (held_after (map as_heard (candidates ++ c ∷ [])))))
shown paths prefixes shots candidates c up_to_date =
    let before : answer_after candidates ≡ answer_on (last_shot shots) = λ i p. sym (up_to_date p) i in
    told_more paths prefixes candidates c
    ∙ ap (λ (f : PathNames → Answer). told_in paths prefixes candidates ++ told_at (suc (length candidates)) (notices prefixes paths f (answer_after (candidates ++ c ∷ [])))) before

pub needed_at_changes : LooksBack → ShotsAreNeededAtChanges
needed_at_changes laws = record {
  begun = λ p. refl;
  shown = shown;
  up_to_date = λ shots candidates p. ap (λ (o : Option Held). answer_on o p) (last_more shots (held_after (map as_heard candidates)));
  skipped = skipped;
  still = λ shots candidates c stays up_to_date p. up_to_date p ∙ ap (λ (h : Held). answer_of h p) (sym stays);
  nothing = still_held laws;
  part = part_stays laws;
}
