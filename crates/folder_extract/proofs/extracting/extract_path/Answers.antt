use Rattle.std.proofs.Common.{refl, sym, ap, ◌∙◌}
use Rattle.std.specs.String.{string_bytes}
use Rattle.std.proofs.lemmas.Result.{err_from_is_err_and, IfOk-weaker}
use Rattle.path_resolver.specs.Resolving.{answer_of}
use Rattle.path_resolver.specs.Shots.{held_of}
use Rattle.folder_store.specs.Walk.{text_below}
use Rattle.shell_words.specs.Texts.{is_found}
use Rattle.folder_extract.specs.Naming.{can_stand}
use Rattle.folder_extract.proofs.Places.{named}
use Rattle.folder_extract.proofs.Choosing.{none_breaks, placed_takes}
use Rattle.folder_extract.proofs.extracting.extract_path.Goals as goal

pub returns-in_err-text-clause-takes : goal.returns-in_err-text-clause-takes
returns-in_err-text-clause-takes g c =
    let p = err_from_is_err_and c.from_residual.result c.from_residual.ensures.1 in
    rw (p.1, p.2) (none_breaks _ _ _ _ _ refl)

pub returns-in_err-answer-clause-takes : goal.returns-in_err-answer-clause-takes
returns-in_err-answer-clause-takes g c =
    let p = err_from_is_err_and c.from_residual-in_err-answer.result c.from_residual-in_err-answer.ensures.1 in
    rw (p.1, p.2) (none_breaks _ _ _ _ _ refl)

pub returns-clause-takes : goal.returns-clause-takes
returns-clause-takes g c =
    let n = named (can_stand c.args.path.now) (text_below c.args.folder.now c.args.path.now) (string_bytes c.in-Some.text) (rw c.in-Some.is at c.in_ok-text.ensures) in
    placed_takes c.args.folder.now (answer_of (held_of c.args.shot.now)) c.args.path.now c.as_str.result.now c.in_ok-answer.answer c.extract_answer.result _ _ _ _ _
    n.0 (c.as_str.ensures.value ∙ n.1) c.in_ok-answer.ensures.answer c.extract_answer.ensures.takes

pub returns-clause-fails : goal.returns-clause-fails
returns-clause-fails g c =
    let n = named (can_stand c.args.path.now) (text_below c.args.folder.now c.args.path.now) (string_bytes c.in-Some.text) (rw c.in-Some.is at c.in_ok-text.ensures) in
    IfOk-weaker c.extract_answer.result _ _ (λ end f failed. (n.0, ap is_found (sym c.in_ok-answer.ensures.answer) ∙ f failed)) c.extract_answer.ensures.fails
