use Rattle.std.proofs.Common.{ℕ, List, [], ◌∷◌, ◌++◌, ap, ◌∙◌}
use Rattle.std.specs.Fmt.{decimal}
use Rattle.std.proofs.lemmas.Result.{IfOk-weaker}
use Rattle.folder_extract.proofs.Lines.{entry_parts}
use Rattle.folder_extract.proofs.telling.entry_text.Goals as goal

pub returns : goal.returns
returns c = IfOk-weaker c.format.result _ _
    (λ text e. e ∙ entry_parts c.args.kind.now c.as_str-place.result.now (decimal c.args.number)
    ∙ ap (λ (t : List ℕ). ((c.args.kind.now ++ 32 ∷ t) ++ 32 ∷ decimal c.args.number) ++ 10 ∷ []) (c.as_str-place.ensures.value ∙ c.in_ok-place.ensures.text)) c.format.ensures.ok
