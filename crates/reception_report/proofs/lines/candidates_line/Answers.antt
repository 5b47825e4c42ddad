use Rattle.std.proofs.Common.{rules, refl, append_assoc, ap, ◌∙◌, ◌≡◌, ◌++◌}
use Rattle.std.specs.Prelude.{codes}
use Rattle.std.specs.Fmt.{decimal}
use Rattle.std.specs.String.{string_bytes}
use Rattle.reception_report.proofs.Parts.{text_next}
use Rattle.reception_report.proofs.lines.candidates_line.Goals as goal

pub returns : goal.returns
returns c = λ cs mark counts.
    let text : string_bytes c.in_ok-text.text ≡ codes "candidates " ++ decimal c.args.candidates = search (rules, append_assoc) in
    text_next _ _ _ _ _ c.in_ok-push_str.ensures.bytes refl
    (text_next _ _ _ _ _ (c.in_ok-push_counts.ensures cs counts) refl (text ∙ ap (λ n. codes "candidates " ++ decimal n) mark))
