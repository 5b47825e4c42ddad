use Rattle.std.proofs.Common.{refl, ap, ◌∙◌}
use Rattle.reception_report.specs.Telling.{with_home}
use Rattle.reception_report.proofs.Parts.{text_next}
use Rattle.reception_report.proofs.lines.path_text.Goals as goal

pub returns : goal.returns
returns c = text_next _ _ _ _ _ c.in_ok-push_str-4.ensures.bytes refl
    (c.in_ok-push_home.ensures ∙ ap (λ t. with_home t c.args.home) (text_next _ _ _ _ _ c.in_ok-push_str-3.ensures.bytes refl
    (text_next _ _ _ _ _ c.in_ok-push_str-2.ensures.bytes refl (text_next _ _ _ _ _ c.in_ok-push_str.ensures.bytes refl c.in_ok-text.ensures.ok))))
