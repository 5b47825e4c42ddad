use Rattle.std.proofs.Common.{◌∙◌, ap}
use Rattle.std.specs.Prelude.{codes}
use Rattle.std.specs.String.{string_bytes}
use Rattle.shell_words.specs.Texts.{with_number}
use Rattle.publication_plan.proofs.Between.{same_pairs}
use Rattle.publication_plan.proofs.Telltale.{ok_as}
use Rattle.publication_plan.proofs.lines.module_text.Goals as goal

pub returns : goal.returns
returns g c =
    ok_as string_bytes _ _ c.four_fields.result
    (same_pairs _ _ _ _ _ _ _ _ _ _ (c.deref.ensures ∙ c.in_ok-front.ensures) (c.deref-2.ensures ∙ c.in_ok-back.ensures)
    (ap (with_number (codes "module")) c.from.ensures) (ap (with_number (codes "size")) c.module_size-size.ensures)
    (ap (with_number (codes "blocks")) c.from-2.ensures) (ap (with_number (codes "weight")) (c.from-3.ensures ∙ c.of.ensures))) c.four_fields.ensures
