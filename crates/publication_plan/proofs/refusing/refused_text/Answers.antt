use Rattle.std.proofs.Common.{◌++◌, ◌∙◌, ap}
use Rattle.std.specs.Prelude.{codes}
use Rattle.std.specs.String.{string_bytes}
use Rattle.shell_words.specs.Texts.{line}
use Rattle.publication_plan.specs.Telling.{number_text}
use Rattle.publication_plan.proofs.Telltale.{ok_as}
use Rattle.publication_plan.proofs.refusing.refused_text.Goals as goal

pub returns : goal.returns
returns c =
    ok_as string_bytes _ _ c.joined.result
    (ap (λ s. line (codes "refused " ++ c.args.cause.now ++ s ++ c.deref-2.result.now)) (c.deref.ensures ∙ c.in_ok-size.ensures)
    ∙ ap (λ l. line (codes "refused " ++ c.args.cause.now ++ number_text c.args.size ++ l)) (c.deref-2.ensures ∙ c.in_ok-limit.ensures)) c.joined.ensures
