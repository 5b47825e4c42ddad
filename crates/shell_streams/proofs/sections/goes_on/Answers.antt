use Rattle.std.proofs.Common.{refl, sym, ◌∙◌}
use Rattle.std.proofs.lemmas.Result.{on_err_weaker}
use Rattle.shell_streams.proofs.Holding.{none_held, goes_on_held}
use Rattle.shell_streams.proofs.sections.goes_on.Goals as goal

pub returns-then-not-is_empty-clause-more : goal.returns-then-not-is_empty-clause-more
returns-then-not-is_empty-clause-more g c = λ rest e.
    (λ _. goes_on_held c.args.unread.now _ rest (rw c.held.ensures at (sym c.is_empty.ensures ∙ c.if-not-is_empty.true)) e, λ _. refl)

pub returns-clause-none : goal.returns-clause-none
returns-clause-none g c =
    let none = none_held c.args.unread.now (rw c.held.ensures at (sym c.is_empty.ensures ∙ c.if-not-is_empty.false)) in
    on_err_weaker c.more.result (λ kept. kept ∙ none) c.more.ensures.kept
