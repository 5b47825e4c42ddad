use Rattle.std.proofs.Common.{is_some, ap, sym, ◌∙◌}
use Rattle.path_tree.specs.Inner.Places.{first_at}
use Rattle.path_tree.proofs.Changes.{rest_at, insert-cut, replace-cut, mapped_some}
use Rattle.path_tree.proofs.tree.enter.Goals as goal

pub returns-then-is_some : goal.returns-then-is_some
returns-then-is_some c = replace-cut c.args.entries.now.items c.args.path c.args.entry c.args.place c.requires.place
    (ap (λ t. is_some (first_at (rest_at t c.args.place) c.args.path)) (sym c.deref.ensures.value)
    ∙ (ap is_some (sym c.first_at.ensures) ∙ (mapped_some _ c.first_at.result ∙ (sym c.is_some.ensures ∙ c.if-is_some.true))))

pub returns-in_ok-insert : goal.returns-in_ok-insert
returns-in_ok-insert c = c.in_ok-insert.ensures.items ∙ insert-cut c.args.entries.now.items c.args.path c.args.entry c.args.place c.requires.place
    (ap (λ t. is_some (first_at (rest_at t c.args.place) c.args.path)) (sym c.deref.ensures.value)
    ∙ (ap is_some (sym c.first_at.ensures) ∙ (mapped_some _ c.first_at.result ∙ (sym c.is_some.ensures ∙ c.if-is_some.false))))
