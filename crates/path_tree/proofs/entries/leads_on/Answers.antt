use Rattle.std.proofs.Common.{sym, ap, ◌∙◌}
use Rattle.path_tree.specs.Inner.Places.{first_is_below}
use Rattle.path_tree.proofs.Changes.{leads-cut}
use Rattle.path_tree.proofs.entries.leads_on.Goals as goal

pub returns : goal.returns
returns c = c.first_is_below.ensures ∙ (ap (λ l. first_is_below l c.args.path.now) c.beyond.ensures ∙ sym (leads-cut c.args.entries.now c.args.path.now c.args.place c.requires.tree c.requires.place))
