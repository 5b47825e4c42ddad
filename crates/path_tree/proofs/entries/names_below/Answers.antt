use Rattle.std.proofs.Common.{◌∙◌}
use Rattle.std.proofs.lemmas.Result.{IfOk-weaker, on_err_weaker}
use Rattle.path_tree.proofs.Listing.{names_below-cut, names_below-some}
use Rattle.path_tree.proofs.entries.names_below.Goals as goal

pub returns-clause-names : goal.returns-clause-names
returns-clause-names c = IfOk-weaker c.next_names.result _ _ (λ v h. h ∙ names_below-cut c.args.entries.now c.args.path.now c.args.place c.count_below.result c.beyond-behind.result.now c.requires.tree c.requires.place c.beyond-behind.ensures c.count_below.ensures.count) c.next_names.ensures.names

pub returns-clause-no_memory : goal.returns-clause-no_memory
returns-clause-no_memory c = on_err_weaker c.next_names.result (names_below-some c.args.entries.now c.args.path.now c.args.place c.count_below.result c.beyond-behind.result.now c.requires.tree c.requires.place c.beyond-behind.ensures c.count_below.ensures.count) c.next_names.ensures.no_memory
