use Rattle.std.proofs.Common.{◌≡◌, get_or, Some, arith, sym, ◌∙◌}
use Rattle.std.proofs.lemmas.Grind.{common_steps}
use Rattle.path_tree.proofs.Listing.{listed_none, listed_some, listed_end, some_name}
use Rattle.path_tree.specs.Paths.{next_name}
use Rattle.path_tree.proofs.There.{on_err}
use Rattle.path_tree.proofs.entries.next_names.Goals as goal
use Rattle.path_tree.proofs.entries.next_names.Goals.{in-Some+in_ok-list_name, in_default}

pub loop-entry-preserved : goal.loop-entry-preserved
loop-entry-preserved c = elim c.match-next_below.branch [
  | in-Some+in_ok-list_name w ↦ grind (arith, common_steps, listed_some c.args.path.now c.args.entries.now c.loop-entry.entry-index c.loop-entry-item.result c.loop-entry.names.items w.in-Some.name.now)
  | in_default w ↦ grind (arith, common_steps, listed_none c.args.path.now c.args.entries.now c.loop-entry.entry-index c.loop-entry-item.result c.loop-entry.names.items)
]

pub returns-clause-names : goal.returns-clause-names
returns-clause-names c = sym (c.loop-entry.invariant ∙ listed_end c.args.path.now c.args.entries.now c.loop-entry.entry-index c.loop-entry.names.items c.loop-entry-test.false)

pub returns-in_err-list_name-clause-no_memory : goal.returns-in_err-list_name-clause-no_memory
returns-in_err-list_name-clause-no_memory c =
    let is : next_name c.args.path.now (get_or c.args.entries.now c.loop-entry.entry-index c.loop-entry-item.result).0 ≡ Some c.in-Some.name.now = grind (arith, common_steps) in
    on_err c.from_residual.result (some_name c.args.path.now c.args.entries.now c.loop-entry.entry-index c.loop-entry-item.result c.in-Some.name.now (grind (arith, common_steps)) is)
