use Rattle.std.proofs.Common.{rules, Ok, Err, ◌∙◌}
use Rattle.shell_commands.proofs.Airing.{stays, were_over}
use Rattle.shell_commands.proofs.air.air.Goals as goal

pub returns-in-Ok-clause-stays : goal.returns-in-Ok-clause-stays
returns-in-Ok-clause-stays g c =
    stays (record { pid = c.args.pid; carousel = c.args.carousel; weights = c.args.weigh.now.weights }) c.args.folder.now c.args.cycles _ _ _ _ _ c.requires.pending
    (λ rs h. let name = h.0 ∙ c.new-trees.ensures.same in
    were_over c.args.folder.now g.F.Folders.tree g.F.Folders.faults c.new-trees.result.folders.now c.keep_on_air.new.trees.folders.now _ _ c.new-trees.result.folder.now rs c.new-trees.ensures.folder c.new-trees.ensures.now (search (rules, name)) h.2)
    c.judged_as_first.ensures c.unchanged_is_published.ensures (Ok c.in-Ok.field-0) c.in-Ok.ensures

pub returns-in-Err-clause-stays : goal.returns-in-Err-clause-stays
returns-in-Err-clause-stays g c =
    rw c.status_of.ensures
    (stays (record { pid = c.args.pid; carousel = c.args.carousel; weights = c.args.weigh.now.weights }) c.args.folder.now c.args.cycles _ _ _ _ _ c.requires.pending
    (λ rs h. let name = h.0 ∙ c.new-trees.ensures.same in
    were_over c.args.folder.now g.F.Folders.tree g.F.Folders.faults c.new-trees.result.folders.now c.keep_on_air.new.trees.folders.now _ _ c.new-trees.result.folder.now rs c.new-trees.ensures.folder c.new-trees.ensures.now (search (rules, name)) h.2)
    c.judged_as_first.ensures c.unchanged_is_published.ensures (Err c.in-Err.fault) c.in-Err.ensures)
