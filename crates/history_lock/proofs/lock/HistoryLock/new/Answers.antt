use Rattle.std.proofs.Common.{◌≡◌, sym, ap, ◌∙◌, Some, List, [], ◌∷◌, ◌++◌, subst}
use Rattle.std.proofs.Common.{Option}
use Rattle.atomic_table.specs.Table.{opening}
use Rattle.history_lock.specs.Inner.History.{newcomer, Chronicle}
use Rattle.history_lock.proofs.Steps.{start}
use Rattle.history_lock.proofs.lock.HistoryLock.new.Goals as goal

pub new-requires : goal.new-requires
new-requires g c =
    let list = g.V.Chronicled.list in
    let e : c.push_reserved.new.self.items ≡ Some c.args.value ∷ [] = c.push_reserved.ensures.items ∙ ap (λ l. l ++ Some c.args.value ∷ []) c.in-Ok-with_capacity.ensures.items in
    subst (λ (xs : List (Option g.row.V.Denot)). Chronicle list c.from.result (list c.of.result.value) (opening (0 ∷ []) xs (newcomer c.from.result (list c.of.result.value)))) (sym e)
    (start list c.from.result (list c.of.result.value) c.args.value (ap list (sym c.of.ensures)))
