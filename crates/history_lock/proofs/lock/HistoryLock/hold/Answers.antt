use Rattle.std.proofs.Common.{ap, ◌∙◌, sym, Some, ◌∷◌}
use Rattle.atomic_table.specs.Table.{rest}
use Rattle.history_lock.proofs.lock.HistoryLock.hold.Goals as goal

pub exchange-found-requires : goal.exchange-found-requires
exchange-found-requires g c =
    let t = c.take.ensures.taken in
    (c.take.ensures.same.0 ∙ c.requires.0, (Some t.0, t.1 ∙ λ i. (0, Some t.0) ∷ sym (ap rest t.1) i))
