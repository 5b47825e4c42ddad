use Rattle.std.proofs.Common.{rules, ap, arith, ◌∙◌}
use Rattle.history_lock.proofs.Steps.{take_keeps}
use Rattle.history_lock.proofs.lock.HistoryLock.take.Goals as goal

pub compare_exchange-requires : goal.compare_exchange-requires
compare_exchange-requires g c =
    let i = c.loop.invariant in
    let words = c.args.self.now.sized.0 in
    let parts = c.requires.2 in (
      search rules,
      omega arith,
      take_keeps _ _ _ _ _ _ (let e = ap (λ m. m.0.parts) i.2 ∙ parts in omega arith),
    )
