use Rattle.std.proofs.Common.{◌≡◌, ℕ, ◌-◌, [], length, sym, ap, ◌∙◌, arith, subst, length-append}
use Rattle.history_lock.specs.Inner.History.{newcomer}
use Rattle.history_lock.specs.Passes.{opening_of, AreFresh}
use Rattle.history_lock.proofs.Steps.{split_keeps}
use Rattle.history_lock.proofs.Dealing.{one_dealt, last_dealt, kept_newcomer}
use Rattle.history_lock.proofs.lock.HistoryLock.deal.Goals as goal

pub split_seat-other-requires : goal.split_seat-other-requires
split_seat-other-requires g c =
    let i = c.loop-number.invariant in
    let below = c.loop-number-test.true in
    let words = c.args.self.now.sized.0 in
    (i.0, omega arith, split_keeps _ _ _ _ _ (let e = ap (λ m. m.0.parts) i.1 in omega arith))

pub loop-number-preserved : goal.loop-number-preserved
loop-number-preserved g c =
    let i = c.loop-number.invariant in
    let s = c.split_seat-other.ensures in
    let p = c.push_reserved.ensures in
    let cap = p.capacity in
    let below = c.loop-number-test.true in
    let more = i.3 in (
      s.0 ∙ i.0,
      s.2 ∙ kept_newcomer (c.args.seats - c.loop-number.number) _ c.loop-number.seat.me i.1 ∙ ap (λ (n : ℕ). (newcomer n (opening_of g.V.Chronicled.list c.args.self.now), [])) (omega arith),
      (let l = ap length p.items ∙ length-append c.loop-number.passes.items _ in let k = i.2 in omega arith),
      omega arith,
      subst (AreFresh c.args.self.now (opening_of g.V.Chronicled.list c.args.self.now) 0) (sym p.items)
          (one_dealt c.args.self.now _ (c.args.seats - c.loop-number.number) c.loop-number.number c.loop-number.passes.items c.split_seat-other.result c.loop-number.seat.me i.1 (s.3 ∙ i.0) s.4 i.2 i.4),
    )

pub returns-clause-fresh : goal.returns-clause-fresh
returns-clause-fresh g c =
    let i = c.loop-number.invariant in
    let p = c.push_reserved-2.ensures in
    let above = c.loop-number-test.false in
    let end = c.loop-number.auto.number-end in
    let some = c.requires.some in
    let n : c.loop-number.number ≡ c.args.seats - 1 = omega arith in
    subst (AreFresh c.args.self.now (opening_of g.V.Chronicled.list c.args.self.now) 0) (sym p.items)
    (last_dealt c.args.self.now _ (c.args.seats - c.loop-number.number) (c.args.seats - 1) c.loop-number.passes.items c.loop-number.seat (omega arith) i.0 i.1 (i.2 ∙ n) i.4)
