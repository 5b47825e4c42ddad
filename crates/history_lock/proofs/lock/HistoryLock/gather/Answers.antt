use Rattle.std.proofs.Common.{◌≡◌, ap, arith, subst, rules, [], length}
use Rattle.history_lock.proofs.Steps.{join_keeps}
use Rattle.history_lock.proofs.Dealing.{HasPart, part_first, part_more, part_last, each_last}
use Rattle.history_lock.specs.History.{Each}
use Rattle.history_lock.specs.Passes.{IsPassOf}
use Rattle.history_lock.proofs.lock.HistoryLock.gather.Goals as goal

pub unreachable-requires : goal.unreachable-requires
unreachable-requires g c = let e : c.args.passes.items ≡ [] = search rules in let l = ap length e in let n = c.requires.1 in let s = c.args.self.now.sized.2 in omega arith

pub join_seat-requires : goal.join_seat-requires
join_seat-requires g c =
    let i = c.loop-other.invariant in
    let p = each_last (IsPassOf c.args.self.now) _ _ (subst (Each (IsPassOf c.args.self.now)) c.in-Some-pop.ensures.items i.0) in
    let own = p.1 in
    let words = c.args.self.now.sized.0 in
    (i.1, own.0, own.1, omega arith, join_keeps _ _ _ _ _ _ _ i.3 own.3)

pub loop-other-init : goal.loop-other-init
loop-other-init g c = part_first c.args.self.now _ _ c.in-Some.field-0 c.in-Some.ensures.items c.requires.0

pub loop-other-preserved : goal.loop-other-preserved
loop-other-preserved g c = let j = c.join_seat.ensures in part_more c.args.self.now _ _ _ c.in-Some-pop.field-0 c.loop-other.seat c.join_seat.new.seat c.in-Some-pop.ensures.items j.0 j.2 c.loop-other.invariant

pub returns : goal.returns
returns g c = part_last c.args.self.now _ c.loop-other.seat (subst (λ ps. HasPart c.args.self.now ps c.args.passes.items c.loop-other.seat) (let e : c.loop-other.passes.items ≡ [] = search rules in e) c.loop-other.invariant)
