use Rattle.session.proofs.Words.{◌≡◌, ℕ, [], length, refl, ap, ◌∙◌, arith, arc_value, Vec, Global, most_by, shower_board, shown_by, Setting, draws_of, IsBegun}
use Rattle.session.proofs.Begun.{draws_counted, first_shown, new_viewers}
use Rattle.session.proofs.Planning.{if_ok_map}
use Rattle.session.proofs.whole.play.Given.{Over}
use Rattle.session.proofs.whole.play.Goals.{In_ok-shower}
use Rattle.session.proofs.whole.play.Goals as goal

pub overflow_cast-len : goal.overflow_cast-len
overflow_cast-len g c =
    let most = c.requires.ranges.readers.most in let same = ap (λ (v : Vec ℕ Global). length v.items) c.in_ok-plan.ensures.readers in let len = c.len.ensures in let ok = c.in_ok-plan.plan.readers.ok.0 in omega (arith, most, same, len, ok)

pub board-requires-clause-readers : goal.board-requires-clause-readers
board-requires-clause-readers g c =
    let most = c.requires.ranges.readers.most in let same = ap (λ (v : Vec ℕ Global). length v.items) c.in_ok-plan.ensures.readers in let len = c.len.ensures in let ok = c.in_ok-plan.plan.readers.ok.0 in omega (arith, most, same, len, ok)

abbrev setting : (g : Over) → In_ok-shower g → Setting
setting g c = record { parts = c.args.parts; board = shower_board c.in_ok-shower.shower; ranges = c.requires.ranges; listed = c.requires.listed }

most : (g : Over) (c : In_ok-shower g) → most_by c.in_ok-shower.shower ≡ draws_of (setting g c)
most g c = c.in_ok-shower.ensures.most ∙ c.in_ok-most.ensures.count ∙ draws_counted (setting g c) c.in_ok-plan.plan c.in_ok-plan.ensures

begun : (g : Over) (c : In_ok-shower g) → IsBegun (setting g c) (shown_by c.in_ok-shower.shower) (record { plan = c.in_ok-plan.plan; downlink = c.in_ok-downlink.downlink; viewers = c.in_ok-shower.viewers })
begun g c = record {
  planned = c.in_ok-plan.ensures;
  shown = first_shown c.in_ok-downlink.downlink (arc_value c.in_ok-first.first) (shown_by c.in_ok-shower.shower) c.in_ok-downlink.ensures c.in_ok-shower.ensures.list
      (c.in_ok-first.ensures.held 256 [] [] [] c.in_ok-downlink.ensures);
  viewers_are = new_viewers (setting g c) (shower_board c.in_ok-shower.shower) (most_by c.in_ok-shower.shower) (shown_by c.in_ok-shower.shower) refl (most g c) c.in_ok-shower.viewers.items c.in_ok-shower.ensures.viewers;
}

pub perform-told-requires-clause-set_up : goal.perform-told-requires-clause-set_up
perform-told-requires-clause-set_up g c = λ κs within.
    let s = (goal.at.perform-told-requires-clause-set_up g c).In_ok-shower in (setting g s, begun g s, record { board = refl; most = most g s })

pub returns : goal.returns
returns g c = let s = (goal.at.returns g c).In_ok-shower in if_ok_map c.perform-told.result (λ told f. f (setting g s) (begun g s) (record { board = refl; most = most g s })) c.perform-told.ensures
