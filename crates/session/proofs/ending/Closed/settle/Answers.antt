use Rattle.session.proofs.Words.{Bool, ap, arith, length, settling_lines, shown_by, state, with_draw, CatalogueState, ◌∙◌}
use Rattle.session.proofs.Closing.{none_more, two_more}
use Rattle.session.proofs.ending.Closed.settle.Goals as goal

pub returns-then-not-settles-clause-count : goal.returns-then-not-settles-clause-count
returns-then-not-settles-clause-count g c = let none = ap (λ (b : Bool). length (settling_lines b)) c.if-not-settles.true in omega (arith, none)

pub returns-then-not-settles-clause-settled : goal.returns-then-not-settles-clause-settled
returns-then-not-settles-clause-settled g c = λ yes. absurd (let no = c.if-not-settles.true in cc)

pub returns-then-not-settles-clause-gathered : goal.returns-then-not-settles-clause-gathered
returns-then-not-settles-clause-gathered g c = none_more c.args.settles c.if-not-settles.true c.args.self.now (shown_by c.args.shower.now)

pub draw-requires-clause-room : goal.draw-requires-clause-room
draw-requires-clause-room g c κs within = let two = ap (λ (b : Bool). length (settling_lines b)) c.if-not-settles.false in let room = c.requires.room in omega (arith, two, room)

pub draw-requires-2-clause-room : goal.draw-requires-2-clause-room
draw-requires-2-clause-room g c κs within = let two = ap (λ (b : Bool). length (settling_lines b)) c.if-not-settles.false in let room = c.requires.room in
    let count = c.in_ok-draw.ensures.count in let most = c.draw.ensures.board.1 in omega (arith, two, room, count, most)

pub returns-clause-count : goal.returns-clause-count
returns-clause-count g c = let two = ap (λ (b : Bool). length (settling_lines b)) c.if-not-settles.false in
    let first = c.in_ok-draw.ensures.count in let second = c.in_ok-draw-2.ensures.count in omega (arith, two, first, second)

pub returns-clause-settled : goal.returns-clause-settled
returns-clause-settled g c = λ yes. (state c.args.self.now.catalogue, c.in_ok-draw-2.ensures.drawn ∙ ap (λ (x : CatalogueState). with_draw x 1048576) c.in_ok-draw.ensures.drawn)

pub returns-clause-gathered : goal.returns-clause-gathered
returns-clause-gathered g c = two_more c.args.settles c.if-not-settles.false c.args.self.now c.draw.new.self c.draw-2.new.self (shown_by c.args.shower.now) (shown_by c.draw.new.shower) (shown_by c.draw-2.new.shower)
    c.in_ok-draw.ensures.gathered c.in_ok-draw-2.ensures.gathered
