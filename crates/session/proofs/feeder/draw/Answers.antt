use Rattle.session.proofs.Words.{◌∷◌, ◌++◌, List, [], Result, refl, subst, Fate, IsDrawn, Batch, DrawFault, Drawing, shown_by, InOneHold, carousel_of, weights_of, draw_of, drawing_in, HasShown}
use Rattle.session.proofs.Closing.{one_draw_more}
use Rattle.session.proofs.feeder.draw.Goals as goal

pub returns-clause-fed : goal.returns-clause-fed
returns-clause-fed g c = let before = shown_by c.args.shower.now in let after = shown_by c.send_and_show.new.shower in
    one_draw_more c.args.station.now (draw_of c.args.line) c.args.seat.now
    record { pass = c.draw.new.pass; downlink = c.send_and_show.new.downlink; draws = c.args.seat.now.draws; fates = c.push.new.self; whole = c.args.seat.now.whole }
    before after c.in-Ok.batch c.args.line.fates refl c.draw.ensures.pass
    (subst (λ (r : Result Batch DrawFault). InOneHold (carousel_of c.args.station.now) (weights_of c.args.station.now) c.args.seat.now.pass c.draw.new.pass (λ x y. IsDrawn x c.args.line.asked r y)) c.in-Ok.is c.draw.ensures.call)
    (subst (λ (fs : List Fate). (drawings : List Drawing) → HasShown drawings c.args.seat.now.downlink before → HasShown (drawings ++ drawing_in c.in-Ok.batch fs ∷ []) c.send_and_show.new.downlink after)
    c.deref.ensures.value c.in_ok-send_and_show.ensures.shown)
    c.in_ok-push.ensures.items
