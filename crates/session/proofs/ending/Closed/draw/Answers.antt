use Rattle.session.proofs.Words.{Result, Batch, DrawFault, IsDrawn, state, subst, shown_by}
use Rattle.session.proofs.Closing.{one_more}
use Rattle.session.proofs.ending.Closed.draw.Goals as goal

pub returns-clause-gathered : goal.returns-clause-gathered
returns-clause-gathered g c = one_more c.gathers_grow.ensures c.args.self.now
    (record { catalogue = c.draw.new.self; downlink = c.send_and_show.new.downlink; fates = c.push.new.self }) c.new-fates.result _ c.in-Ok.batch (shown_by c.args.shower.now) (shown_by c.send_and_show.new.shower) c.new-fates.ensures.items c.deref.ensures.value
    (subst (λ (r : Result Batch DrawFault). IsDrawn (state c.args.self.now.catalogue) 1048576 r (state c.draw.new.self)) c.in-Ok.is c.draw.ensures.drawn)
    c.in_ok-send_and_show.ensures.shown c.in_ok-push.ensures.items
