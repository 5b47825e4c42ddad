use Rattle.std.proofs.Common.{rules}
use Rattle.std.proofs.lemmas.Iterator.Consumers.{YieldsList-turn}
use Rattle.std.proofs.lemmas.Iterator.Adapters.{YieldsList-from_vec}
use Rattle.carousel_world.specs.View.{kept_in}
use Rattle.carousel_world.proofs.Happening.{in_range, one_more_event}
use Rattle.carousel_world.proofs.world.World.run_all.Goals as goal

pub step-requires : goal.step-requires
step-requires g c =
    let turn = YieldsList-turn (YieldsList-from_vec {s = c.into_iter-event-iterator.result} c.args.events.items (search rules) (search rules))
    c.loop-event.yielded c.loop-event.event-iterator c.loop-event.yielded_by c.next.result c.next.new.self c.in-Some.event c.in-Some.is c.next.ensures.steps in
    in_range c.args.events.items _ c.in-Some.event c.requires turn.0 turn.1

pub loop-event-preserved : goal.loop-event-preserved
loop-event-preserved g c =
    let turn = YieldsList-turn (YieldsList-from_vec {s = c.into_iter-event-iterator.result} c.args.events.items (search rules) (search rules))
    c.loop-event.yielded c.loop-event.event-iterator c.loop-event.yielded_by c.next.result c.next.new.self c.in-Some.event c.in-Some.is c.next.ensures.steps in
    λ w st. one_more_event (kept_in c.loop-event.self) (kept_in c.step.new.self) w c.args.events.items c.loop-event.yielded c.in-Some.event c.loop-event.replies.items c.push.new.self.items c.in_ok-step.field-0
    turn.0 turn.1 (c.loop-event.invariant w st) c.in_ok-step.ensures.stands c.in_ok-step.ensures.reply c.in_ok-push.ensures.items
