use Rattle.std.proofs.Common.{Ok, List, sym, subst}
use Rattle.std.specs.List.{All, Contains}
use Rattle.cycle_planner.specs.declared.Item.{Item}
use Rattle.generation.specs.Layouts.{GenerationState, items_of}
use Rattle.generation_catalogue.specs.Calls.{IsDrawn}
use Rattle.carousel_world.proofs.Happening.{drawn_stands}
use Rattle.carousel_world.proofs.world.World.draw_and_send.Goals as goal

pub send-requires-clause-items : goal.send-requires-clause-items
send-requires-clause-items g c =
    subst (λ (xs : List Item). All (λ item. Contains (items_of c.deref.result.now) item) xs) (sym c.deref-2.ensures.value)
    (subst (λ (g : GenerationState). All (λ item. Contains (items_of g) item) c.in-Ok.batch.items.items) (sym c.deref.ensures) c.in-Ok.ensures.items)

pub returns-clause-stands : goal.returns-clause-stands
returns-clause-stands g c =
    let is : IsDrawn c.args.self.now.journal c.args.asked (Ok c.in-Ok.batch) c.draw.new.self =
    subst (λ r. IsDrawn c.args.self.now.journal c.args.asked r c.draw.new.self) c.in-Ok.is c.draw.ensures.drawn in
    λ w st. drawn_stands c.args.self.now.journal c.draw.new.self w c.in-Ok.batch c.args.asked c.args.fates.now c.args.self.now.downlink c.send.new.downlink c.deref.result.now c.deref-2.result.now
    is c.deref.ensures c.deref-2.ensures.value st c.in_ok-send.ensures
