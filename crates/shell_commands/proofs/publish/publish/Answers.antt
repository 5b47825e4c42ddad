use Rattle.std.proofs.Common.{sym, subst, refl, arith}
use Rattle.generation.specs.Layouts.{GenerationState}
use Rattle.carousel_world.specs.Publishing.{published_bytes}
use Rattle.shell_commands.specs.Inner.Cycles.{IsOfFolder}
use Rattle.shell_commands.proofs.Committing.{cycle_like, ended_none, publishes_all, publishes_part}
use Rattle.shell_commands.proofs.publish.publish.Goals as goal

pub send-requires-clause-like : goal.send-requires-clause-like
send-requires-clause-like g c =
    let G : GenerationState → Type 0 = λ s. IsOfFolder c.args.folder.now c.args.carousel (g.F.Folders.tree c.args.folders.now) s in
    let of = subst G (sym c.deref.ensures) c.in-Ok.ensures.made in
    cycle_like c.args.folder.now c.args.carousel c.args.weigh.weights _ c.deref.result.now c.publications_can_be_packed.ensures c.generations_are_of_the_lists.ensures (omega (arith, c.ranges.carousel.fits)) of

pub returns-in-Ok-send-clause-publishes : goal.returns-in-Ok-send-clause-publishes
returns-in-Ok-send-clause-publishes g c =
    let G : GenerationState → Type 0 = λ s. IsOfFolder c.args.folder.now c.args.carousel (g.F.Folders.tree c.args.folders.now) s in
    let of = subst G (sym c.deref.ensures) c.in-Ok.ensures.made in
    publishes_all c.args.pid c.args.folder.now c.args.carousel c.args.weigh.weights c.args.cycles _ _ _ c.deref.result.now c.generations_are_of_the_lists.ensures of c.requires.pending
    c.in-Ok-send.ensures.empty c.in-Ok-send.ensures.puts

pub returns-in-Ok-clause-publishes : goal.returns-in-Ok-clause-publishes
returns-in-Ok-clause-publishes g c =
    let G : GenerationState → Type 0 = λ s. IsOfFolder c.args.folder.now c.args.carousel (g.F.Folders.tree c.args.folders.now) s in
    let of = subst G (sym c.deref.ensures) c.in-Ok.ensures.made in
    rw c.from.ensures (publishes_part c.args.pid c.args.folder.now c.args.carousel c.args.weigh.weights c.args.cycles _ _ _ c.deref.result.now c.in-Err-send.fault c.generations_are_of_the_lists.ensures of c.requires.pending
    c.in-Err-send.ensures.puts)

pub returns-clause-publishes : goal.returns-clause-publishes
returns-clause-publishes g c = ended_none c.args.folder.now c.args.carousel (published_bytes c.args.pid c.args.carousel c.args.weigh.weights c.args.cycles) _ _ c.in-Err.status c.in-Err.ensures.refused refl
