use Rattle.std.proofs.Common.{get_or, arith}
use Rattle.generation.proofs.Words.{view_spot, spots_of}
use Rattle.generation.proofs.Weighing.{top_spot, as_many, spot_at_place, folder_there, sized_none, sized_more, sized_all}
use Rattle.generation.proofs.limit.add_bindings.Goals as goal

pub add_binding-requires-clause-folder : goal.add_binding-requires-clause-folder
add_binding-requires-clause-folder c = λ p e.
    let there = folder_there c.args.tree.now c.args.spots.now c.loop-spot.spot-index top_spot p c.requires.spots (omega arith) e in omega (arith, there, c.loop-spot.invariant.long)

pub loop-spot-init : goal.loop-spot-init
loop-spot-init c = sized_none c.args.tree.now c.args.sizes.now (rw c.requires.spots.each at c.requires.own) c.requires.small

-- one object more
pub loop-spot-preserved : goal.loop-spot-preserved
loop-spot-preserved c =
    let t = c.args.tree.now in
    let spots = c.args.spots.now in
    let i = c.loop-spot.spot-index in
    sized_more t i (view_spot t (get_or spots i top_spot)) c.loop-spot.sizes c.add_binding.new.sizes (omega (arith, as_many t spots (spots_of t) c.requires.spots.each))
    (spot_at_place t spots (spots_of t) i top_spot c.requires.spots.each (omega arith)) c.loop-spot.invariant (omega arith) c.add_binding.ensures.each c.add_binding.ensures.small

pub returns : goal.returns
returns c = sized_all c.args.tree.now c.loop-spot.spot-index c.loop-spot.sizes c.requires.spots.tree (omega (arith, as_many c.args.tree.now c.args.spots.now (spots_of c.args.tree.now) c.requires.spots.each)) c.loop-spot.invariant
