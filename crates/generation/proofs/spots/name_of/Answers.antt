use Rattle.std.proofs.Common.{arith}
use Rattle.generation.proofs.Spotting.{name_read}
use Rattle.generation.proofs.spots.name_of.Goals as goal

pub returns : goal.returns
returns c =
    let h = name_read c.args.tree.now c.args.spot c.path_of.result.now _ c.name.result.now c.requires.tree c.path_of.ensures c.name.ensures (omega (arith, c.requires.named)) in
    record { name = h.0; range = (h.1.at_least, h.1.at_most) }
