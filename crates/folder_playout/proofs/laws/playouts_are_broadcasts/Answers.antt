use Rattle.folder_playout.proofs.Casting.{playouts_are}
use Rattle.folder_playout.proofs.laws.playouts_are_broadcasts.Goals as goal

pub returns : goal.returns
returns c = playouts_are c.layouts_are_lawful.ensures c.generations_are_of_the_lists.ensures
