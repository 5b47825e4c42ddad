use Rattle.left_right.specs.Sides.{view}
use Rattle.shot_board.proofs.Naming.{admits, forks, merges}
use Rattle.shot_board.proofs.opening.seat.Goals as goal

pub reader-requires : goal.reader-requires
reader-requires g c = admits

pub tell-requires : goal.tell-requires
tell-requires g c = forks _ _

pub learn-requires-clause-rule : goal.learn-requires-clause-rule
learn-requires-clause-rule g c = merges _ (view c.in-Ok.reader.place) _ (view c.tell.result)
