use Rattle.std.proofs.Common.{arith}
use Rattle.folder_store.proofs.RealReads.{told_front}
use Rattle.folder_store.proofs.real.read_piece.Goals as goal

pub returns-in-Ok-clause-read : goal.returns-in-Ok-clause-read
returns-in-Ok-clause-read g c = let same = c.read.auto.into in told_front _ _ c.read.new.into _ c.in-Ok.n c.in-Ok.ensures.read (omega (arith, c.in-Ok.ensures.within, same))
