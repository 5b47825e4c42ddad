use Rattle.station.proofs.Closing.{new_from}
use Rattle.station.proofs.station.Station.new.Goals as goal

pub returns-in-Ok-clause-passes : goal.returns-in-Ok-clause-passes
returns-in-Ok-clause-passes g c = new_from c.in-Ok.lock c.result-1.given.0 _ c.result-1.given.1.0 c.in-Ok.passes.items _ c.in-Ok.ensures.opening c.in-Ok.ensures.passes
