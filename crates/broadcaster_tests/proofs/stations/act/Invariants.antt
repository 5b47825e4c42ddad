use Rattle.station.specs.Passes.{IsStationPass}
use Rattle.broadcaster_tests.proofs.stations.act.Given as goal

abbrev pub invariant-loop : goal.invariant-loop
invariant-loop g l = IsStationPass l.station l.pass
