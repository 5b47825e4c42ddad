use Rattle.station.specs.Passes.{IsStationPass}
use Rattle.bench_programs.proofs.station_commits.edit.Given as goal

abbrev pub invariant-loop-number : goal.invariant-loop-number
invariant-loop-number g l = IsStationPass l.station l.pass
