use Rattle.std.proofs.Common.{◌≡◌}
use Rattle.shot_board.specs.Showers.{most_by}
use Rattle.bench_programs.proofs.feeder.feed.Given as goal

abbrev pub invariant-loop : goal.invariant-loop
invariant-loop g l = most_by l.shower ≡ 1000000000000
