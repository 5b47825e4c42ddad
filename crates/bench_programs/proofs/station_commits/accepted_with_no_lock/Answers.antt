use Rattle.cycle_planner.proofs.CallerLemmas.{are_ones}
use Rattle.bench_programs.proofs.station_commits.accepted_with_no_lock.Goals as goal

pub new-requires : goal.new-requires
new-requires c = are_ones
