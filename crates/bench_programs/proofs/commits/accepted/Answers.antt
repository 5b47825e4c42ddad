use Rattle.cycle_planner.proofs.CallerLemmas.{are_ones}
use Rattle.bench_programs.proofs.commits.accepted.Goals as goal

pub new-requires : goal.new-requires
new-requires c = are_ones
