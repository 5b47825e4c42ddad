use Rattle.history_merge.proofs.Merged.{every}
use Rattle.history_merge.proofs.laws.merges_are_runs.Goals as goal

pub returns : goal.returns
returns c = every c.every_run_meets_the_headline.ensures
