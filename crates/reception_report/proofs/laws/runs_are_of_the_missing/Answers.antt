use Rattle.reception_report.proofs.Gaps.{runs_of_the_missing}
use Rattle.reception_report.proofs.laws.runs_are_of_the_missing.Goals as goal

pub returns : goal.returns
returns c = runs_of_the_missing
