use Rattle.std.proofs.Common.{◌≡◌, replicate, rules}
use Rattle.reception_report.proofs.Tallying.{none_counted}
use Rattle.reception_report.proofs.tally.Tally.new.Goals as goal

pub returns : goal.returns
returns c = let zeros : c.in_ok-vec.field-0.items ≡ replicate 22 0 = search rules in rw zeros none_counted
