use Rattle.shell_streams.proofs.CallerLemmas.{puts_as}
use Rattle.reception_report.proofs.Rows.{diis_some, diis_none}
use Rattle.reception_report.proofs.report.put_diis.Goals as goal

pub returns-then-is_empty : goal.returns-then-is_empty
returns-then-is_empty g c = puts_as (diis_none c.args.held.now c.if-is_empty.ensures) c.put.ensures.puts

pub returns : goal.returns
returns g c = puts_as (diis_some c.args.held.now c.if-is_empty.ensures) c.put_each_dii.ensures
