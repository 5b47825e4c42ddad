use Rattle.reception_report.proofs.report.put.Goals as goal

pub returns : goal.returns
returns g c = rw c.as_bytes.ensures.value at c.put.ensures.puts
