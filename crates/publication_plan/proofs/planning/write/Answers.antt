use Rattle.std.proofs.Common.{◌∙◌, append-nil}
use Rattle.shell_streams.proofs.CallerLemmas.{puts_as, puts_then}
use Rattle.publication_plan.proofs.planning.write.Goals as goal

pub returns-clause-puts : goal.returns-clause-puts
returns-clause-puts g c = puts_as (append-nil _ ∙ c.as_bytes.ensures.value) (puts_then c.in_ok-put.ensures.puts c.flush.ensures.puts)
