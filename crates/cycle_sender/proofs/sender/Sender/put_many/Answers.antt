use Rattle.std.proofs.Common.{ap, ◌++◌, ◌∙◌, append-nil}
use Rattle.std.specs.List.{concat}
use Rattle.std.proofs.lemmas.Result.{err_from_is_err_and}
use Rattle.shell_streams.proofs.CallerLemmas.{puts_as, puts_err}
use Rattle.cycle_sender.proofs.sender.Sender.put_many.Goals as goal

pub returns-in_err-put_packets-clause-stopped : goal.returns-in_err-put_packets-clause-stopped
returns-in_err-put_packets-clause-stopped g c =
    let p = err_from_is_err_and c.from_residual.result c.from_residual.ensures.1 in
    rw (p.1, p.2) (puts_as (ap concat c.deref.ensures.value) (puts_err c.in_err-put_packets.ensures))

pub returns-clause-put : goal.returns-clause-put
returns-clause-put g c = (
  concat c.deref.result.now,
  c.in_ok-put_packets.ensures,
  ap (λ xs. concat c.deref.result.now ++ concat xs) c.clear.ensures.items ∙ append-nil (concat c.deref.result.now) ∙ ap concat c.deref.ensures.value,
)
