use Rattle.std.proofs.Common.{refl, ap, Err, append-nil}
use Rattle.std.proofs.lemmas.Result.{err_from_is_err_and}
use Rattle.shell_streams.proofs.Sending.{all_written, part_written, was_failed, not_failed}
use Rattle.shell_streams.proofs.output.BufferedOutput.flush.Goals as goal

pub returns-in_err-write_all-clause-puts : goal.returns-in_err-write_all-clause-puts
returns-in_err-write_all-clause-puts g c =
    let p = err_from_is_err_and c.from_residual.result c.from_residual.ensures.1 in
    rw p.1 (part_written c.args.self.now.pending.now.items refl (append-nil c.args.self.now.pending.now.items) (rw c.deref.ensures.value at c.in_err-write_all.ensures.err)
    c.write_all.ensures.later (λ e. c.in_err-write_all.ensures.cause (ap Err (was_failed _ _ p.2 e)))
    c.write_all.ensures.in_time (λ n. c.in_err-write_all.ensures.goes_on (not_failed _ _ p.2 n)))

pub returns-clause-puts : goal.returns-clause-puts
returns-clause-puts g c =
    all_written c.args.self.now.pending.now.items refl (append-nil c.args.self.now.pending.now.items) c.clear.ensures.items (rw c.deref.ensures.value at c.in_ok-write_all.ensures.ok)
    c.write_all.ensures.later c.write_all.ensures.in_time (c.in_ok-write_all.ensures.goes_on (λ e. absurd (cc)))
