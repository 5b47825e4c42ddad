use Rattle.std.proofs.Common.{◌++◌, refl, ap, Err}
use Rattle.std.proofs.lemmas.Result.{err_from_is_err_and}
use Rattle.shell_streams.proofs.Putting.{puts_then, puts_stop}
use Rattle.shell_streams.proofs.Sending.{all_written, part_written, was_failed, not_failed, none_kept, all_kept}
use Rattle.shell_streams.proofs.output.BufferedOutput.put.Goals as goal

pub returns-in_err-extend_from_slice-clause-puts : goal.returns-in_err-extend_from_slice-clause-puts
returns-in_err-extend_from_slice-clause-puts g c =
    let p = err_from_is_err_and c.from_residual.result c.from_residual.ensures.1 in
    rw (p.1, p.2) (none_kept refl refl refl refl refl)

pub returns-in_err-flush-clause-puts : goal.returns-in_err-flush-clause-puts
returns-in_err-flush-clause-puts g c =
    let p = err_from_is_err_and c.from_residual-in_err-flush.result c.from_residual-in_err-flush.ensures.1 in
    rw (p.1, p.2) (puts_stop c.args.more.now c.in_err-flush.ensures.puts)

pub returns-in_err-extend_from_slice-2-clause-puts : goal.returns-in_err-extend_from_slice-2-clause-puts
returns-in_err-extend_from_slice-2-clause-puts g c =
    let p = err_from_is_err_and c.from_residual-in_err-extend_from_slice-2.result c.from_residual-in_err-extend_from_slice-2.ensures.1 in
    rw (p.1, p.2) (puts_then c.in_ok-flush.ensures.puts (none_kept refl refl refl refl refl))

pub returns-then-more-le-MOST_PENDING-clause-puts : goal.returns-then-more-le-MOST_PENDING-clause-puts
returns-then-more-le-MOST_PENDING-clause-puts g c = puts_then c.in_ok-flush.ensures.puts (all_kept refl refl refl refl refl c.in_ok-extend_from_slice-2.ensures.items)

pub returns-in_err-write_all-clause-puts : goal.returns-in_err-write_all-clause-puts
returns-in_err-write_all-clause-puts g c =
    let p = err_from_is_err_and c.from_residual-in_err-write_all.result c.from_residual-in_err-write_all.ensures.1 in
    rw p.1 (puts_then c.in_ok-flush.ensures.puts (part_written c.args.more.now refl (ap (λ bs. bs ++ c.args.more.now) c.in_ok-flush.ensures.empty)
    c.in_err-write_all.ensures.err c.write_all.ensures.later (λ e. c.in_err-write_all.ensures.cause (ap Err (was_failed _ _ p.2 e)))
    c.write_all.ensures.in_time (λ n. c.in_err-write_all.ensures.goes_on (not_failed _ _ p.2 n))))

pub returns-clause-puts : goal.returns-clause-puts
returns-clause-puts g c =
    puts_then c.in_ok-flush.ensures.puts (all_written c.args.more.now refl (ap (λ bs. bs ++ c.args.more.now) c.in_ok-flush.ensures.empty) c.in_ok-flush.ensures.empty
    c.in_ok-write_all.ensures.ok c.write_all.ensures.later c.write_all.ensures.in_time (c.in_ok-write_all.ensures.goes_on (λ e. absurd (cc))))
