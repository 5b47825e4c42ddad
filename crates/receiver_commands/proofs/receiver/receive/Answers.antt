use Rattle.std.proofs.Common.{ap}
use Rattle.std.proofs.lemmas.Result.{err_from_is_err_and}
use Rattle.shell_streams.proofs.CallerLemmas.{told_weaker, all_rear}
use Rattle.receiver_commands.proofs.receiver.receive.Goals as goal

pub returns-in_err-hear_all : goal.returns-in_err-hear_all
returns-in_err-hear_all g c =
    let p = err_from_is_err_and c.from_residual.result c.from_residual.ensures.1 in
    rw (p.1, p.2) (record { ok = tt; err = c.in_err-hear_all.ensures.err; later = c.hear_all.ensures.later; cause = λ e. c.in_err-hear_all.ensures.cause (cc) })

pub returns-in_err-shot : goal.returns-in_err-shot
returns-in_err-shot g c =
    let p = err_from_is_err_and c.from_residual-in_err-shot.result c.from_residual-in_err-shot.ensures.1 in
    rw (p.1, p.2) (record {
      ok = tt;
      err = told_weaker (all_rear c.in_ok-hear_all.ensures.ok.told) (λ x y r. record { rear = r; too_long = λ e. absurd (cc) });
      later = c.hear_all.ensures.later;
      cause = λ e. absurd (cc);
    })

pub returns : goal.returns
returns g c =
    let all = c.in_ok-hear_all.ensures.ok in
    record {
      ok = record {
        taken = all.taken;
        told = all.told;
        heard = ap (λ v. v.held) (c.in_ok-shot.ensures.held all.taken all.heard);
      };
      err = tt;
      later = c.hear_all.ensures.later;
      cause = λ e. absurd (cc);
    }
