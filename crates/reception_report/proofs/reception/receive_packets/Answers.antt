use Rattle.std.proofs.Common.{[], ap, ◌∙◌}
use Rattle.std.proofs.lemmas.Result.{err_from_is_err_and}
use Rattle.shell_streams.proofs.CallerLemmas.{told_weaker}
use Rattle.reception_report.specs.Report.{tail_of}
use Rattle.reception_report.proofs.Receiving.{hears_own, hears_of, hears_nothing, is_reception}
use Rattle.reception_report.proofs.reception.receive_packets.Goals as goal

pub returns-in_err-ear-clause-hears : goal.returns-in_err-ear-clause-hears
returns-in_err-ear-clause-hears g c =
    let p = err_from_is_err_and c.from_residual.result c.from_residual.ensures.1 in
    rw (p.1, p.2) (hears_nothing _ _)

pub hear_packets_and_rest-requires : goal.hear_packets_and_rest-requires
hear_packets_and_rest-requires g c = hears_own c.args.pid c.in_ok-ear.ear [] c.in_ok-ear.ensures

pub returns-in_err-rest-clause-hears : goal.returns-in_err-rest-clause-hears
returns-in_err-rest-clause-hears g c =
    let p = err_from_is_err_and c.from_residual-in_err-rest.result c.from_residual-in_err-rest.ensures.1 in
    rw (p.1, p.2) (record { ok = tt; err = c.in_err-rest.ensures.hears.err; later = c.in_err-rest.ensures.hears.later; cause = λ e. c.in_err-rest.ensures.hears.cause (cc) })

pub returns-clause-hears : goal.returns-clause-hears
returns-clause-hears g c =
    let all = c.in_ok-rest.ensures.hears.ok in
    record {
      ok = record {
        taken = all.taken;
        told = all.told;
        heard = is_reception c.counts_are_numbers.ensures c.args.pid c.in_ok-rest.rest _ _ _ _ all.taken
            (hears_of c.args.pid _ all.taken _ c.in_ok-ear.ensures.pid_is all.heard) c.counts.ensures c.with_tail-counts.ensures (rw c.deref.ensures.value at c.sync_without_packets-sync.ensures);
      };
      err = tt;
      later = c.in_ok-rest.ensures.hears.later;
      cause = λ e. absurd (cc);
    }

pub returns-clause-tail : goal.returns-clause-tail
returns-clause-tail g c = told_weaker c.in_ok-rest.ensures.rest (λ input left n. ap (λ k. k.short_tail) c.with_tail-counts.ensures ∙ ap tail_of n)
