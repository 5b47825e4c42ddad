use Rattle.std.proofs.lemmas.Result.{err_from_is_err_and}
use Rattle.shell_streams.proofs.CallerLemmas.{puts_then, puts_stop}
use Rattle.reception_report.proofs.report.put_held.Goals as goal

pub returns-in_err-put_gateway : goal.returns-in_err-put_gateway
returns-in_err-put_gateway g c =
    let p = err_from_is_err_and c.from_residual.result c.from_residual.ensures.1 in
    rw (p.1, p.2) (puts_stop {T = Unit {0}} _ (puts_stop {T = Unit {0}} _ (puts_stop {T = Unit {0}} _ (puts_stop _ c.in_err-put_gateway.ensures))))

pub returns-in_err-put_diis : goal.returns-in_err-put_diis
returns-in_err-put_diis g c =
    let p = err_from_is_err_and c.from_residual-in_err-put_diis.result c.from_residual-in_err-put_diis.ensures.1 in
    rw (p.1, p.2) (puts_stop {T = Unit {0}} _ (puts_stop {T = Unit {0}} _ (puts_stop _ (puts_then c.in_ok-put_gateway.ensures c.in_err-put_diis.ensures))))

pub returns-in_err-put_label : goal.returns-in_err-put_label
returns-in_err-put_label g c =
    let p = err_from_is_err_and c.from_residual-in_err-put_label.result c.from_residual-in_err-put_label.ensures.1 in
    rw (p.1, p.2) (puts_stop {T = Unit {0}} _ (puts_stop _ (puts_then (puts_then c.in_ok-put_gateway.ensures c.in_ok-put_diis.ensures) c.in_err-put_label.ensures)))

pub returns-in_err-put_modules : goal.returns-in_err-put_modules
returns-in_err-put_modules g c =
    let p = err_from_is_err_and c.from_residual-in_err-put_modules.result c.from_residual-in_err-put_modules.ensures.1 in
    rw (p.1, p.2) (puts_stop _ (puts_then (puts_then (puts_then c.in_ok-put_gateway.ensures c.in_ok-put_diis.ensures) c.in_ok-put_label.ensures) c.in_err-put_modules.ensures))

pub returns : goal.returns
returns g c = puts_then (puts_then (puts_then (puts_then c.in_ok-put_gateway.ensures c.in_ok-put_diis.ensures) c.in_ok-put_label.ensures) c.in_ok-put_modules.ensures) c.put_paths.ensures
