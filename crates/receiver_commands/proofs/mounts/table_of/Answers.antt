use Rattle.std.proofs.Common.{ap, ◌∙◌, sym}
use Rattle.std.proofs.lemmas.Result.{err_from_is_err_and, IfErr-weaker}
use Rattle.mount_table.specs.Mounts.{refusal_of, refusal_in}
use Rattle.receiver_commands.proofs.Serving.{refused_as}
use Rattle.receiver_commands.proofs.mounts.table_of.Goals as goal

pub returns-in_err-mounts-clause-refused : goal.returns-in_err-mounts-clause-refused
returns-in_err-mounts-clause-refused c =
    let p = err_from_is_err_and c.from_residual.result c.from_residual.ensures.1 in
    rw (p.1, p.2) tt

pub returns-clause-refused : goal.returns-clause-refused
returns-clause-refused c = IfErr-weaker c.new.result _ _ (λ fault e. refused_as _ (refusal_in fault) (ap refusal_of (sym c.in_ok-mounts.ensures) ∙ e)) c.new.ensures.refused

pub returns-clause-accepted : goal.returns-clause-accepted
returns-clause-accepted c = rw c.in_ok-mounts.ensures at c.new.ensures.accepted

pub returns-clause-table : goal.returns-clause-table
returns-clause-table c = rw c.in_ok-mounts.ensures at c.new.ensures.table
