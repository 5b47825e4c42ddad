use Rattle.std.proofs.Common.{◌∙◌, append-nil}
use Rattle.std.proofs.lemmas.Result.{err_from_is_err_and}
use Rattle.shell_streams.proofs.CallerLemmas.{puts_as, puts_then}
use Rattle.folder_playout.proofs.Packing.{end_given}
use Rattle.folder_playout.proofs.playout.Playout.end.Goals as goal

pub returns-in_err-finish-clause-puts : goal.returns-in_err-finish-clause-puts
returns-in_err-finish-clause-puts g c = λ start pid s stands like has.
    let p = err_from_is_err_and c.from_residual.result c.from_residual.ensures.1 in
    rw (p.1, p.2) (puts_as (end_given pid s c.args.self.now.sender.mux like stands.mux) (puts_then has c.in_err-finish.ensures.puts))

pub returns-clause-puts : goal.returns-clause-puts
returns-clause-puts g c = λ start pid s stands like has.
    puts_as (append-nil _ ∙ end_given pid s c.args.self.now.sender.mux like stands.mux) (puts_then (puts_then has c.in_ok-finish.ensures.puts) c.flush.ensures.puts)
