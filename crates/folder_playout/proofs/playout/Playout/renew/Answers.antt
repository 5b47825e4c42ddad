use Rattle.std.proofs.Common.{[], ◌∙◌, ap, append-nil}
use Rattle.std.proofs.lemmas.Result.{err_from_is_err_and}
use Rattle.generation.specs.Layouts.{next_of}
use Rattle.shell_streams.proofs.CallerLemmas.{puts_as, puts_err, puts_none, puts_ok, puts_then}
use Rattle.folder_playout.proofs.Packing.{end_given, tree_counted, tree_given}
use Rattle.folder_playout.proofs.playout.Playout.renew.Goals as goal

pub returns-in_err-finish-clause-puts : goal.returns-in_err-finish-clause-puts
returns-in_err-finish-clause-puts g c = λ start pid s stands like has.
    let p = err_from_is_err_and c.from_residual.result c.from_residual.ensures.1 in
    rw (p.1, p.2) (puts_as (end_given pid s c.args.self.now.sender.mux like stands.mux ∙ tree_given pid c.args.tree s) (puts_err (puts_then has c.in_err-finish.ensures.puts)))

pub returns-in_err-next-clause-puts : goal.returns-in_err-next-clause-puts
returns-in_err-next-clause-puts g c = λ start pid s stands like has.
    let p = err_from_is_err_and c.from_residual-in_err-next.result c.from_residual-in_err-next.ensures.1 in
    rw (p.1, p.2) (puts_as (append-nil _ ∙ end_given pid s c.args.self.now.sender.mux like stands.mux ∙ tree_given pid c.args.tree s)
    (puts_then (puts_then has c.in_ok-finish.ensures.puts) (puts_none (g.O.Output.state c.finish.new.out) [])))

pub returns-clause-puts : goal.returns-clause-puts
returns-clause-puts g c = λ start pid s stands like has.
    puts_ok c.compared-difference.result (puts_as (end_given pid s c.args.self.now.sender.mux like stands.mux ∙ tree_given pid c.args.tree s) (puts_then has c.in_ok-finish.ensures.puts))

pub returns-clause-stands : goal.returns-clause-stands
returns-clause-stands g c = λ pid s stands like. record {
  generation = c.in_ok-next.ensures.exact ∙ ap (λ x. next_of x c.args.tree) stands.generation;
  mux = c.in_ok-finish.ensures.mux ∙ tree_counted pid c.args.tree s c.args.self.now.sender.mux like stands.mux;
}
