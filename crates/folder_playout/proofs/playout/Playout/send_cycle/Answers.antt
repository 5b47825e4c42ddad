use Rattle.std.proofs.Common.{◌++◌, ◌∙◌, ap, append-nil}
use Rattle.std.specs.List.{concat, fold}
use Rattle.std.proofs.lemmas.Result.{err_from_is_err_and}
use Rattle.generation.specs.Layouts.{GenerationState}
use Rattle.section_stream.specs.Packing.{packets_of_all, past}
use Rattle.shell_streams.proofs.CallerLemmas.{puts_as, puts_then}
use Rattle.folder_playout.specs.OnAir.{cycle_in}
use Rattle.folder_playout.specs.Inner.Standing.{given_bytes}
use Rattle.folder_playout.proofs.Packing.{cycle_counted, cycle_given}
use Rattle.folder_playout.proofs.Turning.{on_ok}
use Rattle.folder_playout.proofs.playout.Playout.send_cycle.Goals as goal

pub returns-in_err-send_cycle-clause-puts : goal.returns-in_err-send_cycle-clause-puts
returns-in_err-send_cycle-clause-puts g c = λ start pid s stands has.
    let p = err_from_is_err_and c.from_residual.result c.from_residual.ensures.1 in
    let weights = c.args.weigh.now.weights in
    let mux = c.args.self.now.sender.mux in
    rw (p.1, p.2) (puts_as (ap (λ (x : GenerationState). given_bytes pid s ++ concat (packets_of_all mux (cycle_in weights x))) stands.generation ∙ cycle_given weights pid s mux stands.mux)
    (puts_then has c.in_err-send_cycle.ensures.puts))

pub returns-clause-puts : goal.returns-clause-puts
returns-clause-puts g c = λ start pid s stands has.
    let weights = c.args.weigh.now.weights in
    let mux = c.args.self.now.sender.mux in
    puts_as (append-nil _ ∙ ap (λ (x : GenerationState). given_bytes pid s ++ concat (packets_of_all mux (cycle_in weights x))) stands.generation ∙ cycle_given weights pid s mux stands.mux)
    (puts_then (puts_then has c.in_ok-send_cycle.ensures.puts) c.flush.ensures.puts)

pub returns-clause-stands : goal.returns-clause-stands
returns-clause-stands g c =
    let weights = c.args.weigh.now.weights in
    let mux = c.args.self.now.sender.mux in
    on_ok c.flush.result (λ pid s stands. record {
      generation = stands.generation;
      mux = c.in_ok-send_cycle.ensures.mux ∙ ap (λ (x : GenerationState). fold past mux (cycle_in weights x)) stands.generation ∙ cycle_counted weights pid s mux stands.mux;
    })
