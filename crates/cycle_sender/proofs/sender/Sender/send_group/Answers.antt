use Rattle.std.proofs.Common.{map, refl}
use Rattle.std.specs.List.{fold}
use Rattle.std.proofs.lemmas.Result.{err_from_is_err_and}
use Rattle.cycle_planner.specs.Cycle.{cycle_of}
use Rattle.generation.specs.Layouts.{lines_of, section_of}
use Rattle.section_stream.specs.Packing.{past}
use Rattle.shell_streams.proofs.CallerLemmas.{puts_then, puts_stop, puts_as}
use Rattle.cycle_sender.proofs.Sending.{packs_group, counts_group}
use Rattle.cycle_sender.proofs.sender.Sender.send_group.Goals as goal

pub returns-in_err-send_cycle-clause-mux : goal.returns-in_err-send_cycle-clause-mux
returns-in_err-send_cycle-clause-mux g c =
    let p = err_from_is_err_and c.from_residual.result c.from_residual.ensures.1 in
    rw p.1 tt

pub returns-in_err-send_cycle-clause-puts : goal.returns-in_err-send_cycle-clause-puts
returns-in_err-send_cycle-clause-puts g c =
    let p = err_from_is_err_and c.from_residual.result c.from_residual.ensures.1 in
    let cycle = map (section_of c.args.generation.now) (cycle_of c.args.weigh.now.weights (lines_of c.args.generation.now)) in
    let start = c.args.self.now.mux in
    rw (p.1, p.2) (puts_as (packs_group start (fold past start cycle) cycle c.requires.between c.requires.like refl) (puts_stop _ c.in_err-send_cycle.ensures.puts))

pub returns-clause-puts : goal.returns-clause-puts
returns-clause-puts g c =
    let cycle = map (section_of c.args.generation.now) (cycle_of c.args.weigh.now.weights (lines_of c.args.generation.now)) in
    puts_as (packs_group c.args.self.now.mux c.send_cycle.new.self.mux cycle c.requires.between c.requires.like c.in_ok-send_cycle.ensures.mux) (puts_then c.in_ok-send_cycle.ensures.puts c.finish.ensures.puts)

pub returns-clause-mux : goal.returns-clause-mux
returns-clause-mux g c =
    let cycle = map (section_of c.args.generation.now) (cycle_of c.args.weigh.now.weights (lines_of c.args.generation.now)) in
    rw (counts_group c.args.self.now.mux c.send_cycle.new.self.mux cycle c.requires.between c.requires.like c.in_ok-send_cycle.ensures.mux) at c.finish.ensures.mux
