use Rattle.std.proofs.Common.{◌≡◌, map, arith, refl, ◌∙◌, append-nil}
use Rattle.std.specs.List.{fold}
use Rattle.std.proofs.lemmas.Result.{err_from_is_err_and}
use Rattle.cycle_planner.specs.Cycle.{cycle_of}
use Rattle.generation.specs.Layouts.{lines_of, section_of}
use Rattle.carousel_world.specs.Publishing.{repeat_list}
use Rattle.shell_streams.proofs.CallerLemmas.{puts_nothing, puts_then, puts_stop, puts_as}
use Rattle.section_stream.specs.Packing.{idle, past}
use Rattle.section_stream.proofs.CallerLemmas.{between_idle}
use Rattle.cycle_sender.proofs.CallerLemmas.{packs_group}
use Rattle.shell_commands.proofs.Cycling.{packs_cycle, counts_cycle, packs_cycles, packs_end, like_cycles}
use Rattle.shell_commands.proofs.publish.send.Goals as goal

pub loop-init : goal.loop-init
loop-init g c = record { puts = puts_nothing tt _; mux = c.new-sender.ensures }

pub returns-in_err-send_cycle-clause-puts : goal.returns-in_err-send_cycle-clause-puts
returns-in_err-send_cycle-clause-puts g c =
    let p = err_from_is_err_and c.from_residual.result c.from_residual.ensures.1 in
    let gen = c.args.generation.now in
    let start = idle c.args.pid 0 in
    let all = map (section_of gen) (repeat_list c.args.cycles (cycle_of c.args.weigh.now.weights (lines_of gen))) in
    rw (p.1, p.2) (puts_as (packs_group start (fold past start all) all (between_idle c.args.pid 0) (like_cycles (section_of gen) c.args.cycles (cycle_of c.args.weigh.now.weights (lines_of gen)) c.requires.like) refl) (puts_stop {T = Unit {0}} _
    (puts_as (packs_cycles (section_of gen) start (cycle_of c.args.weigh.now.weights (lines_of gen)) c.loop.counter c.args.cycles c.loop-test.true) (puts_stop _
    (puts_as (packs_cycle (section_of gen) start c.loop.sender.mux (cycle_of c.args.weigh.now.weights (lines_of gen)) c.loop.counter c.loop.invariant.mux)
    (puts_then c.loop.invariant.puts c.in_err-send_cycle.ensures.puts))))))

pub loop-preserved : goal.loop-preserved
loop-preserved g c =
    let gen = c.args.generation.now in
    let start = idle c.args.pid 0 in
    record {
      puts = puts_as (packs_cycle (section_of gen) start c.loop.sender.mux (cycle_of c.args.weigh.now.weights (lines_of gen)) c.loop.counter c.loop.invariant.mux)
          (puts_then c.loop.invariant.puts c.in_ok-send_cycle.ensures.puts);
      mux = c.in_ok-send_cycle.ensures.mux ∙ counts_cycle (section_of gen) start c.loop.sender.mux (cycle_of c.args.weigh.now.weights (lines_of gen)) c.loop.counter c.loop.invariant.mux;
    }

pub returns-in_err-finish-clause-puts : goal.returns-in_err-finish-clause-puts
returns-in_err-finish-clause-puts g c =
    let p = err_from_is_err_and c.from_residual-in_err-finish.result c.from_residual-in_err-finish.ensures.1 in
    let gen = c.args.generation.now in
    let start = idle c.args.pid 0 in
    let all : c.loop.counter ≡ c.args.cycles = omega (arith, c.loop-test.false, c.loop.auto.counter-end) in
    rw (p.1, p.2) (puts_as (packs_end (section_of gen) start c.loop.sender.mux (cycle_of c.args.weigh.now.weights (lines_of gen)) c.loop.counter c.args.cycles (between_idle c.args.pid 0) c.requires.like all c.loop.invariant.mux)
    (puts_then c.loop.invariant.puts c.in_err-finish.ensures.puts))

pub returns-clause-puts : goal.returns-clause-puts
returns-clause-puts g c =
    let gen = c.args.generation.now in
    let start = idle c.args.pid 0 in
    let all : c.loop.counter ≡ c.args.cycles = omega (arith, c.loop-test.false, c.loop.auto.counter-end) in
    puts_as (append-nil _ ∙ packs_end (section_of gen) start c.loop.sender.mux (cycle_of c.args.weigh.now.weights (lines_of gen)) c.loop.counter c.args.cycles (between_idle c.args.pid 0) c.requires.like all c.loop.invariant.mux)
    (puts_then (puts_then c.loop.invariant.puts c.in_ok-finish.ensures.puts) c.flush.ensures.puts)
