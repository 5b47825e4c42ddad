use Rattle.std.proofs.Common.{◌≡◌, map, arith, ap, ◌∙◌, sym, subst, append-nil}
use Rattle.std.specs.List.{concat}
use Rattle.std.proofs.lemmas.Result.{err_from_is_err_and}
use Rattle.cycle_planner.specs.Cycle.{cycle_of}
use Rattle.generation.specs.Layouts.{lines_of, section_of}
use Rattle.section_stream.specs.Groups.{IsBetween}
use Rattle.section_stream.proofs.CallerLemmas.{between_idle}
use Rattle.shell_streams.proofs.CallerLemmas.{puts_nothing, puts_none, puts_then, puts_stop, puts_as}
use Rattle.shell_commands.specs.Announced.{cycles_sent, senders_start}
use Rattle.shell_commands.proofs.Announcing.{cycle_more, tables_then, tables_more, objects_more, objects_between, cycles_all}
use Rattle.shell_commands.proofs.publish_psi.send_announced.Goals as goal

pub returns-in_err-announcer-clause-puts : goal.returns-in_err-announcer-clause-puts
returns-in_err-announcer-clause-puts g c =
    let p = err_from_is_err_and c.from_residual.result c.from_residual.ensures.1 in
    rw (p.1, p.2) (puts_none _ _)

pub loop-init : goal.loop-init
loop-init g c = record { puts = puts_nothing tt _; tables = c.in_ok-announcer.ensures; objects = c.new-sender.ensures }

pub returns-in_err-announce-clause-puts : goal.returns-in_err-announce-clause-puts
returns-in_err-announce-clause-puts g c =
    let p = err_from_is_err_and c.from_residual-in_err-announce.result c.from_residual-in_err-announce.ensures.1 in
    let cycle = map (section_of c.args.generation.now) (cycle_of c.args.weigh.now.weights (lines_of c.args.generation.now)) in
    let start = senders_start c.args.carousel in
    rw (p.1, p.2) (puts_as (cycles_all cycle c.loop.counter c.args.cycles start c.loop-test.true) (puts_stop {T = Unit {0}} _
    (puts_as (tables_then cycle c.loop.counter start c.loop.announcer c.loop.invariant.tables) (puts_stop _ (puts_then c.loop.invariant.puts c.in_err-announce.ensures.puts)))))

pub send_group-requires-clause-between : goal.send_group-requires-clause-between
send_group-requires-clause-between g c =
    let cycle = map (section_of c.args.generation.now) (cycle_of c.args.weigh.now.weights (lines_of c.args.generation.now)) in
    subst IsBetween (sym c.loop.invariant.objects) (objects_between cycle c.loop.counter (senders_start c.args.carousel) (between_idle 256 0))

pub returns-in_err-send_group-clause-puts : goal.returns-in_err-send_group-clause-puts
returns-in_err-send_group-clause-puts g c =
    let p = err_from_is_err_and c.from_residual-in_err-send_group.result c.from_residual-in_err-send_group.ensures.1 in
    let cycle = map (section_of c.args.generation.now) (cycle_of c.args.weigh.now.weights (lines_of c.args.generation.now)) in
    let start = senders_start c.args.carousel in
    rw (p.1, p.2) (puts_as (cycles_all cycle c.loop.counter c.args.cycles start c.loop-test.true) (puts_stop _
    (puts_as (cycle_more cycle c.loop.counter start c.loop.announcer c.loop.sender.mux c.loop.invariant.tables c.loop.invariant.objects)
    (puts_then (puts_then c.loop.invariant.puts c.in_ok-announce.ensures.puts) c.in_err-send_group.ensures.puts))))

pub loop-preserved : goal.loop-preserved
loop-preserved g c =
    let cycle = map (section_of c.args.generation.now) (cycle_of c.args.weigh.now.weights (lines_of c.args.generation.now)) in
    let start = senders_start c.args.carousel in
    record {
      puts = puts_as (cycle_more cycle c.loop.counter start c.loop.announcer c.loop.sender.mux c.loop.invariant.tables c.loop.invariant.objects)
          (puts_then (puts_then c.loop.invariant.puts c.in_ok-announce.ensures.puts) c.in_ok-send_group.ensures.puts);
      tables = c.in_ok-announce.ensures.counters ∙ tables_more cycle c.loop.counter start c.loop.announcer c.loop.invariant.tables;
      objects = c.in_ok-send_group.ensures.mux ∙ objects_more cycle c.loop.counter start c.loop.sender.mux c.loop.invariant.objects;
    }

pub returns-clause-puts : goal.returns-clause-puts
returns-clause-puts g c =
    let cycle = map (section_of c.args.generation.now) (cycle_of c.args.weigh.now.weights (lines_of c.args.generation.now)) in
    let all : c.loop.counter ≡ c.args.cycles = omega (arith, c.loop-test.false, c.loop.auto.counter-end) in
    puts_as (append-nil _ ∙ ap (λ k. concat (cycles_sent cycle k (senders_start c.args.carousel))) all) (puts_then c.loop.invariant.puts c.flush.ensures.puts)
