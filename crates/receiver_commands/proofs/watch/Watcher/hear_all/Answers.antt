use Rattle.std.proofs.Common.{◌≡◌, ◌+◌, ◌++◌, map, take, arith, ap, append-nil}
use Rattle.std.proofs.lemmas.Result.{err_from_is_err_and}
use Rattle.std.proofs.lemmas.List.{take_all}
use Rattle.section_stream.specs.Kept.{view_bytes}
use Rattle.shell_streams.proofs.CallerLemmas.{puts_nothing, puts_then, puts_stop, puts_as}
use Rattle.receiver_commands.specs.Inner.Watching.{lines_behind}
use Rattle.receiver_commands.proofs.Telling.{heard_next, lines_next, lines_split}
use Rattle.receiver_commands.proofs.watch.Watcher.hear_all.Goals as goal

pub loop-candidate-init : goal.loop-candidate-init
loop-candidate-init g c = record {
  puts = λ paths prefixes before st. puts_nothing tt _;
  stands = λ paths prefixes before st. rw (append-nil before) st;
  empty = c.requires;
}

pub returns-in_err-hear-clause-puts : goal.returns-in_err-hear-clause-puts
returns-in_err-hear-clause-puts g c = λ paths prefixes before st.
    let p = err_from_is_err_and c.from_residual.result c.from_residual.ensures.1 in
    let inv = c.loop-candidate.invariant in
    let i = c.loop-candidate.candidate-index in
    let candidates = c.args.candidates.now in
    rw (p.1, p.2) (puts_as (lines_split view_bytes paths prefixes before candidates (i + 1)) (puts_stop _
    (puts_as (lines_next view_bytes before candidates i c.candidate-item.result c.deref.result.now c.loop-candidate-test.true c.candidate-item.is c.deref.ensures.value paths prefixes)
    (puts_then (inv.puts paths prefixes before st) (c.in_err-hear.ensures.puts paths prefixes (before ++ map view_bytes (take i candidates)) (inv.stands paths prefixes before st))))))

pub loop-candidate-preserved : goal.loop-candidate-preserved
loop-candidate-preserved g c =
    let inv = c.loop-candidate.invariant in
    let i = c.loop-candidate.candidate-index in
    let candidates = c.args.candidates.now in
    record {
      puts = λ paths prefixes before st.
          puts_as (lines_next view_bytes before candidates i c.candidate-item.result c.deref.result.now c.loop-candidate-test.true c.candidate-item.is c.deref.ensures.value paths prefixes)
          (puts_then (inv.puts paths prefixes before st) (c.in_ok-hear.ensures.puts paths prefixes (before ++ map view_bytes (take i candidates)) (inv.stands paths prefixes before st)));
      stands = λ paths prefixes before st.
          rw (heard_next view_bytes before candidates i c.candidate-item.result c.deref.result.now c.loop-candidate-test.true c.candidate-item.is c.deref.ensures.value)
          at (c.in_ok-hear.ensures.stands paths prefixes (before ++ map view_bytes (take i candidates)) (inv.stands paths prefixes before st));
      empty = c.in_ok-hear.ensures.empty;
    }

pub returns-clause-puts : goal.returns-clause-puts
returns-clause-puts g c = λ paths prefixes before st.
    let all : take c.loop-candidate.candidate-index c.args.candidates.now ≡ c.args.candidates.now = take_all c.loop-candidate.candidate-index c.args.candidates.now (omega (arith, c.loop-candidate-test.false)) in
    puts_as (ap (λ vs. lines_behind paths prefixes before (map view_bytes vs)) all) (c.loop-candidate.invariant.puts paths prefixes before st)

pub returns-clause-stands : goal.returns-clause-stands
returns-clause-stands g c = λ paths prefixes before st.
    let all : take c.loop-candidate.candidate-index c.args.candidates.now ≡ c.args.candidates.now = take_all c.loop-candidate.candidate-index c.args.candidates.now (omega (arith, c.loop-candidate-test.false)) in
    rw all at (c.loop-candidate.invariant.stands paths prefixes before st)

pub returns-clause-empty : goal.returns-clause-empty
returns-clause-empty g c = c.loop-candidate.invariant.empty
