use Rattle.std.proofs.Common.{◌++◌, [], ap, arith, map, Ok, Err, refl}
use Rattle.std.proofs.lemmas.Result.{err_from_is_err_and}
use Rattle.section_stream.specs.Kept.{view_bytes}
use Rattle.shell_streams.specs.declared.input.InputFault.TheVariants as inputs
use Rattle.shell_streams.proofs.CallerLemmas.{puts_nothing, puts_then, puts_as, rose_last, reader_stopped, reader_taken, taken_stopped}
use Rattle.watch_desk.specs.Prefixes.{prefixes_of}
use Rattle.receiver_commands.specs.Watch.{watched_paths, first_watchers, text_for}
use Rattle.receiver_commands.proofs.Telling.{text_behind}
use Rattle.receiver_commands.proofs.Streaming.{first_none, first_halted, as_none, as_read, as_put, as_all}
use Rattle.receiver_commands.proofs.Writing.{writes_prefix}
use Rattle.receiver_commands.proofs.watch.watch_all.Goals as goal

pub returns-in_err-watcher-clause-watches : goal.returns-in_err-watcher-clause-watches
returns-in_err-watcher-clause-watches g c =
    let p = err_from_is_err_and c.from_residual.result c.from_residual.ensures.1 in
    rw (p.1, p.2) (as_none c.args.pid (text_for (prefixes_of c.args.filters.items) c.args.paths.now) _ (g.O.Output.state c.args.out.now) (first_none c.args.pid _))

pub returns-in_err-reader-clause-watches : goal.returns-in_err-reader-clause-watches
returns-in_err-reader-clause-watches g c =
    let p = err_from_is_err_and c.from_residual-in_err-reader.result c.from_residual-in_err-reader.ensures.1 in
    rw (p.1, p.2) (as_none c.args.pid (text_for (prefixes_of c.args.filters.items) c.args.paths.now) _ (g.O.Output.state c.args.out.now) (first_none c.args.pid _))

pub loop-reader-init : goal.loop-reader-init
loop-reader-init g c = record {
  candidates = [];
  cut = c.in_ok-reader.ensures _;
  stands = c.in_ok-watcher.ensures;
  puts = puts_nothing tt _;
  empty = c.requires.pending;
  later = omega arith;
}

pub returns-in_err-candidates-clause-watches : goal.returns-in_err-candidates-clause-watches
returns-in_err-candidates-clause-watches g c =
    let p = err_from_is_err_and c.from_residual-in_err-candidates.result c.from_residual-in_err-candidates.ensures.1 in
    let inv = c.loop-reader.invariant in
    rw (p.1, p.2) (as_read c.args.pid (text_for (prefixes_of c.args.filters.items) c.args.paths.now) _ _ _ inv.candidates _ c.candidates_grow.ensures
    (c.in_err-candidates.ensures.stopped c.args.pid _ inv.candidates inv.cut)
    (λ e. rose_last inv.later (c.in_err-candidates.ensures.read_fault e)) c.requires.pending (λ _. inv.empty) inv.puts)

pub returns-in_err-hear_all-clause-watches : goal.returns-in_err-hear_all-clause-watches
returns-in_err-hear_all-clause-watches g c =
    let p = err_from_is_err_and c.from_residual-in_err-hear_all.result c.from_residual-in_err-hear_all.ensures.1 in
    let inv = c.loop-reader.invariant in
    let prefixes = prefixes_of c.args.filters.items in
    let paths = watched_paths c.args.paths.now in
    let next = rw c.in-Some.is at c.in_ok-candidates.ensures.next in
    let cut = next c.args.pid _ inv.candidates inv.cut in
    let all = puts_as (text_behind paths (first_watchers prefixes) inv.candidates (map view_bytes c.in-Some.candidates.items))
    (puts_then inv.puts (rw c.deref.ensures.value at (c.in_err-hear_all.ensures.puts paths (first_watchers prefixes) inv.candidates inv.stands))) in
    rw (p.1, p.2) (as_put c.args.pid (text_for prefixes c.args.paths.now) _ _ (inv.candidates ++ map view_bytes c.in-Some.candidates.items) _
    (first_halted c.candidates_grow.ensures (reader_stopped inputs.NoMemory cut
    (taken_stopped c.next.new.self.most c.next.new.self.unread c.next.new.self.unread _ _ _ cut.packets inputs.NoMemory (λ e. cc) (λ e. absurd (cc)) refl (reader_taken cut))))
    (λ e. all.cause (ap Err e)) (writes_prefix c.requires.pending all))

pub loop-reader-preserved : goal.loop-reader-preserved
loop-reader-preserved g c =
    let inv = c.loop-reader.invariant in
    let prefixes = prefixes_of c.args.filters.items in
    let paths = watched_paths c.args.paths.now in
    let next = rw c.in-Some.is at c.in_ok-candidates.ensures.next in
    record {
      candidates = inv.candidates ++ map view_bytes c.in-Some.candidates.items;
      cut = next c.args.pid _ inv.candidates inv.cut;
      stands = rw c.deref.ensures.value at (c.in_ok-hear_all.ensures.stands paths (first_watchers prefixes) inv.candidates inv.stands);
      puts = puts_as (text_behind paths (first_watchers prefixes) inv.candidates (map view_bytes c.in-Some.candidates.items))
          (puts_then inv.puts (rw c.deref.ensures.value at (c.in_ok-hear_all.ensures.puts paths (first_watchers prefixes) inv.candidates inv.stands)));
      empty = c.in_ok-hear_all.ensures.empty;
      later = omega (arith, inv.later, c.next.ensures.later);
    }

pub returns-clause-watches : goal.returns-clause-watches
returns-clause-watches g c =
    let inv = c.loop-reader.invariant in
    as_all c.args.pid (text_for (prefixes_of c.args.filters.items) c.args.paths.now) _ _ _ inv.candidates
    (c.in_ok-candidates.ensures.ended (ap Ok c.in_default.is) c.args.pid _ inv.candidates inv.cut) c.requires.pending inv.empty inv.puts

pub returns-in_err-hear_all-clause-same : goal.returns-in_err-hear_all-clause-same
returns-in_err-hear_all-clause-same g c =
    let inv = c.loop-reader.invariant in
    (puts_then inv.puts (c.in_err-hear_all.ensures.puts (watched_paths c.args.paths.now) (first_watchers (prefixes_of c.args.filters.items)) inv.candidates inv.stands)).same

pub returns-in_err-hear_all-clause-in_time : goal.returns-in_err-hear_all-clause-in_time
returns-in_err-hear_all-clause-in_time g c =
    let inv = c.loop-reader.invariant in
    (puts_then inv.puts (c.in_err-hear_all.ensures.puts (watched_paths c.args.paths.now) (first_watchers (prefixes_of c.args.filters.items)) inv.candidates inv.stands)).in_time
