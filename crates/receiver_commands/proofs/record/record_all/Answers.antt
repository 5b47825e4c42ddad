use Rattle.std.proofs.Common.{◌++◌, [], ap, arith, map, Ok, Err, refl, sym, append-nil}
use Rattle.std.proofs.lemmas.Result.{err_from_is_err_and}
use Rattle.section_stream.specs.Kept.{view_bytes}
use Rattle.shell_streams.specs.declared.input.InputFault.TheVariants as inputs
use Rattle.shell_streams.proofs.CallerLemmas.{puts_nothing, puts_then, puts_as, rose_last, reader_stopped, reader_taken, taken_stopped}
use Rattle.receiver_commands.specs.Accepted.{accepted_bytes}
use Rattle.receiver_commands.proofs.Recording.{accepted-append}
use Rattle.receiver_commands.proofs.Streaming.{first_none, first_halted, first_ended, as_none, as_read, as_put, as_all}
use Rattle.receiver_commands.proofs.Writing.{writes_prefix}
use Rattle.receiver_commands.proofs.record.record_all.Goals as goal

pub returns-in_err-reader-clause-records : goal.returns-in_err-reader-clause-records
returns-in_err-reader-clause-records g c =
    let p = err_from_is_err_and c.from_residual.result c.from_residual.ensures.1 in
    rw (p.1, p.2) (as_none c.args.pid accepted_bytes _ (g.O.Output.state c.args.out.now) (first_none c.args.pid _))

pub loop-reader-init : goal.loop-reader-init
loop-reader-init g c = record {
  candidates = [];
  cut = c.in_ok-reader.ensures _;
  puts = puts_nothing tt _;
  due = λ _. c.requires;
  later = omega arith;
}

pub returns-in_err-candidates-clause-records : goal.returns-in_err-candidates-clause-records
returns-in_err-candidates-clause-records g c =
    let p = err_from_is_err_and c.from_residual-in_err-candidates.result c.from_residual-in_err-candidates.ensures.1 in
    rw (p.1, p.2) (as_read c.args.pid accepted_bytes _ _ _ c.loop-reader.invariant.candidates _ c.candidates_grow.ensures
    (c.in_err-candidates.ensures.stopped c.args.pid _ c.loop-reader.invariant.candidates c.loop-reader.invariant.cut)
    (λ e. rose_last c.loop-reader.invariant.later (c.in_err-candidates.ensures.read_fault e)) c.requires (λ n. c.loop-reader.invariant.due (c.in_err-candidates.ensures.needed n)) c.loop-reader.invariant.puts)

pub returns-in_err-put_accepted-clause-records : goal.returns-in_err-put_accepted-clause-records
returns-in_err-put_accepted-clause-records g c =
    let p = err_from_is_err_and c.from_residual-in_err-put_accepted.result c.from_residual-in_err-put_accepted.ensures.1 in
    let next = rw c.in-Some.is at c.in_ok-candidates.ensures.next in
    let cut = next c.args.pid _ c.loop-reader.invariant.candidates c.loop-reader.invariant.cut in
    let all = puts_as (sym (accepted-append c.loop-reader.invariant.candidates (map view_bytes c.in-Some.candidates.items)))
    (puts_then c.loop-reader.invariant.puts (rw c.deref.ensures.value at c.in_err-put_accepted.ensures)) in
    rw (p.1, p.2) (as_put c.args.pid accepted_bytes _ _ (c.loop-reader.invariant.candidates ++ map view_bytes c.in-Some.candidates.items) _
    (first_halted c.candidates_grow.ensures (reader_stopped inputs.NoMemory cut
    (taken_stopped c.next.new.self.most c.next.new.self.unread c.next.new.self.unread _ _ _ cut.packets inputs.NoMemory (λ e. cc) (λ e. absurd (cc)) refl (reader_taken cut))))
    (λ e. all.cause (ap Err e)) (writes_prefix c.requires all))

pub returns-in_err-write_before_reading-clause-records : goal.returns-in_err-write_before_reading-clause-records
returns-in_err-write_before_reading-clause-records g c =
    let p = err_from_is_err_and c.from_residual-in_err-write_before_reading.result c.from_residual-in_err-write_before_reading.ensures.1 in
    let next = rw c.in-Some.is at c.in_ok-candidates.ensures.next in
    let cut = next c.args.pid _ c.loop-reader.invariant.candidates c.loop-reader.invariant.cut in
    let put = puts_as (sym (accepted-append c.loop-reader.invariant.candidates (map view_bytes c.in-Some.candidates.items)))
    (puts_then c.loop-reader.invariant.puts (rw c.deref.ensures.value at c.in_ok-put_accepted.ensures)) in
    let all = puts_as (append-nil _) (puts_then put c.in_err-write_before_reading.ensures.puts) in
    rw (p.1, p.2) (as_put c.args.pid accepted_bytes _ _ (c.loop-reader.invariant.candidates ++ map view_bytes c.in-Some.candidates.items) _
    (first_halted c.candidates_grow.ensures (reader_stopped inputs.NoMemory cut
    (taken_stopped c.next.new.self.most c.next.new.self.unread c.next.new.self.unread _ _ _ cut.packets inputs.NoMemory (λ e. cc) (λ e. absurd (cc)) refl (reader_taken cut))))
    (λ e. all.cause (ap Err e)) (writes_prefix c.requires all))

pub loop-reader-preserved : goal.loop-reader-preserved
loop-reader-preserved g c =
    let next = rw c.in-Some.is at c.in_ok-candidates.ensures.next in
    record {
      candidates = c.loop-reader.invariant.candidates ++ map view_bytes c.in-Some.candidates.items;
      cut = next c.args.pid _ c.loop-reader.invariant.candidates c.loop-reader.invariant.cut;
      puts = puts_as (append-nil _) (puts_then
          (puts_as (sym (accepted-append c.loop-reader.invariant.candidates (map view_bytes c.in-Some.candidates.items)))
          (puts_then c.loop-reader.invariant.puts (rw c.deref.ensures.value at c.in_ok-put_accepted.ensures)))
          c.in_ok-write_before_reading.ensures.puts);
      due = c.in_ok-write_before_reading.ensures.due;
      later = omega (arith, c.loop-reader.invariant.later, c.next.ensures.later);
    }

pub returns-in_err-flush-clause-records : goal.returns-in_err-flush-clause-records
returns-in_err-flush-clause-records g c =
    let p = err_from_is_err_and c.from_residual-in_err-flush.result c.from_residual-in_err-flush.ensures.1 in
    let all = puts_as (append-nil _) (puts_then c.loop-reader.invariant.puts c.in_err-flush.ensures.puts) in
    rw (p.1, p.2) (as_put c.args.pid accepted_bytes _ _ c.loop-reader.invariant.candidates _
    (first_ended (c.in_ok-candidates.ensures.ended (ap Ok c.in_default.is) c.args.pid _ c.loop-reader.invariant.candidates c.loop-reader.invariant.cut))
    (λ e. all.cause (ap Err e)) (writes_prefix c.requires all))

pub returns-clause-records : goal.returns-clause-records
returns-clause-records g c =
    as_all c.args.pid accepted_bytes _ _ _ c.loop-reader.invariant.candidates
    (c.in_ok-candidates.ensures.ended (ap Ok c.in_default.is) c.args.pid _ c.loop-reader.invariant.candidates c.loop-reader.invariant.cut)
    c.requires c.in_ok-flush.ensures.empty (puts_as (append-nil _) (puts_then c.loop-reader.invariant.puts c.in_ok-flush.ensures.puts))

pub returns-in_err-put_accepted-clause-in_time : goal.returns-in_err-put_accepted-clause-in_time
returns-in_err-put_accepted-clause-in_time g c = (puts_then c.loop-reader.invariant.puts c.in_err-put_accepted.ensures).in_time

pub returns-in_err-flush-clause-in_time : goal.returns-in_err-flush-clause-in_time
returns-in_err-flush-clause-in_time g c = (puts_then c.loop-reader.invariant.puts c.in_err-flush.ensures.puts).in_time

pub returns-clause-in_time : goal.returns-clause-in_time
returns-clause-in_time g c = (puts_then c.loop-reader.invariant.puts c.in_ok-flush.ensures.puts).in_time

pub returns-in_err-write_before_reading-clause-in_time : goal.returns-in_err-write_before_reading-clause-in_time
returns-in_err-write_before_reading-clause-in_time g c =
    (puts_then (puts_then c.loop-reader.invariant.puts c.in_ok-put_accepted.ensures) c.in_err-write_before_reading.ensures.puts).in_time
