use Rattle.std.proofs.Common.{◌≤◌, ◌++◌, take, length, refl, arith, sym, ap, subst, Option}
use Rattle.std.proofs.lemmas.Result.{err_from_is_err_and}
use Rattle.oc_bytes.specs.Outcome.{Known}
use Rattle.shell_streams.specs.Cuts.{Bytes}
use Rattle.shell_streams.specs.declared.input.InputFault.TheVariants as inputs
use Rattle.shell_streams.proofs.Putting.{told_same, rose_last}
use Rattle.shell_streams.proofs.Gathering.{TakenFirst, taken_more, taken_all, taken_stop, taken_over, gathered, gathered_length}
use Rattle.shell_streams.proofs.whole.read_all.Goals as goal

pub loop-bytes-init : goal.loop-bytes-init
loop-bytes-init g c = record {
  room = c.in_ok-piece.ensures.len;
  within = omega (arith, ap length c.new-bytes.ensures.items);
  taken = rw c.new-bytes.ensures.items (told_same (g.S.Source.left c.args.source.now) (λ x. refl));
  later = omega arith;
}

pub returns-in_err-read-clause-stopped : goal.returns-in_err-read-clause-stopped
returns-in_err-read-clause-stopped g c =
    let p = err_from_is_err_and c.from_residual-in_err-read.result c.from_residual-in_err-read.ensures.1 in
    let P : Option Bytes → Type 0 = λ left. Known (g.S.Source.left c.args.source.now) left (TakenFirst c.loop-bytes.bytes.items) in
    rw (p.1, p.2) (taken_stop inputs.Failed c.loop-bytes.bytes.items c.args.most (λ e. cc) (subst P (sym c.in_err-read.ensures.nothing) c.loop-bytes.invariant.taken))

pub returns-in_err-read-clause-cause : goal.returns-in_err-read-clause-cause
returns-in_err-read-clause-cause g c = λ _. rose_last c.loop-bytes.invariant.later c.in_err-read.ensures.cause

pub returns-then-read-eq0-clause-whole : goal.returns-then-read-eq0-clause-whole
returns-then-read-eq0-clause-whole g c = taken_all c.loop-bytes.bytes.items _ c.in_ok-read.read c.args.most c.if-read-eq0.true c.loop-bytes.invariant.within c.loop-bytes.invariant.taken c.in_ok-read.ensures.read

pub returns-then-read-most-clause-stopped : goal.returns-then-read-most-clause-stopped
returns-then-read-most-clause-stopped g c =
    taken_over c.loop-bytes.bytes.items _ c.in_ok-read.read c.args.most c.loop-bytes.invariant.within (omega (arith, c.if-read-most.true, c.len.ensures)) c.loop-bytes.invariant.taken c.in_ok-read.ensures.read

pub loop-bytes-preserved : goal.loop-bytes-preserved
loop-bytes-preserved g c =
    let more = taken_more c.loop-bytes.bytes.items _ c.in_ok-read.read c.loop-bytes.invariant.taken c.in_ok-read.ensures.read in
    let held : c.in_ok-read.read ≤ length c.read.new.into = omega (arith, c.in_ok-read.ensures.within, c.read.auto.into) in
    let new = gathered c.loop-bytes.bytes.items _ _ c.read.new.into _ c.in_ok-read.read _ c.in_ok-extend_from_slice.ensures.items c.deref.ensures.value (omega (arith, c.in_ok-read.ensures.within, c.deref_mut.ensures.len)) held in
    record {
      room = c.loop-bytes.invariant.room;
      within = rw new (gathered_length c.loop-bytes.bytes.items c.read.new.into c.in_ok-read.read c.args.most c.loop-bytes.invariant.within (omega (arith, c.if-read-most.false, c.len.ensures)));
      taken = rw new more;
      later = omega (arith, c.loop-bytes.invariant.later, c.in_ok-read.ensures.later);
    }

pub returns-in_err-extend_from_slice-clause-stopped : goal.returns-in_err-extend_from_slice-clause-stopped
returns-in_err-extend_from_slice-clause-stopped g c =
    let p = err_from_is_err_and c.from_residual-in_err-extend_from_slice.result c.from_residual-in_err-extend_from_slice.ensures.1 in
    let more = taken_more c.loop-bytes.bytes.items _ c.in_ok-read.read c.loop-bytes.invariant.taken c.in_ok-read.ensures.read in
    rw (p.1, p.2) (taken_stop inputs.NoMemory (c.loop-bytes.bytes.items ++ take c.in_ok-read.read c.read.new.into) c.args.most (λ e. cc) more)
