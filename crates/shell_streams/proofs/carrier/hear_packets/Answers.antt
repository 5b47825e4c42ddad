use Rattle.std.proofs.Common.{◌++◌, ap, arith, map, Ok}
use Rattle.std.proofs.lemmas.Result.{err_from_is_err_and}
use Rattle.section_stream.specs.Kept.{view_bytes}
use Rattle.shell_streams.specs.declared.input.InputFault.TheVariants as inputs
use Rattle.shell_streams.proofs.Putting.{rose_last}
use Rattle.shell_streams.proofs.Halting.{halted, halted_here}
use Rattle.shell_streams.proofs.Hearing.{hears_end, hears_fault}
use Rattle.shell_streams.proofs.carrier.hear_packets.Goals as goal

pub returns-in_err-sections : goal.returns-in_err-sections
returns-in_err-sections g c =
    let p = err_from_is_err_and c.from_residual-in_err-sections.result c.from_residual-in_err-sections.ensures.1 in
    rw (p.1, p.2) (hears_fault _ (halted (c.in_err-sections.ensures.stopped c.args.pid _ c.loop-reader.invariant.sections c.loop-reader.invariant.cut))
    (omega (arith, c.loop-reader.invariant.later, c.next.ensures.later)) (λ e. rose_last c.loop-reader.invariant.later (c.in_err-sections.ensures.read_fault e)))

pub returns-in_err-hear_each : goal.returns-in_err-hear_each
returns-in_err-hear_each g c =
    let p = err_from_is_err_and c.from_residual-in_err-hear_each.result c.from_residual-in_err-hear_each.ensures.1 in
    let cut = rw c.in-Some.is at c.in_ok-sections.ensures.next in
    rw (p.1, p.2) (hears_fault inputs.NoMemory (halted_here inputs.NoMemory (λ e. cc) (cut c.args.pid _ c.loop-reader.invariant.sections c.loop-reader.invariant.cut))
    (omega (arith, c.loop-reader.invariant.later, c.next.ensures.later)) (λ e. absurd (cc)))

pub loop-reader-preserved : goal.loop-reader-preserved
loop-reader-preserved g c =
    let cut = rw c.in-Some.is at c.in_ok-sections.ensures.next in
    record {
      sections = c.loop-reader.invariant.sections ++ map view_bytes c.in-Some.sections.items;
      cut = cut c.args.pid _ c.loop-reader.invariant.sections c.loop-reader.invariant.cut;
      heard = rw c.deref.ensures.value at (c.in_ok-hear_each.ensures _ c.loop-reader.invariant.sections c.loop-reader.invariant.heard);
      later = omega (arith, c.loop-reader.invariant.later, c.in_ok-sections.ensures.later);
    }

pub returns : goal.returns
returns g c = hears_end (record {
  taken = c.loop-reader.invariant.sections;
  told = c.in_ok-sections.ensures.ended (ap Ok c.in_default.is) c.args.pid _ c.loop-reader.invariant.sections c.loop-reader.invariant.cut;
  heard = c.loop-reader.invariant.heard;
}) (omega (arith, c.loop-reader.invariant.later, c.next.ensures.later))
