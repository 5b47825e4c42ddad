use Rattle.std.proofs.Common.{◌≡◌, ◌++◌, ◌∷◌, [], take, length, Ok, ap, ◌∙◌, arith}
use Rattle.std.proofs.lemmas.Result.{err_from_is_err_and}
use Rattle.carousel_profile.specs.declared.TheConstants.{PACKET_LENGTH}
use Rattle.shell_streams.specs.declared.input.InputFault.TheVariants as inputs
use Rattle.shell_streams.proofs.Putting.{rose_last}
use Rattle.shell_streams.proofs.Packeting.{taken_begin, taken_more, taken_stopped, stops_stopped}
use Rattle.shell_streams.proofs.Hearing.{hears_end, hears_fault}
use Rattle.shell_streams.proofs.Resting.{rest_held}
use Rattle.shell_streams.proofs.every_packet.hear_packets_and_rest.Goals as goal

pub loop-unread-init : goal.loop-unread-init
loop-unread-init g c = record { packets = []; taken = taken_begin _ _ c.in_ok-unread.ensures; heard = c.requires; later = omega arith }

pub returns-in_err-has_next-clause-hears : goal.returns-in_err-has_next-clause-hears
returns-in_err-has_next-clause-hears g c =
    let p = err_from_is_err_and c.from_residual-in_err-has_next.result c.from_residual-in_err-has_next.ensures.1 in
    let inv = c.loop-unread.invariant in
    rw (p.1, p.2) (hears_fault _ (stops_stopped (c.in_err-has_next.ensures.stopped _ inv.packets inv.taken))
    (omega (arith, inv.later, c.has_next.ensures.later)) (λ e. rose_last inv.later (c.in_err-has_next.ensures.read_fault e)))

pub returns-in_err-hear-clause-hears : goal.returns-in_err-hear-clause-hears
returns-in_err-hear-clause-hears g c =
    let p = err_from_is_err_and c.from_residual-in_err-hear.result c.from_residual-in_err-hear.ensures.1 in
    let inv = c.loop-unread.invariant in
    rw (p.1, p.2) (hears_fault inputs.NoMemory
    (stops_stopped (taken_stopped c.loop-unread.most c.has_next.new.unread c.loop-unread.unread _ _ _ inv.packets inputs.NoMemory (λ e. cc) (λ e. absurd (cc)) c.has_next.ensures.rest inv.taken))
    (omega (arith, inv.later, c.has_next.ensures.later)) (λ e. absurd (cc)))

pub loop-unread-preserved : goal.loop-unread-preserved
loop-unread-preserved g c =
    let inv = c.loop-unread.invariant in
    let held = c.has_next.new.unread in
    let some = c.in_ok-has_next.ensures.next (ap Ok c.if-branch.true) in
    let e : c.in-Some.packet.now ≡ take PACKET_LENGTH held = c.in-Some.ensures.cases.same ∙ ap (take PACKET_LENGTH) c.held.ensures in
    record {
      packets = inv.packets ++ take PACKET_LENGTH held ∷ [];
      taken = taken_more inv.packets c.loop-unread.most _ _ c.loop-unread.unread _ held _ _ c.has_next.ensures.rest some.0 c.pass.ensures (omega (arith, some.1)) inv.taken;
      heard = rw e at (c.in_ok-hear.ensures _ inv.packets inv.heard);
      later = omega (arith, inv.later, c.has_next.ensures.later);
    }

pub returns-clause-hears : goal.returns-clause-hears
returns-clause-hears g c =
    let inv = c.loop-unread.invariant in
    hears_end (record {
      taken = inv.packets;
      told = c.in_ok-has_next.ensures.ended (ap Ok c.if-branch.false) _ inv.packets inv.taken;
      heard = inv.heard;
    }) (omega (arith, inv.later, c.has_next.ensures.later))

pub returns-clause-rest : goal.returns-clause-rest
returns-clause-rest g c =
    let inv = c.loop-unread.invariant in
    rest_held _ _ c.has_next.new.unread inv.packets _ (ap length c.held-2.ensures) (rw c.has_next.ensures.rest inv.taken.taken)
    (c.in_ok-has_next.ensures.ended (ap Ok c.if-branch.false) _ inv.packets inv.taken)
