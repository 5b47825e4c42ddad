use Rattle.std.proofs.Common.{◌≡◌, take, Ok, ap, ◌∙◌, arith}
use Rattle.std.proofs.lemmas.Result.{err_from_is_err_and}
use Rattle.carousel_profile.specs.declared.TheConstants.{PACKET_LENGTH}
use Rattle.shell_streams.specs.declared.input.InputFault.TheVariants as faults
use Rattle.shell_streams.proofs.Packeting.{reader_taken, reader_next, reader_ended, reader_stopped, taken_stopped}
use Rattle.shell_streams.proofs.packets.PacketReader.next.Goals as goal

pub returns-in_err-has_next-clause-stopped : goal.returns-in_err-has_next-clause-stopped
returns-in_err-has_next-clause-stopped g c =
    let p = err_from_is_err_and c.from_residual.result c.from_residual.ensures.1 in
    rw (p.1, p.2) (λ pid start cs h. reader_stopped _ h (c.in_err-has_next.ensures.stopped start h.packets (reader_taken h)))

pub returns-then-not-branch-clause-ended : goal.returns-then-not-branch-clause-ended
returns-then-not-branch-clause-ended g c = λ n pid start cs h.
    reader_ended h (c.in_ok-has_next.ensures.ended (ap Ok c.if-not-branch.true) start h.packets (reader_taken h))

pub returns-in_err-sections-clause-stopped : goal.returns-in_err-sections-clause-stopped
returns-in_err-sections-clause-stopped g c =
    let p = err_from_is_err_and c.from_residual-in_err-sections.result c.from_residual-in_err-sections.ensures.1 in
    rw (p.1, p.2) (λ pid start cs h. reader_stopped faults.NoMemory h
    (taken_stopped c.args.self.now.most c.has_next.new.unread c.args.self.now.unread start _ _ h.packets faults.NoMemory (λ e. cc) (λ e. absurd (cc)) c.has_next.ensures.rest (reader_taken h)))

pub returns-clause-next : goal.returns-clause-next
returns-clause-next g c = λ pid start cs h.
    let e : c.in-Some.packet.now ≡ take PACKET_LENGTH c.has_next.new.unread = c.in-Some.ensures.cases.same ∙ ap (take PACKET_LENGTH) c.held-2.ensures in
    let some = c.in_ok-has_next.ensures.next (ap Ok c.if-not-branch.false) in
    reader_next pid c.args.self.now _ c.has_next.new.unread start _ _ _ cs c.has_next.ensures.rest some.0 c.pass.ensures
    (omega arith)
    (record {
      stands = rw e at c.in_ok-sections.ensures.stands;
      same_pid = c.in_ok-sections.ensures.pid;
      cuts = rw e at c.in_ok-sections.ensures.cuts;
    }) h
