use Rattle.std.proofs.Common.{◌≡◌, Ok, sym, ap, ◌∙◌, arith}
use Rattle.std.proofs.lemmas.Result.{err_from_is_err_and}
use Rattle.std.proofs.lemmas.Bool.{true≢false}
use Rattle.shell_streams.specs.declared.input.InputFault.TheVariants as faults
use Rattle.shell_streams.proofs.Packeting.{taken_ended, taken_full, taken_stopped, taken_over, short_of, no_packet}
use Rattle.shell_streams.proofs.packets.has_next.Goals as goal

pub returns-in_err-has_packet-clause-stopped : goal.returns-in_err-has_packet-clause-stopped
returns-in_err-has_packet-clause-stopped g c =
    let p = err_from_is_err_and c.from_residual.result c.from_residual.ensures.1 in
    rw (p.1, p.2) (λ start packets h. taken_stopped c.args.most c.has_packet.new.unread c.args.unread.now start _ _ packets faults.Failed (λ e. cc) (λ e. c.in_err-has_packet.ensures.short) c.has_packet.ensures.rest h)

pub returns-then-most-gt0-clause-ended : goal.returns-then-most-gt0-clause-ended
returns-then-most-gt0-clause-ended g c = λ e start packets h.
    taken_ended c.args.most c.has_packet.new.unread c.args.unread.now start _ _ packets c.has_packet.ensures.rest (c.in_ok-has_packet.ensures.ended (ap Ok (no_packet _ e)))
    (short_of _ _ c.in_ok-has_packet.ensures.whole (no_packet _ e)) c.if-most-gt0.true h

pub returns-in_err-goes_on-clause-stopped : goal.returns-in_err-goes_on-clause-stopped
returns-in_err-goes_on-clause-stopped g c =
    let p = err_from_is_err_and c.from_residual-in_err-goes_on.result c.from_residual-in_err-goes_on.ensures.1 in
    rw (p.1, p.2) (λ start packets h. taken_stopped c.args.most c.goes_on.new.unread c.args.unread.now start _ _ packets faults.Failed (λ e. cc) (λ e. rw c.in_err-goes_on.ensures.none (omega arith)) c.goes_on.ensures.rest h)

pub returns-then-branch-clause-stopped : goal.returns-then-branch-clause-stopped
returns-then-branch-clause-stopped g c = λ start packets h.
    let full : c.args.most ≡ 0 = omega (arith, c.if-most-gt0.false) in
    taken_over c.args.most c.goes_on.new.unread c.args.unread.now start _ _ packets c.goes_on.ensures.rest full (λ rest e. (c.in_ok-goes_on.ensures.more rest e).0 c.if-branch.true) h

pub returns-else-branch-clause-ended : goal.returns-else-branch-clause-ended
returns-else-branch-clause-ended g c = λ _ start packets h.
    let full : c.args.most ≡ 0 = omega (arith, c.if-most-gt0.false) in
    taken_full c.args.most c.goes_on.new.unread c.args.unread.now start _ _ packets c.goes_on.ensures.rest (c.in_ok-goes_on.ensures.ended (ap Ok c.if-branch.false)) full
    (λ rest e n. true≢false (sym ((c.in_ok-goes_on.ensures.more rest e).1 n) ∙ c.if-branch.false)) h
