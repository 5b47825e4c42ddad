use Rattle.std.proofs.Common.{◌-◌, ◌∙◌, ap, arith, map}
use Rattle.carousel_profile.specs.declared.TheConstants.{PACKET_LENGTH}
use Rattle.section_stream.specs.Kept.{view_bytes}
use Rattle.section_stream.specs.Pieces.{packets_of}
use Rattle.section_stream.proofs.Bytes.{piece_short, piece_taken, takes_stand, takes_cut, takes_pid, takes_short}
use Rattle.section_stream.proofs.Completing.{on_err, first_gives, later_gives, piece_completes}
use Rattle.section_stream.proofs.demux.Demux.feed_bytes.Goals as goal

pub returns-then-piece-missing-clause-stands : goal.returns-then-piece-missing-clause-stands
returns-then-piece-missing-clause-stands c = takes_stand _ _ _ _
    (piece_short c.args.self.now c.self.inside.receiver c.self.inside.unfinished c.append.new.self c.args.piece.now (map view_bytes c.new-out.result.items) c.self.view_is c.append.ensures (omega (arith, c.if-piece-missing.true, c.len-missing.ensures)) (ap (map view_bytes) c.new-out.ensures.items))

pub returns-then-piece-missing-clause-cuts : goal.returns-then-piece-missing-clause-cuts
returns-then-piece-missing-clause-cuts c = takes_cut _ _ _ _
    (piece_short c.args.self.now c.self.inside.receiver c.self.inside.unfinished c.append.new.self c.args.piece.now (map view_bytes c.new-out.result.items) c.self.view_is c.append.ensures (omega (arith, c.if-piece-missing.true, c.len-missing.ensures)) (ap (map view_bytes) c.new-out.ensures.items))

pub returns-clause-stands : goal.returns-clause-stands
returns-clause-stands c = takes_stand _ _ _ _
    (piece_taken c.args.self.now c.self.inside.receiver c.copy.new.self c.step.new.self c.take_all.new.self c.swap.new.x c.self.inside.unfinished c.completed.result c.split_at.result.0.now c.split_at.result.1.now c.replace.new.self c.args.piece.now (PACKET_LENGTH - c.len-missing.result) _ _ _
    c.self.view_is c.copy.ensures c.swap.ensures.x_after (omega (arith, c.len-missing.ensures, c.self.invariant)) (omega (arith, c.if-piece-missing.false)) c.split_at.ensures.front c.split_at.ensures.back c.completed.ensures
    (ap (map view_bytes) c.new-out.ensures.items) c.in_ok-step.ensures.ok c.in_ok-rest.ensures.run (c.replace.ensures ∙ c.in_ok-rest.ensures.rest.0))

pub returns-clause-cuts : goal.returns-clause-cuts
returns-clause-cuts c = takes_cut _ _ _ _
    (piece_taken c.args.self.now c.self.inside.receiver c.copy.new.self c.step.new.self c.take_all.new.self c.swap.new.x c.self.inside.unfinished c.completed.result c.split_at.result.0.now c.split_at.result.1.now c.replace.new.self c.args.piece.now (PACKET_LENGTH - c.len-missing.result) _ _ _
    c.self.view_is c.copy.ensures c.swap.ensures.x_after (omega (arith, c.len-missing.ensures, c.self.invariant)) (omega (arith, c.if-piece-missing.false)) c.split_at.ensures.front c.split_at.ensures.back c.completed.ensures
    (ap (map view_bytes) c.new-out.ensures.items) c.in_ok-step.ensures.ok c.in_ok-rest.ensures.run (c.replace.ensures ∙ c.in_ok-rest.ensures.rest.0))

pub returns-clause-pid : goal.returns-clause-pid
returns-clause-pid c = takes_pid _ _ _ _
    (piece_taken c.args.self.now c.self.inside.receiver c.copy.new.self c.step.new.self c.take_all.new.self c.swap.new.x c.self.inside.unfinished c.completed.result c.split_at.result.0.now c.split_at.result.1.now c.replace.new.self c.args.piece.now (PACKET_LENGTH - c.len-missing.result) _ _ _
    c.self.view_is c.copy.ensures c.swap.ensures.x_after (omega (arith, c.len-missing.ensures, c.self.invariant)) (omega (arith, c.if-piece-missing.false)) c.split_at.ensures.front c.split_at.ensures.back c.completed.ensures
    (ap (map view_bytes) c.new-out.ensures.items) c.in_ok-step.ensures.ok c.in_ok-rest.ensures.run (c.replace.ensures ∙ c.in_ok-rest.ensures.rest.0))

pub returns-clause-short : goal.returns-clause-short
returns-clause-short c = takes_short _ _ _ _
    (piece_taken c.args.self.now c.self.inside.receiver c.copy.new.self c.step.new.self c.take_all.new.self c.swap.new.x c.self.inside.unfinished c.completed.result c.split_at.result.0.now c.split_at.result.1.now c.replace.new.self c.args.piece.now (PACKET_LENGTH - c.len-missing.result) _ _ _
    c.self.view_is c.copy.ensures c.swap.ensures.x_after (omega (arith, c.len-missing.ensures, c.self.invariant)) (omega (arith, c.if-piece-missing.false)) c.split_at.ensures.front c.split_at.ensures.back c.completed.ensures
    (ap (map view_bytes) c.new-out.ensures.items) c.in_ok-step.ensures.ok c.in_ok-rest.ensures.run (c.replace.ensures ∙ c.in_ok-rest.ensures.rest.0))

pub returns-in_err-step-clause-completes : goal.returns-in_err-step-clause-completes
returns-in_err-step-clause-completes c = on_err _ (piece_completes c.args.self.now c.self.inside.receiver c.copy.new.self c.self.inside.unfinished c.completed.result c.split_at.result.0.now c.split_at.result.1.now c.args.piece.now (PACKET_LENGTH - c.len-missing.result)
    c.self.view_is c.copy.ensures (omega (arith, c.len-missing.ensures, c.self.invariant)) (omega (arith, c.if-piece-missing.false)) c.split_at.ensures.front c.split_at.ensures.back c.completed.ensures
    (first_gives c.copy.new.self c.completed.result (packets_of c.split_at.result.1.now) c.in_err-step.ensures.memory))

pub returns-in_err-rest-clause-completes : goal.returns-in_err-rest-clause-completes
returns-in_err-rest-clause-completes c = on_err _ (piece_completes c.args.self.now c.self.inside.receiver c.copy.new.self c.self.inside.unfinished c.completed.result c.split_at.result.0.now c.split_at.result.1.now c.args.piece.now (PACKET_LENGTH - c.len-missing.result)
    c.self.view_is c.copy.ensures (omega (arith, c.len-missing.ensures, c.self.invariant)) (omega (arith, c.if-piece-missing.false)) c.split_at.ensures.front c.split_at.ensures.back c.completed.ensures
    (later_gives c.copy.new.self c.step.new.self c.completed.result (packets_of c.split_at.result.1.now) _ _ c.in_ok-step.ensures.ok c.in_err-rest.ensures.memory))
