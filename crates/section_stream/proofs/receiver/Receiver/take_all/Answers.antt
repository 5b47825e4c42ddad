use Rattle.std.proofs.Common.{sym, ◌∙◌}
use Rattle.carousel_profile.specs.declared.TheConstants.{PACKET_LENGTH}
use Rattle.section_stream.proofs.Bytes.{chunk_run, chunk_rest, no_chunk, rest_none}
use Rattle.section_stream.proofs.Completing.{on_err, chunk_gives, chunk_later}
use Rattle.section_stream.proofs.Opening.{rest_is}
use Rattle.section_stream.proofs.receiver.Receiver.take_all.Goals as goal

pub loop-packet-preserved : goal.loop-packet-preserved
loop-packet-preserved c =
    record {
      run = λ t after r. c.loop-packet.invariant.run t after
          (chunk_run c.loop-packet.self c.step.new.self t c.loop-packet.rest.now c.in-Some.packet.now _ _ _ after c.in-Some.ensures.cases.enough c.in-Some.ensures.cases.same (rest_is c.loop-packet.rest.now PACKET_LENGTH) c.in_ok-step.ensures.ok r);
      rest = chunk_rest c.loop-packet.rest.now _ c.in-Some.ensures.cases.enough (rest_is c.loop-packet.rest.now PACKET_LENGTH) ∙ c.loop-packet.invariant.rest;
      asked = λ later. c.loop-packet.invariant.asked
          (chunk_later c.loop-packet.self c.step.new.self c.loop-packet.rest.now c.in-Some.packet.now _ _ _ c.in-Some.ensures.cases.enough c.in-Some.ensures.cases.same (rest_is c.loop-packet.rest.now PACKET_LENGTH) c.in_ok-step.ensures.ok later);
    }

pub returns-clause-run : goal.returns-clause-run
returns-clause-run c = c.loop-packet.invariant.run c.loop-packet.self _ (no_chunk c.loop-packet.self c.loop-packet.rest.now _ c.in_default.ensures.cases)

pub returns-clause-rest : goal.returns-clause-rest
returns-clause-rest c = (sym (rest_none c.loop-packet.rest.now c.in_default.ensures.cases) ∙ c.loop-packet.invariant.rest, c.in_default.ensures.cases)

pub returns-in_err-step-clause-memory : goal.returns-in_err-step-clause-memory
returns-in_err-step-clause-memory c = on_err _ (c.loop-packet.invariant.asked
    (chunk_gives c.loop-packet.self c.loop-packet.rest.now c.in-Some.packet.now c.in-Some.ensures.cases.enough c.in-Some.ensures.cases.same c.in_err-step.ensures.memory))
