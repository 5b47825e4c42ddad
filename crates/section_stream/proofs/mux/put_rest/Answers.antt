use Rattle.std.proofs.Common.{◌≡◌, ◌-◌, ◌<◌, ◌≤◌, ◌∙◌, ap, arith, length, length-drop, length-take}
use Rattle.section_stream.specs.Cuts.{Bytes}
use Rattle.section_stream.proofs.Putting.{packets_more, tail_more, counter_more, packets_end, tail_end, counter_end}
use Rattle.section_stream.proofs.mux.put_rest.Goals as goal

pub loop-rest-preserved : goal.loop-rest-preserved
loop-rest-preserved c =
    let rest : Bytes = c.loop-rest.rest in
    let long : 183 ≤ length rest = omega (arith, c.loop-rest-test.true, c.len.ensures) in
    let part = c.split_at-part.ensures.0 in
    let behind = c.split_at-part.ensures.1 in
    let size : length c.split_at-part.result.1 ≡ length rest - 184 = ap (λ (x : Bytes). length x) behind ∙ length-drop 184 rest in
    record {
      bound = omega arith;
      room = omega (arith, long, size, c.loop-rest.invariant.room, c.put.ensures.room, c.put.ensures.one);
      packets = packets_more c.args.pid c.loop-rest.counter rest c.split_at-part.result.0 c.split_at-part.result.1 _ _ _ long part behind c.put.ensures.packet c.loop-rest.invariant.packets;
      tail = tail_more rest c.split_at-part.result.1 long behind ∙ c.loop-rest.invariant.tail;
      next = counter_more c.loop-rest.counter rest c.split_at-part.result.1 long behind ∙ c.loop-rest.invariant.next;
    }

pub put-requires-clause-size : goal.put-requires-clause-size
put-requires-clause-size c = omega (arith, ap (λ (x : Bytes). length x) c.split_at-part.ensures.0, length-take 184 c.loop-rest.rest)

pub loop-rest-smaller : goal.loop-rest-smaller
loop-rest-smaller c =
    omega (arith, c.loop-rest-test.true, c.len.ensures, ap (λ (x : Bytes). length x) c.split_at-part.ensures.1, length-drop 184 c.loop-rest.rest)

pub returns-clause-packets : goal.returns-clause-packets
returns-clause-packets c = packets_end c.args.pid c.loop-rest.counter c.loop-rest.rest _ _ (omega (arith, c.loop-rest-test.false, c.len.ensures)) c.loop-rest.invariant.packets

pub returns-clause-rest : goal.returns-clause-rest
returns-clause-rest c =
    let short : length c.loop-rest.rest < 183 = omega (arith, c.loop-rest-test.false, c.len.ensures) in
    (tail_end c.loop-rest.rest _ short c.loop-rest.invariant.tail, short)

pub returns-clause-counter : goal.returns-clause-counter
returns-clause-counter c =
    let short : length c.loop-rest.rest < 183 = omega (arith, c.loop-rest-test.false, c.len.ensures) in
    (counter_end c.loop-rest.counter _ c.loop-rest.rest short c.loop-rest.invariant.bound c.loop-rest.invariant.next, c.loop-rest.invariant.bound)
