use Rattle.std.proofs.Common.{◌-◌, ◌++◌, length, drop, ◌∙◌, ap, arith}
use Rattle.section_stream.specs.Cuts.{Bytes}
use Rattle.section_stream.proofs.Putting.{large_state}
use Rattle.section_stream.proofs.mux.Mux.packets_of_parts.Goals as goal

pub returns-clause-state : goal.returns-clause-state
returns-clause-state c =
    let section : Bytes = c.args.front.now ++ (c.args.body.now ++ c.args.tail.now) in
    let held = c.bytes.result.now in
    large_state c.args.self.now c.self.inside.pid c.self.inside.counter c.self.inside.held c.replace.new.self held section c.split_at-first.result.1 c.put_rest-tail.result.0 c.put_rest-tail.result.1
    c.self.view_is c.bytes.ensures.bytes (omega (arith, c.if-len-room.false, c.len.ensures, ap (λ (x : Bytes). length x) c.new-section.ensures))
    (c.split_at-first.ensures.1 ∙ ap (drop (183 - length held)) c.new-section.ensures) c.put_rest-tail.ensures.rest.0 c.put_rest-tail.ensures.counter.0 c.replace.ensures
