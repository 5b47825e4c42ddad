use Rattle.section_stream.proofs.Completing.{on_err}
use Rattle.section_stream.proofs.Handing.{begun_none, begun_whole, begun_first, begun_later, length_items, place_within}
use Rattle.section_stream.proofs.payload.begins.Goals as goal

pub returns-in-None-clause-done : goal.returns-in-None-clause-done
returns-in-None-clause-done c = begun_none c.args.opened.now c.args.part.now c.args.here.now c.args.whole _ _ _ _ _ _ c.in-None.is c.in_ok-left.ensures.done c.begin.ensures

pub returns-in_ok-hand_over-in-Some-clause-done : goal.returns-in_ok-hand_over-in-Some-clause-done
returns-in_ok-hand_over-in-Some-clause-done c =
    begun_whole c.args.opened.now c.args.part.now c.args.here.now c.args.whole c.in-Some.n c.len-index.result _ _ _ _ _ _ _ c.in-Some.is
    (length_items c.args.out.now.items _ _ c.len-index.ensures c.args.out.now.ok.0) c.in_ok-left.ensures.done c.in_ok-hand_over-in-Some.ensures.out c.begin-in-Some.ensures

pub returns-in_err-left-clause-memory : goal.returns-in_err-left-clause-memory
returns-in_err-left-clause-memory c = on_err _ (begun_later c.args.opened.now c.args.part.now c.args.here.now c.args.whole c.args.counts.now c.in_err-left.ensures.memory)

pub returns-in_err-hand_over-in-Some-clause-memory : goal.returns-in_err-hand_over-in-Some-clause-memory
returns-in_err-hand_over-in-Some-clause-memory c = on_err _ (begun_first c.args.opened.now c.args.part.now c.args.here.now c.args.whole c.in-Some.n c.args.counts.now c.in-Some.is)

pub hand_over-requires-clause-whole : goal.hand_over-requires-clause-whole
hand_over-requires-clause-whole c = c.requires.whole c.in-Some.n c.in-Some.is

pub hand_over-requires-clause-index : goal.hand_over-requires-clause-index
hand_over-requires-clause-index c = place_within c.args.out.now.items _ _ _ _ _ c.len-index.result c.len-index.ensures c.args.out.now.ok.0 c.in_ok-left.ensures.done
