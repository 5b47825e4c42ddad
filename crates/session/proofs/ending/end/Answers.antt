use Rattle.session.proofs.Words.{sym, subst, ◌∙◌, shown_by, most_by, weights_of, script_of_parts, IsSession}
use Rattle.session.proofs.Finale.{may_draw, all_shown, ends_well}
use Rattle.session.proofs.Planning.{if_ok_map}
use Rattle.session.proofs.ending.end.Goals as goal

pub end_of_threads-requires-clause-editors : goal.end_of_threads-requires-clause-editors
end_of_threads-requires-clause-editors g c = λ k d lt. (c.requires.ready.1.done.committed k d lt).pass

pub end_of_threads-requires-clause-feeder : goal.end_of_threads-requires-clause-feeder
end_of_threads-requires-clause-feeder g c = c.requires.ready.1.done.fed.pass

pub end_of_threads-requires-clause-count : goal.end_of_threads-requires-clause-count
end_of_threads-requires-clause-count g c = c.requires.ready.1.passes

pub settle-requires-clause-room : goal.settle-requires-clause-room
settle-requires-clause-room g c κs within = let r = c.requires.ready in may_draw r.0 c.args.station c.args.settles c.args.numbers.now (shown_by c.args.shower.now) c.args.cast r.1 (most_by c.args.shower.now) r.2.most

pub read_all-requires : goal.read_all-requires
read_all-requires g c = let r = c.requires.ready in let same = c.settle.ensures.board in (
  r.0,
  r.1.done.read,
  record { board = same.0 ∙ r.2.board; most = same.1 ∙ r.2.most },
  all_shown r.0 c.args.station c.args.settles c.args.numbers.now (shown_by c.args.shower.now) c.args.cast r.1 (shown_by c.settle.new.shower) c.in_ok-settle.ensures.count,
)

pub merge-requires : goal.merge-requires
merge-requires g c = let r = c.requires.ready in
    (ends_well r.0 c.args.station c.args.settles c.args.numbers.now (shown_by c.args.shower.now) c.args.cast r.1 c.in_ok-closed.closed c.settle.new.self (shown_by c.settle.new.shower) c.in_ok-passes.passes.items
    c.in_ok-closed.ensures c.in_ok-settle.ensures.settled c.in_ok-settle.ensures.gathered c.in_ok-settle.ensures.count c.in_ok-passes.ensures.readers c.in_ok-passes.ensures.read
    c.entries.result.now c.deref.result.now c.deref-2.result.now c.entries.ensures.entries c.deref.ensures.value c.deref-2.ensures.value c.played_is_a_session.ensures).0

pub returns : goal.returns
returns g c = if_ok_map c.merge.result (λ told is setting d. subst (IsSession (weights_of c.args.station) (script_of_parts setting.parts)) (sym is)
    (ends_well setting c.args.station c.args.settles c.args.numbers.now (shown_by c.args.shower.now) c.args.cast d c.in_ok-closed.closed c.settle.new.self (shown_by c.settle.new.shower) c.in_ok-passes.passes.items
    c.in_ok-closed.ensures c.in_ok-settle.ensures.settled c.in_ok-settle.ensures.gathered c.in_ok-settle.ensures.count c.in_ok-passes.ensures.readers c.in_ok-passes.ensures.read
    c.entries.result.now c.deref.result.now c.deref-2.result.now c.entries.ensures.entries c.deref.ensures.value c.deref-2.ensures.value c.played_is_a_session.ensures).1)
    c.merge.ensures
