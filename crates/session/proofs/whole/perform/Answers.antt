use Rattle.session.proofs.Words.{◌≡◌, ℕ, ◌+◌, List, length, map, refl, ap, ◌∙◌, sym, subst, arith, true, [], AreApart, CastStands, IsBegun, IsBoardOf, pass_count, shown_by, script_of_parts, known_view, Cast, view_happening, Setting, IsSession}
use Rattle.session.proofs.Begun.{are_done, editors_are, feeder_first, few_editors, few_readers, finales_are, popped_pass, readers_are}
use Rattle.session.proofs.Planning.{if_ok_map}
use Rattle.session.proofs.Session.{apart_numbers}
use Rattle.session.proofs.whole.perform.Given.{Over}
use Rattle.session.proofs.whole.perform.Goals.{In_ok-reader_seats}
use Rattle.session.proofs.whole.perform.Goals as goal

pub overflow_cast-len : goal.overflow_cast-len
overflow_cast-len g c = let r = c.requires.set_up in let few = few_editors r.0 (shown_by c.args.shower.now) c.args.start r.1 in
    let len = c.len.ensures in let ok = c.args.start.plan.editors.ok.0 in omega (arith, few, len, ok)

pub new-requires : goal.new-requires
new-requires g c = let r = c.requires.set_up in let few = few_editors r.0 (shown_by c.args.shower.now) c.args.start r.1 in
    let len = c.len.ensures in let ok = c.args.start.plan.editors.ok.0 in omega (arith, few, len, ok)

pub editor_seats-requires-clause-passes : goal.editor_seats-requires-clause-passes
editor_seats-requires-clause-passes g c = (popped_pass c.in_ok-station.station c.in_ok-station.passes.items c.pop.new.self.items c.pop.result c.in-Some.pass c.pop.ensures.items c.in-Some.is c.in_ok-station.ensures.passes).0

pub editor_seats-requires-clause-count : goal.editor_seats-requires-clause-count
editor_seats-requires-clause-count g c = let r = c.requires.set_up in let few = few_editors r.0 (shown_by c.args.shower.now) c.args.start r.1 in
    let len = c.len.ensures in let ok = c.args.start.plan.editors.ok.0 in let same = ap length c.deref.ensures.value in let all = c.in_ok-station.ensures.all in
    let left = c.in-Some.ensures.cases in let before = c.in_ok-station.passes.ok.0 in let after = c.pop.new.self.ok.0 in
    (omega (arith, len, ok, same, all, left, before, after), omega (arith, few, same))

pub editor_seats-requires-clause-apart : goal.editor_seats-requires-clause-apart
editor_seats-requires-clause-apart g c = let r = c.requires.set_up in
    subst AreApart (sym (editors_are r.0 (shown_by c.args.shower.now) c.args.start r.1 c.deref.result.now c.deref.ensures.value)) (apart_numbers r.0.parts.editors.items r.0.ranges.editors.once)

pub reader_seats-requires-clause-count : goal.reader_seats-requires-clause-count
reader_seats-requires-clause-count g c = let r = c.requires.set_up in let few = few_readers r.0 (shown_by c.args.shower.now) c.args.start r.1 in
    let same = ap length c.deref-2.ensures.value in let each = c.requires.readers in (omega (arith, same, each), omega (arith, few, same))

pub reader_seats-requires-clause-apart : goal.reader_seats-requires-clause-apart
reader_seats-requires-clause-apart g c = let r = c.requires.set_up in
    subst AreApart (sym (readers_are r.0 (shown_by c.args.shower.now) c.args.start r.1 c.deref-2.result.now c.deref-2.ensures.value)) (apart_numbers r.0.parts.readers.items r.0.ranges.readers.once)

-- the actors before anything happens
first : (g : Over) (c : In_ok-reader_seats g) (setting : Setting) → IsBegun setting (shown_by c.args.shower.now) c.args.start → IsBoardOf setting c.args.shower.now → CastStands setting c.in_ok-station.station [] c.args.shower.now
    record { editors = c.in_ok-editor_seats.field-0; feeder = record { pass = c.in-Some.pass; downlink = c.args.start.downlink; draws = c.args.start.plan.work.draws; fates = c.new-2.result; whole = true }; readers = c.in_ok-reader_seats.field-0 }
first g c setting u board =
    let pass = popped_pass c.in_ok-station.station c.in_ok-station.passes.items c.pop.new.self.items c.pop.result c.in-Some.pass c.pop.ensures.items c.in-Some.is c.in_ok-station.ensures.passes in record {
      editors = c.in_ok-editor_seats.ensures setting (editors_are setting (shown_by c.args.shower.now) c.args.start u c.deref.result.now c.deref.ensures.value) u.planned.work.commits;
      feeder = feeder_first setting (shown_by c.args.shower.now) c.args.start u c.in_ok-station.station _ (pass.1, pass.2, pass.3) refl refl c.new-2.ensures.items;
      readers = c.in_ok-reader_seats.ensures setting (shown_by c.args.shower.now) (readers_are setting (shown_by c.args.shower.now) c.args.start u c.deref-2.result.now c.deref-2.ensures.value)
          (ap (map view_happening) c.deref-3.ensures.value ∙ u.planned.before) u.planned.work.paths (finales_are setting (shown_by c.args.shower.now) c.args.start u) u.shown.shown.count u.viewers_are;
      board = board;
    }

pub act_all-requires-clause-range : goal.act_all-requires-clause-range
act_all-requires-clause-range g c = λ κs within. c.requires.set_up.1.planned.range

pub act_all-requires-clause-first : goal.act_all-requires-clause-first
act_all-requires-clause-first g c = λ κs within. let r = c.requires.set_up in (r.0, r.1.planned.before, first g (goal.at.act_all-requires-clause-first g c).In_ok-reader_seats r.0 r.1 r.2)

pub run-requires-clause-stands : goal.run-requires-clause-stands
run-requires-clause-stands g c = λ κs within. let r = c.requires.set_up in (r.0, c.in_ok-act_all.ensures r.0 r.1.planned.before (first g (goal.at.run-requires-clause-stands g c).In_ok-reader_seats r.0 r.1 r.2))

count : (g : Over) (c : In_ok-reader_seats g) → pass_count c.in_ok-station.station ≡ length c.args.start.plan.editors.items + 1
count g c = let made = c.in_ok-station.ensures.count in let len = c.len.ensures in let ok = c.args.start.plan.editors.ok.0 in omega (arith, made, len, ok)

pub end-requires-clause-ready : goal.end-requires-clause-ready
end-requires-clause-ready g c = λ κs within.
    let r = c.requires.set_up in let seated = (goal.at.end-requires-clause-ready g c).In_ok-reader_seats in let st = c.in_ok-act_all.ensures r.0 r.1.planned.before (first g seated r.0 r.1 r.2) in (
      r.0,
      are_done r.0 (shown_by c.args.shower.now) c.args.start r.1 c.in_ok-station.station c.run.new.self (shown_by c.run.new.shower) c.deref-4.result.now c.deref-4.ensures.value c.in_ok-station.ensures.carousel (count g seated) (c.in_ok-run.ensures.done r.0 st),
      record { board = c.run.ensures.board.0 ∙ st.board.board; most = c.run.ensures.board.1 ∙ st.board.most },
    )

pub returns : goal.returns
returns g c = if_ok_map c.end.result (λ told f setting u b.
    let seated = (goal.at.returns g c).In_ok-reader_seats in let st = c.in_ok-act_all.ensures setting u.planned.before (first g seated setting u b) in
    subst (λ (ws : List ℕ). IsSession ws (script_of_parts setting.parts) (map known_view told.items)) c.in_ok-station.ensures.weights
    (f setting (are_done setting (shown_by c.args.shower.now) c.args.start u c.in_ok-station.station c.run.new.self (shown_by c.run.new.shower) c.deref-4.result.now c.deref-4.ensures.value c.in_ok-station.ensures.carousel (count g seated)
    (c.in_ok-run.ensures.done setting st))))
    c.end.ensures
