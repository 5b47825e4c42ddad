use Rattle.session.proofs.Words.{arith, sym, subst, All, shown_by, most_by, DidEdit, DidRead, IsEditorSeat, IsReaderSeat}
use Rattle.session.proofs.Doing.{cast_done, feeder_ready, put_back, readers_ready}
use Rattle.session.proofs.cast.Cast.run.Goals as goal

pub run_actors-requires-clause-editors : goal.run_actors-requires-clause-editors
run_actors-requires-clause-editors g c κs within = subst (All (IsEditorSeat c.args.station.now)) (sym c.deref_mut.ensures.value) (λ k d lt. (c.requires.stands.1.editors.1 k d lt).made.pass)

pub run_actors-requires-clause-pass : goal.run_actors-requires-clause-pass
run_actors-requires-clause-pass g c κs within = c.requires.stands.1.feeder.fed.pass

pub run_actors-requires-clause-lines : goal.run_actors-requires-clause-lines
run_actors-requires-clause-lines g c κs within = c.requires.stands.1.feeder.in_range

pub run_actors-requires-clause-room : goal.run_actors-requires-clause-room
run_actors-requires-clause-room g c κs within = let r = c.requires.stands in
    feeder_ready r.0 (shown_by c.args.shower.now) c.args.station.now c.args.self.now.feeder (most_by c.args.shower.now) r.1.feeder r.1.board.most

pub run_actors-requires-clause-readers : goal.run_actors-requires-clause-readers
run_actors-requires-clause-readers g c κs within = let r = c.requires.stands in
    subst (All IsReaderSeat) (sym c.deref_mut-2.ensures.value) (readers_ready r.0 (shown_by c.args.shower.now) c.args.self.now.readers.items r.1.readers)

pub returns-clause-done : goal.returns-clause-done
returns-clause-done g c = λ setting st.
    let e = put_back (DidEdit c.args.station.now) c.args.self.now.editors c.deref_mut.result.now c.run_actors.new.editors c.deref_mut.ensures.value (omega arith) c.run_actors.ensures.editors in
    let r = put_back DidRead c.args.self.now.readers c.deref_mut-2.result.now c.run_actors.new.readers c.deref_mut-2.ensures.value (omega arith) c.run_actors.ensures.readers in
    cast_done setting (shown_by c.args.shower.now) c.args.station.now (shown_by c.run_actors.new.shower) c.args.self.now _ st.editors st.feeder st.readers e.0 e.1 c.run_actors.ensures.feeder r.0 r.1
    (c.is_whole.ensures.0 c.if-not-is_whole.false)
