use Rattle.session.proofs.Words.{◌∷◌, ◌++◌, ◌∙◌, [], List, map, refl, ap, sym, subst, All, on_ok_weaker, shown_by, most_by, Shot, Step, Commit, Draw, Open, DrawFields, HasFed, IsDrawLine, draw_of, draws_in, view_happening, FeederStands, ReadersStand, IsNext, Cast, CastStands}
use Rattle.session.proofs.Begun.{draw_has_room, feeder_idles, shots_count}
use Rattle.session.proofs.Editing.{editors_idle}
use Rattle.session.proofs.Reading.{readers_idle}
use Rattle.session.proofs.Staged.{draws_more}
use Rattle.session.proofs.cast.Cast.act.Goals as goal

pub commit_now-requires : goal.commit_now-requires
commit_now-requires g c = let n = c.requires.next in (n.0, n.1, n.2.editors)

pub draw-requires-clause-pass : goal.draw-requires-clause-pass
draw-requires-clause-pass g c = λ κs h. c.requires.next.2.feeder.fed.pass

pub draw-requires-clause-room : goal.draw-requires-clause-room
draw-requires-clause-room g c = λ κs h. let n = c.requires.next in
    draw_has_room n.0 c.args.station.now n.1 (shown_by c.args.shower.now) c.args.self.now.feeder c.args.deed c.in-Draw.asked c.in-Draw.fates (most_by c.args.shower.now) n.2.feeder c.in-Draw.is n.3 n.2.board.most

pub tell-requires : goal.tell-requires
tell-requires g c = let n = c.requires.next in λ k d lt. (n.2.readers.1 k d lt).reader.board_is ∙ sym (c.draw.ensures.board.0 ∙ n.2.board.board)

pub open_now-requires : goal.open_now-requires
open_now-requires g c = let n = c.requires.next in (n.0, n.1, shown_by c.args.shower.now, n.2.readers, subst (IsNext n.0 n.1) (ap view_happening c.in-Open.is) n.3)

pub returns-in-Commit : goal.returns-in-Commit
returns-in-Commit g c = on_ok_weaker c.commit_now.result (λ f setting done st.
    let s = c.args.station.now in let self = c.args.self.now in let new : Cast = record { editors = c.commit_now.new.seats; feeder = self.feeder; readers = self.readers } in let shots = shown_by c.args.shower.now in
    let e : Step = Commit c.in-Commit.editor c.in-Commit.edits.items in
    subst (λ (x : Step). CastStands setting s (done ++ x ∷ []) c.args.shower.now new) (sym (ap view_happening c.in-Commit.is))
    (record {
      editors = f setting done st.editors;
      feeder = feeder_idles setting s done shots self.feeder e refl st.feeder;
      readers = readers_idle setting done shots self.readers.items e (λ k d lt. refl) st.readers;
      board = st.board;
    })) c.commit_now.ensures

pub returns-in_ok-draw-in-Draw : goal.returns-in_ok-draw-in-Draw
returns-in_ok-draw-in-Draw g c = λ setting done st.
    let s = c.args.station.now in let self = c.args.self.now in let new : Cast = record { editors = self.editors; feeder = c.draw.new.seat; readers = c.tell.new.seats } in let shots = shown_by c.args.shower.now in
    let e : Step = Draw c.in-Draw.asked c.in-Draw.fates.items in
    let drew = c.draw.ensures in let told = c.tell.ensures in
    subst (λ (x : Step). CastStands setting s (done ++ x ∷ []) c.tell.new.shower new) (sym (ap view_happening c.in-Draw.is))
    (record {
      editors = editors_idle setting s done e self.editors.items (λ k d lt. refl) st.editors;
      feeder = subst (λ (xs : List Shot). FeederStands setting s (done ++ e ∷ []) xs c.draw.new.seat) (sym told.board.0) (record {
        fed = subst (λ (lines : List DrawFields). HasFed s lines c.draw.new.seat (shown_by c.draw.new.shower)) (sym (draws_more done (e ∷ []))) (c.in_ok-draw-in-Draw.ensures.fed (draws_in done) st.feeder.fed);
        draws = ap (λ v. map draw_of v.items) drew.rest.0 ∙ st.feeder.draws;
        in_range = subst (λ v. All IsDrawLine v.items) (sym drew.rest.0) st.feeder.in_range;
      });
      readers = subst (λ (xs : List Shot). ReadersStand setting (done ++ e ∷ []) xs c.tell.new.seats.items) (sym told.board.0)
          (told.told setting (done ++ e ∷ []) shots (readers_idle setting done shots self.readers.items e (λ k d lt. refl) st.readers));
      board = record { board = told.board.1.0 ∙ drew.board.0 ∙ st.board.board; most = told.board.1.1 ∙ drew.board.1 ∙ st.board.most };
    })

pub returns-in-Open : goal.returns-in-Open
returns-in-Open g c = on_ok_weaker c.open_now.result (λ f setting done st.
    let s = c.args.station.now in let self = c.args.self.now in let new : Cast = record { editors = self.editors; feeder = self.feeder; readers = c.open_now.new.seats } in let shots = shown_by c.args.shower.now in
    let e : Step = Open c.in-Open.reader c.in-Open.path in
    subst (λ (x : Step). CastStands setting s (done ++ x ∷ []) c.args.shower.now new) (sym (ap view_happening c.in-Open.is))
    (record {
      editors = editors_idle setting s done e self.editors.items (λ k d lt. refl) st.editors;
      feeder = feeder_idles setting s done shots self.feeder e refl st.feeder;
      readers = f setting done shots (shots_count s done shots self.feeder st.feeder.fed) st.readers;
      board = st.board;
    })) c.open_now.ensures
