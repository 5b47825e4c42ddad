use Rattle.session.proofs.Words.{refl, rules, ◌++◌, ◌∷◌, [], List, length, ap, sym, subst, ◌∙◌, All, All-nil, All-push, Shot, ReaderView, shown_by, script_of_parts, at_place, ReaderSeat, HasRead, ReaderDone, readers_of, whose, item_comes, items_came}
use Rattle.std.proofs.lemmas.List.{map_push}
use Rattle.session.proofs.ending.read_all.Goals as goal

pub loop-seat-init : goal.loop-seat-init
loop-seat-init c = let none = c.in_ok-passes.ensures.items in record {
  shown = refl;
  board = (refl, refl);
  readers = ap whose none;
  read = λ setting done all. subst (All (HasRead (script_of_parts setting.parts) (shown_by c.args.shower.now))) (sym none) (All-nil (HasRead (script_of_parts setting.parts) (shown_by c.args.shower.now)));
}

pub read_last-requires : goal.read_last-requires
read_last-requires c =
    let turn = item_comes c.into_iter-seat-iterator.result c.args.readers.items (search rules) (search rules) c.loop-seat.yielded c.loop-seat.seat-iterator c.loop-seat.yielded_by c.next.new.self c.in-Some.is c.next.ensures.steps in
    let i = c.loop-seat.invariant in let r = c.requires in (
      r.0,
      at_place (ReaderDone r.0) c.args.readers.items _ c.in-Some.seat r.1 turn.0 turn.1,
      record { board = i.board.0 ∙ r.2.board; most = i.board.1 ∙ r.2.most },
      ap (λ (ss : List Shot). length ss) i.shown ∙ r.3,
    )

pub loop-seat-preserved : goal.loop-seat-preserved
loop-seat-preserved c =
    let turn = item_comes c.into_iter-seat-iterator.result c.args.readers.items (search rules) (search rules) c.loop-seat.yielded c.loop-seat.seat-iterator c.loop-seat.yielded_by c.next.new.self c.in-Some.is c.next.ensures.steps in
    let i = c.loop-seat.invariant in let o = c.read_last.ensures.board in let shots = shown_by c.args.shower.now in let pushed = c.in_ok-push.ensures.items in let pass = c.in_ok-read_last.field-0 in record {
      shown = o.0 ∙ i.shown;
      board = (o.1.0 ∙ i.board.0, o.1.1 ∙ i.board.1);
      readers = ap whose pushed ∙ map_push (λ (v : ReaderView). v.reader) c.loop-seat.passes.items pass ∙ (λ k. i.readers k ++ c.in_ok-read_last.ensures.reader k ∷ [])
          ∙ sym (map_push (λ (s : ReaderSeat). s.pass.reader) c.loop-seat.yielded c.in-Some.seat);
      read = λ setting done all. let Good : ReaderView → Type 0 = HasRead (script_of_parts setting.parts) shots in subst (All Good) (sym pushed) (All-push Good c.loop-seat.passes.items pass (i.read setting done all)
          (subst (λ (ss : List Shot). HasRead (script_of_parts setting.parts) ss pass) i.shown
          (c.in_ok-read_last.ensures.read setting (at_place (ReaderDone setting) c.args.readers.items _ c.in-Some.seat done turn.0 turn.1) (ap (λ (ss : List Shot). length ss) i.shown ∙ all))));
    }

pub returns : goal.returns
returns c = let end = items_came c.into_iter-seat-iterator.result c.args.readers.items (search rules) (search rules) c.loop-seat.yielded c.loop-seat.seat-iterator c.loop-seat.yielded_by c.next.new.self c.in-None.is c.next.ensures.steps in
    record { readers = c.loop-seat.invariant.readers ∙ ap readers_of end; read = c.loop-seat.invariant.read }
