use Rattle.session.proofs.Words.{rules, ◌∷◌, ◌++◌, List, [], ap, sym, ◌∙◌, subst, All, Contains, arc_value, Item, GenerationState, items_of, Shot, shown_by}
use Rattle.shot_board.specs.declared.front.Front.{Front}
use Rattle.session.proofs.Showing.{one_drawing_more, if_ok, if_err}
use Rattle.session.proofs.feeder.send_and_show.Goals as goal
use Rattle.session.proofs.feeder.send_and_show.Goals.{in-Ok, in-Err}

pub send-requires-clause-items : goal.send-requires-clause-items
send-requires-clause-items g c κs within =
    subst (λ (xs : List Item). All (λ item. Contains (items_of c.deref.result.now) item) xs) (sym c.deref-2.ensures.value)
    (subst (λ (x : GenerationState). All (λ item. Contains (items_of x) item) c.args.batch.now.items.items) (sym c.deref.ensures) c.requires.items)

pub returns-clause-shown : goal.returns-clause-shown
returns-clause-shown g c = elim c.match-show.branch [
  | in-Ok w ↦ if_ok c.match-show.result _ _ w.result-is (λ drawings.
      one_drawing_more drawings c.args.batch.now c.args.fates.now c.args.downlink.now c.send.new.downlink (shown_by c.args.shower.now) (shown_by c.show.new.self) (arc_value c.in_ok-shot.shot)
      _ c.deref.result.now c.deref-2.result.now c.deref.ensures c.deref-2.ensures.value c.in_ok-send.ensures c.in_ok-shot.ensures.held
      (search rules)
      (w.in-Ok.ensures.shown ∙ ap (λ (f : Front Shot). f.seen.log ++ arc_value c.in_ok-shot.shot ∷ []) c.front.ensures.same.0))
  | in-Err w ↦ if_err c.match-show.result _ _ w.result-is
]
