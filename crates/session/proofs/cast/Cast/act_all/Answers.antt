use Rattle.session.proofs.Words.{◌∙◌, ◌∷◌, [], ap, sym, subst, List, map, map-append, rules, Step, view_happening, CastStands, item_comes, items_came}
use Rattle.session.proofs.Events.{next_in, range_of}
use Rattle.session.proofs.cast.Cast.act_all.Goals as goal

pub loop-deed-init : goal.loop-deed-init
loop-deed-init g c = λ setting same st. st

pub act-requires-clause-range : goal.act-requires-clause-range
act-requires-clause-range g c = λ κs h.
    let turn = item_comes c.into_iter-deed-iterator.result c.args.before.items (search rules) (search rules) c.loop-deed.yielded c.loop-deed.deed-iterator c.loop-deed.yielded_by c.next.new.self c.in-Some.is c.next.ensures.steps in
    range_of c.args.before.items c.loop-deed.yielded c.in-Some.deed turn.2 turn.0 turn.1 c.requires.range

pub act-requires-clause-next : goal.act-requires-clause-next
act-requires-clause-next g c = λ κs h.
    let turn = item_comes c.into_iter-deed-iterator.result c.args.before.items (search rules) (search rules) c.loop-deed.yielded c.loop-deed.deed-iterator c.loop-deed.yielded_by c.next.new.self c.in-Some.is c.next.ensures.steps in
    let first = c.requires.first in (
      first.0,
      map view_happening c.loop-deed.yielded,
      c.loop-deed.invariant first.0 first.1 first.2,
      next_in c.args.before.items c.loop-deed.yielded c.in-Some.deed turn.2 turn.0 turn.1 first.0 first.1,
    )

pub loop-deed-preserved : goal.loop-deed-preserved
loop-deed-preserved g c = λ setting same st.
    subst (λ (es : List Step). CastStands setting c.args.station.now es c.act.new.shower c.act.new.self) (sym (map-append view_happening c.loop-deed.yielded (c.in-Some.deed ∷ [])))
    (c.in_ok-act.ensures setting (map view_happening c.loop-deed.yielded) (c.loop-deed.invariant setting same st))

pub returns : goal.returns
returns g c =
    let end = items_came c.into_iter-deed-iterator.result c.args.before.items (search rules) (search rules) c.loop-deed.yielded c.loop-deed.deed-iterator c.loop-deed.yielded_by c.next.new.self c.in-None.is c.next.ensures.steps in
    λ setting same st. subst (λ (es : List Step). CastStands setting c.args.station.now es c.loop-deed.shower c.loop-deed.self) (ap (map view_happening) end ∙ same) (c.loop-deed.invariant setting same st)
