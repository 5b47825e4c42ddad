use Rattle.session.proofs.Words.{◌++◌, List, Option, map, rules, sym, ap, ◌∙◌, subst, All-nil, TaskLine, IfSome, act_of, IsInRange, at_place, InRange, Happening, Pending, Holds, happened, view_happening, AreInRange, events_at, waiting_below, append-nil, item_comes, items_came}
use Rattle.std.proofs.lemmas.List.{map_push}
use Rattle.std.proofs.lemmas.List.Elements.{All-push}
use Rattle.session.proofs.Planning.{events_more, waiting_more}
use Rattle.session.proofs.plan.happenings.Goals as goal

pub loop-line-init : goal.loop-line-init
loop-line-init c = record {
  happened = λ p h. ap (map view_happening) c.new-made.ensures.items;
  range = subst AreInRange (sym (ap (map view_happening) c.new-made.ensures.items)) (All-nil InRange);
  waits = λ p h. h;
}

pub read-requires : goal.read-requires
read-requires c = let turn = item_comes c.into_iter-line-iterator.result c.args.tasks.items (search rules) (search rules) c.loop-line.yielded c.loop-line.line-iterator c.loop-line.yielded_by c.next.new.self c.in-Some.is c.next.ensures.steps in
    at_place (λ (line : TaskLine). IsInRange (act_of line.task)) c.args.tasks.items _ c.in-Some.line c.requires turn.0 turn.1

pub loop-line-preserved-in-Continue-branch-3 : goal.loop-line-preserved-in-Continue-branch-3
loop-line-preserved-in-Continue-branch-3 c = let i = c.loop-line.invariant in let y = c.loop-line.yielded in let made = ap (map view_happening) c.in_ok-push-in-Some-2.ensures.items ∙ map_push view_happening c.loop-line.made.items c.in-Some-2.what in record {
  happened = λ p h. made ∙ (λ k. i.happened p h k ++ (ap happened (sym c.in-Some-2.is) ∙ c.in_ok-what.ensures.happens (waiting_below p y) (i.waits p h)) k) ∙ sym (events_more p y c.in-Some.line);
  range = subst AreInRange (sym made) (All-push InRange (map view_happening c.loop-line.made.items) (view_happening c.in-Some-2.what) i.range
      (subst (λ (what : Option Happening). IfSome what (λ h. InRange (view_happening h))) c.in-Some-2.is c.in_ok-what.ensures.range));
  waits = λ p h. subst (λ (q : Pending). Holds c.read.new.self q) (sym (waiting_more p y c.in-Some.line)) (c.in_ok-what.ensures.waits (waiting_below p y) (i.waits p h));
}

pub loop-line-preserved : goal.loop-line-preserved
loop-line-preserved c = let i = c.loop-line.invariant in let y = c.loop-line.yielded in record {
  happened = λ p h. sym (append-nil (map view_happening c.loop-line.made.items))
      ∙ (λ k. i.happened p h k ++ (ap happened (sym c.in-None-2.is) ∙ c.in_ok-what.ensures.happens (waiting_below p y) (i.waits p h)) k) ∙ sym (events_more p y c.in-Some.line);
  range = i.range;
  waits = λ p h. subst (λ (q : Pending). Holds c.read.new.self q) (sym (waiting_more p y c.in-Some.line)) (c.in_ok-what.ensures.waits (waiting_below p y) (i.waits p h));
}

pub returns : goal.returns
returns c =
    let end = items_came c.into_iter-line-iterator.result c.args.tasks.items (search rules) (search rules) c.loop-line.yielded c.loop-line.line-iterator c.loop-line.yielded_by c.next.new.self c.in-None.is c.next.ensures.steps in
    record {
      happen = λ p h. c.loop-line.invariant.happened p h ∙ ap (events_at p) end;
      range = c.loop-line.invariant.range;
      waits = λ p h. subst (λ (ts : List TaskLine). Holds c.loop-line.interpreter (waiting_below p ts)) end (c.loop-line.invariant.waits p h);
    }
