use Rattle.session.proofs.Words.{◌++◌, List, Option, IfSome, map, rules, sym, ap, ◌∙◌, subst, append-nil, All, All-nil, TaskLine, act_of, IsInRange, at_place, Step, InRange, Happening, happened, view_happening, Pending, Holds, IsDrawLine, draw_of, edits_of, HasSplit, events_at, waiting_below, item_comes, items_came}
use Rattle.session.proofs.Planning.{events_more, waiting_more}
use Rattle.session.proofs.plan.work_of.Goals as goal

pub loop-line-init : goal.loop-line-init
loop-line-init c = λ p h. (
  record {
    commits = λ n. ap (map edits_of) (c.new.ensures n);
    draws = ap (map draw_of) c.new-3.ensures.items;
    in_range = subst (All IsDrawLine) (sym c.new-3.ensures.items) (All-nil IsDrawLine);
    paths = λ n. c.new-4.ensures n;
  },
  h,
)

pub read-requires : goal.read-requires
read-requires c = let turn = item_comes c.into_iter-line-iterator.result c.args.tasks.items (search rules) (search rules) c.loop-line.yielded c.loop-line.line-iterator c.loop-line.yielded_by c.next.new.self c.in-Some.is c.next.ensures.steps in
    at_place (λ (line : TaskLine). IsInRange (act_of line.task)) c.args.tasks.items _ c.in-Some.line c.requires turn.0 turn.1

pub give-requires : goal.give-requires
give-requires c = subst (λ (what : Option Happening). IfSome what (λ h. InRange (view_happening h))) c.in-Some-2.is c.in_ok-what.ensures.range

pub loop-line-preserved-in-Continue-branch-3 : goal.loop-line-preserved-in-Continue-branch-3
loop-line-preserved-in-Continue-branch-3 c = λ p h. let y = c.loop-line.yielded in let i = c.loop-line.invariant p h in let q = waiting_below p y in (
  subst (HasSplit c.give.new.self) (ap (λ (es : List Step). events_at p y ++ es) (ap happened (sym c.in-Some-2.is) ∙ c.in_ok-what.ensures.happens q i.1) ∙ sym (events_more p y c.in-Some.line))
      (c.in_ok-give-in-Some-2.ensures (events_at p y) i.0),
  subst (λ (r : Pending). Holds c.read.new.self r) (sym (waiting_more p y c.in-Some.line)) (c.in_ok-what.ensures.waits q i.1),
)

pub loop-line-preserved : goal.loop-line-preserved
loop-line-preserved c = λ p h. let y = c.loop-line.yielded in let i = c.loop-line.invariant p h in let q = waiting_below p y in (
  subst (HasSplit c.count_line.new.self)
      (sym (append-nil (events_at p y)) ∙ ap (λ (es : List Step). events_at p y ++ es) (ap happened (sym c.in-None-2.is) ∙ c.in_ok-what.ensures.happens q i.1) ∙ sym (events_more p y c.in-Some.line))
      (c.count_line.ensures (events_at p y) i.0),
  subst (λ (r : Pending). Holds c.read.new.self r) (sym (waiting_more p y c.in-Some.line)) (c.in_ok-what.ensures.waits q i.1),
)

pub returns : goal.returns
returns c = let end = items_came c.into_iter-line-iterator.result c.args.tasks.items (search rules) (search rules) c.loop-line.yielded c.loop-line.line-iterator c.loop-line.yielded_by c.next.new.self c.in-None.is c.next.ensures.steps in
    λ p h. subst (λ (ts : List TaskLine). HasSplit c.loop-line.work (events_at p ts)) end (c.loop-line.invariant p h).0
