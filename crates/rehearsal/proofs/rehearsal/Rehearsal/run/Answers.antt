use Rattle.rehearsal.proofs.Words.{◌≡◌, ◌≢◌, ◌∙◌, ◌∷◌, [], ◌++◌, Option, Some, None, refl, ap, sym, subst, IfSome, err_from_is_err_and, puts_as, Step, view, InRange, happened, view_happening, world_after}
use Rattle.rehearsal.specs.declared.interpreter.Happening.{Happening}
use Rattle.rehearsal.proofs.Running.{runs_none, runs_quietly, runs_event, world_more, line_as}
use Rattle.rehearsal.proofs.rehearsal.Rehearsal.run.Goals as goal

nothing : (what : Option Happening) → ((h : Happening) → what ≢ Some h) → happened what ≡ []
nothing None other = refl
nothing (Some h) other = absurd (other h refl)

pub returns-in_err-what : goal.returns-in_err-what
returns-in_err-what g c = let p = err_from_is_err_and c.from_residual.result c.from_residual.ensures.1 in λ number stage ws script left first h. rw (p.1, p.2) (runs_none h)

pub returns-in_default : goal.returns-in_default
returns-in_default g c = λ number stage ws script left first h. runs_quietly h (sym (nothing _ c.in_default.not-Some) ∙ c.in_ok-what.ensures.happens h.pending h.stands.waits)
    (record { world = h.stands.world; headline = h.stands.headline; waits = c.in_ok-what.ensures.waits h.pending h.stands.waits })

pub step-requires : goal.step-requires
step-requires g c = subst InRange (sym c.into_event-event.ensures)
    (subst (λ (what : Option Happening). IfSome what (λ h. InRange (view_happening h))) c.in-Some.is c.in_ok-what.ensures.range)

pub returns-in_err-subject : goal.returns-in_err-subject
returns-in_err-subject g c = let p = err_from_is_err_and c.from_residual-in_err-subject.result c.from_residual-in_err-subject.ensures.1 in λ number stage ws script left first h. rw (p.1, p.2) (runs_none h)

pub returns-in_err-reply : goal.returns-in_err-reply
returns-in_err-reply g c = let p = err_from_is_err_and c.from_residual-in_err-reply.result c.from_residual-in_err-reply.ensures.1 in λ number stage ws script left first h. rw (p.1, p.2) (runs_none h)

pub returns : goal.returns
returns g c = λ number stage ws script left first h.
    let e : Step = view c.into_event-event.result in let w = world_after 1 ws h.happened in
    let one = ap (λ (e : Step). e ∷ []) c.into_event-event.ensures ∙ ap happened (sym c.in-Some.is) ∙ c.in_ok-what.ensures.happens h.pending h.stands.waits in
    let world = world_more _ ws h.happened e (c.in_ok-reply.ensures.stands w h.stands.world) in
    runs_event c.put_line.result h e one
    (record { world = world; headline = c.keeps_the_headline.ensures 1 ws (h.happened ++ e ∷ []) world; waits = c.in_ok-what.ensures.waits h.pending h.stands.waits })
    (puts_as (line_as e _ _ _ _ c.in_ok-subject.ensures.words c.in_ok-subject.ensures.path (c.in_ok-reply.ensures.reply w h.stands.world)) c.put_line.ensures)
