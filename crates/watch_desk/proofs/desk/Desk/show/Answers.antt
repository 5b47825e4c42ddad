use Rattle.std.proofs.Common.{◌∷◌, ◌++◌, [], ap, subst, ◌∙◌}
use Rattle.path_resolver.specs.Resolving.{Held}
use Rattle.path_resolver.specs.Shots.{held_of}
use Rattle.watch_desk.specs.View.{state}
use Rattle.watch_desk.specs.Watching.{StandsFor, notices_of}
use Rattle.watch_desk.proofs.desk.Desk.show.Goals as goal

pub returns-in-Ok-clause-told : goal.returns-in-Ok-clause-told
returns-in-Ok-clause-told g c = λ shots s.
    c.in-Ok.ensures.told shots s ∙ ap (λ x. notices_of (state c.args.self.now) shots (held_of x)) c.deref.ensures

pub returns-in-Ok-clause-stands : goal.returns-in-Ok-clause-stands
returns-in-Ok-clause-stands g c = λ shots s.
    subst (λ (h : Held). StandsFor (state c.show_held.new.self) (shots ++ h ∷ [])) (ap held_of c.deref.ensures) (c.in-Ok.ensures.stands shots s)
