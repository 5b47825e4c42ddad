use Rattle.std.proofs.Common.{map, ap, ◌∙◌}
use Rattle.path_resolver.specs.Resolving.{Held, answer_of}
use Rattle.path_resolver.specs.Shots.{held_of}
use Rattle.path_resolver.specs.declared.shot.Shot.{Shot}
use Rattle.path_tree.specs.Paths.{PathNames}
use Rattle.tuner_core.specs.Heard.{as_heard}
use Rattle.tuner_core.specs.LookBack.{held_after}
use Rattle.mount_table.proofs.receiver.Receiver.answer.Goals as goal

pub returns : goal.returns
returns c = λ heard s.
    c.in_ok-resolve.ensures.answer
    ∙ ap (λ (h : Held). answer_of h c.in_ok-rest.rest) (ap (λ (x : Shot). held_of x) c.deref.ensures ∙ ap (λ v. v.held) (c.in_ok-shot.ensures.held heard s))
    ∙ ap (λ (names : PathNames). answer_of (held_after (map as_heard heard)) names) c.in_ok-rest.ensures
