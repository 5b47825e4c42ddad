use Rattle.session_script.proofs.Imports.{◌≡◌, ◌++◌, map, replicate, act_of, fates}
use Rattle.session_script.specs.Scripts as acts
use Rattle.session_script.proofs.generator.put_draws.Given as goal

abbrev pub invariant-loop-draw : goal.invariant-loop-draw
invariant-loop-draw l = map act_of l.tasks.items ≡ map act_of l.fn.tasks.items ++ replicate l._draw (acts.Draw 256 fates)
