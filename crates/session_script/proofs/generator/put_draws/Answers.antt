use Rattle.session_script.proofs.Imports.{◌≡◌, ◌++◌, ◌∙◌, map, ap, arith, replicate, act_of, fates, lines_of_feeder}
use Rattle.session_script.specs.Scripts as acts
use Rattle.session_script.proofs.generator.put_draws.Goals as goal

pub returns : goal.returns
unfolding lines_of_feeder
returns c = let all : c.loop-draw._draw ≡ 64 = omega arith in
    c.loop-draw.invariant ∙ ap (λ n. map act_of c.args.tasks.now.items ++ replicate n (acts.Draw 256 fates)) all
