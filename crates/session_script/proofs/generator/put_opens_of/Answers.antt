use Rattle.session_script.proofs.Imports.{◌≡◌, ◌++◌, ◌+◌, ◌∙◌, map, refl, ap, arith, range_with_len, act_of, open_of, lines_of_reader}
use Rattle.session_script.proofs.Lists.{push_more}
use Rattle.session_script.proofs.generator.put_opens_of.Goals as goal

pub loop-turn-preserved : goal.loop-turn-preserved
unfolding open_of
loop-turn-preserved c = rw c.in_ok-push.ensures.items (push_more act_of (open_of c.args.size c.args.reader) c.loop-turn.tasks.items (map act_of c.args.tasks.now.items) _
    0 c.loop-turn.turn (c.loop-turn.turn + 1) c.loop-turn.turn (omega arith) refl c.loop-turn.invariant (rw c.in_ok-path.ensures refl))

pub returns : goal.returns
unfolding lines_of_reader
returns c = let all : c.loop-turn.turn ≡ 64 = omega arith in
    c.loop-turn.invariant ∙ ap (λ n. map act_of c.args.tasks.now.items ++ map (open_of c.args.size c.args.reader) (range_with_len 0 n)) all
