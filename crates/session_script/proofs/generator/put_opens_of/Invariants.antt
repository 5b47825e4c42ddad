use Rattle.session_script.proofs.Imports.{◌≡◌, ◌++◌, map, range_with_len, act_of, open_of}
use Rattle.session_script.proofs.generator.put_opens_of.Given as goal

abbrev pub invariant-loop-turn : goal.invariant-loop-turn
invariant-loop-turn l = map act_of l.tasks.items ≡ map act_of l.fn.tasks.items ++ map (open_of l.fn.size l.fn.reader) (range_with_len 0 l.turn)
