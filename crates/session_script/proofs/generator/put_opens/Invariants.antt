use Rattle.session_script.proofs.Imports.{◌≡◌, ◌++◌, ◌-◌, map, flat_map, range_with_len, act_of, lines_of_reader}
use Rattle.session_script.proofs.generator.put_opens.Given as goal

abbrev pub invariant-loop-reader : goal.invariant-loop-reader
invariant-loop-reader l = map act_of l.tasks.items ≡ map act_of l.fn.tasks.items ++ flat_map (lines_of_reader l.fn.size) (range_with_len 1 (l.reader - 1))
