use Rattle.session_script.proofs.Imports.{◌≡◌, ◌++◌, ◌*◌, map, range_with_len, act_of, fill_of}
use Rattle.session_script.proofs.generator.put_commit.Given as goal

abbrev pub invariant-loop-place : goal.invariant-loop-place
invariant-loop-place l = map act_of l.tasks.items ≡ map act_of l.fn.tasks.items ++ map (fill_of l.fn.editor) (range_with_len (8 * l.fn.commit) l.place)
