use Rattle.session_script.proofs.Imports.{◌≡◌, ◌++◌, map, flat_map, range_with_len, act_of, commit_of}
use Rattle.session_script.proofs.generator.put_commits.Given as goal

abbrev pub invariant-loop-commit : goal.invariant-loop-commit
invariant-loop-commit l = map act_of l.tasks.items ≡ map act_of l.fn.tasks.items ++ flat_map (commit_of l.fn.editor) (range_with_len 0 l.commit)
