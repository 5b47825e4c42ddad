use Rattle.session_script.proofs.Imports.{◌≡◌, ◌++◌, ◌-◌, map, flat_map, range_with_len, act_of, lines_of_editor}
use Rattle.session_script.proofs.generator.put_files.Given as goal

abbrev pub invariant-loop-editor : goal.invariant-loop-editor
invariant-loop-editor l = map act_of l.tasks.items ≡ map act_of l.fn.tasks.items ++ flat_map lines_of_editor (range_with_len 1 (l.editor - 1))
