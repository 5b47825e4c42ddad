use Rattle.session_script.proofs.Imports.{◌≡◌, ◌-◌, map, flat_map, range_with_len, After, finale_line, finales_of, number_lines}
use Rattle.session_script.proofs.generator.finales.Given as goal

abbrev pub invariant-loop-editor : goal.invariant-loop-editor
invariant-loop-editor l = map finale_line l.finales.items ≡ number_lines l.fn.first After (flat_map finales_of (range_with_len 1 (l.editor - 1)))
