use Rattle.session_script.proofs.Imports.{◌≡◌, ◌++◌, map, range_with_len, After, finale_line, finale_of, number_lines}
use Rattle.session_script.proofs.generator.put_finales.Given as goal

abbrev pub invariant-loop-file : goal.invariant-loop-file
invariant-loop-file l =
    map finale_line l.finales.items ≡ map finale_line l.fn.finales.items ++ number_lines l.fn.first After (map (finale_of l.fn.editor) (range_with_len 0 l.file))
