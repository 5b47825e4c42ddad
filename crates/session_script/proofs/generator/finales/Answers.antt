use Rattle.session_script.proofs.Imports.{◌≡◌, ◌+◌, ◌-◌, ◌*◌, ◌++◌, ◌∙◌, [], refl, sym, ap, arith, flat_map, range_with_len, After, numbers, finales_of, number_lines}
use Rattle.session_script.proofs.Lists.{put_more}
use Rattle.session_script.proofs.Generating.{number_lines-append, finales_count}
use Rattle.session_script.proofs.generator.finales.Goals as goal

pub loop-editor-preserved : goal.loop-editor-preserved
loop-editor-preserved c =
    let before = c.loop-editor.editor - 1 in let done = flat_map finales_of (range_with_len 1 before) in let count = finales_count before in
    let next = c.args.first + 32 * before in
    c.in_ok-put_finales.ensures ∙ ap (λ lines. lines ++ number_lines next After (finales_of c.loop-editor.editor)) c.loop-editor.invariant
    ∙ sym (number_lines-append c.args.first next After done (finales_of c.loop-editor.editor) (omega (arith, count)))
    ∙ ap (number_lines c.args.first After)
    (put_more finales_of [] done _ 1 before (c.loop-editor.editor + 1 - 1) c.loop-editor.editor (omega arith) (omega arith) refl refl)

pub returns : goal.returns
unfolding numbers
returns c = let end = c.loop-editor.auto.editor-end (omega arith) in let all : c.loop-editor.editor - 1 ≡ c.args.size = omega (arith, end) in
    rw (← all) c.loop-editor.invariant
