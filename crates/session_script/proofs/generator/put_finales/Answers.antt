use Rattle.session_script.proofs.Imports.{◌≡◌, ◌+◌, ◌++◌, ◌∷◌, ◌∙◌, [], refl, ap, arith, map, length-map, range_with_len, length-range_with_len, map-range_with_len_more, After, finale_line, finale_of, finales_of, number_lines}
use Rattle.session_script.proofs.Lists.{push_last}
use Rattle.session_script.proofs.Generating.{number_lines-append}
use Rattle.session_script.proofs.generator.put_finales.Goals as goal

pub loop-file-preserved : goal.loop-file-preserved
unfolding finale_of
loop-file-preserved c =
    let files = range_with_len 0 c.loop-file.file in let acts = map (finale_of c.args.editor) files in
    let opened = length-map files (finale_of c.args.editor) in let count = length-range_with_len 0 c.loop-file.file in
    rw (
      c.in_ok-push.ensures.items,
      map-range_with_len_more (finale_of c.args.editor) 0 c.loop-file.file c.loop-file.file (omega arith),
      number_lines-append c.args.first (c.args.first + c.loop-file.file) After acts (finale_of c.args.editor c.loop-file.file ∷ []) (omega (arith, opened, count)),
    )
    (push_last finale_line c.loop-file.finales.items _ (number_lines c.args.first After acts) _ _ c.loop-file.invariant (rw c.in_ok-file_path.ensures refl))

pub returns : goal.returns
unfolding finales_of
returns c = let all : c.loop-file.file ≡ 32 = omega arith in
    c.loop-file.invariant ∙ ap (λ n. map finale_line c.args.finales.now.items ++ number_lines c.args.first After (map (finale_of c.args.editor) (range_with_len 0 n))) all
