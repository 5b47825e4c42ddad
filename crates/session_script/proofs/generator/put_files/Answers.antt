use Rattle.session_script.proofs.Imports.{◌≡◌, ◌++◌, ◌+◌, ◌-◌, ◌∙◌, map, ap, arith, flat_map, range_with_len, act_of, numbers, lines_of_editor}
use Rattle.session_script.proofs.Lists.{put_more}
use Rattle.session_script.proofs.generator.put_files.Goals as goal

pub loop-editor-preserved : goal.loop-editor-preserved
loop-editor-preserved c = put_more lines_of_editor (map act_of c.args.tasks.now.items) _ _ 1 (c.loop-editor.editor - 1) (c.loop-editor.editor + 1 - 1)
    c.loop-editor.editor (omega arith) (omega arith) c.loop-editor.invariant c.in_ok-put_commits.ensures

pub returns : goal.returns
unfolding numbers
returns c = let end = c.loop-editor.auto.editor-end (omega arith) in let all : c.loop-editor.editor - 1 ≡ c.args.size = omega (arith, end) in
    c.loop-editor.invariant ∙ ap (λ n. map act_of c.args.tasks.now.items ++ flat_map lines_of_editor (range_with_len 1 n)) all
