use Rattle.session_script.proofs.Imports.{◌++◌, ◌∙◌, List, map, ap, flat_map, Task, act_of, numbers, lines_of_editor, lines_of_feeder, lines_of_reader, acts_during}
use Rattle.session_script.proofs.Generating.{task_count}
use Rattle.session_script.proofs.generator.tasks_during.Goals as goal

pub returns : goal.returns
unfolding acts_during
returns c = let none = ap (λ (xs : List Task). map act_of xs ++ flat_map lines_of_editor (numbers c.args.size)) c.new-tasks.ensures.items in
    let acts = c.in_ok-put_opens.ensures ∙ ap (λ deeds. deeds ++ flat_map (lines_of_reader c.args.size) (numbers c.args.size))
    (c.in_ok-put_draws.ensures ∙ ap (λ deeds. deeds ++ lines_of_feeder) (c.in_ok-put_files.ensures ∙ none)) in
    record { acts = acts; count = task_count c.args.size _ acts }
