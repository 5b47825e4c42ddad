use Rattle.session_script.proofs.Imports.{◌≡◌, ◌++◌, ◌+◌, ◌∙◌, map, refl, ap, arith, flat_map, range_with_len, act_of, commit_of, lines_of_editor}
use Rattle.session_script.proofs.Lists.{put_more}
use Rattle.session_script.proofs.generator.put_commits.Goals as goal

pub loop-commit-preserved : goal.loop-commit-preserved
loop-commit-preserved c = put_more (commit_of c.args.editor) (map act_of c.args.tasks.now.items) _ _ 0 c.loop-commit.commit (c.loop-commit.commit + 1)
    c.loop-commit.commit (omega arith) refl c.loop-commit.invariant c.in_ok-put_commit.ensures

pub returns : goal.returns
unfolding lines_of_editor
returns c = let all : c.loop-commit.commit ≡ 4 = omega arith in
    c.loop-commit.invariant ∙ ap (λ n. map act_of c.args.tasks.now.items ++ flat_map (commit_of c.args.editor) (range_with_len 0 n)) all
