use Rattle.session_script.proofs.Imports.{◌≡◌, ◌++◌, ◌+◌, ◌*◌, ◌∙◌, map, refl, ap, arith, range_with_len, act_of, fill_of, commit_of}
use Rattle.session_script.specs.Scripts as acts
use Rattle.session_script.proofs.Lists.{push_more, push_last}
use Rattle.session_script.proofs.generator.put_commit.Goals as goal

pub loop-place-preserved : goal.loop-place-preserved
unfolding fill_of
loop-place-preserved c = rw c.in_ok-push.ensures.items (push_more act_of (fill_of c.args.editor) c.loop-place.tasks.items (map act_of c.args.tasks.now.items) _
    (8 * c.args.commit) c.loop-place.place (c.loop-place.place + 1) (8 * c.args.commit + c.loop-place.place) refl refl
    c.loop-place.invariant (rw c.in_ok-path.ensures refl))

pub returns : goal.returns
unfolding commit_of
returns c = let all : c.loop-place.place ≡ 8 = omega arith in let base = map act_of c.args.tasks.now.items in
    rw c.in_ok-push-2.ensures.items
    (push_last act_of c.loop-place.tasks.items base (map (fill_of c.args.editor) (range_with_len (8 * c.args.commit) 8)) _ (acts.Commit c.args.editor)
    (c.loop-place.invariant ∙ ap (λ n. base ++ map (fill_of c.args.editor) (range_with_len (8 * c.args.commit) n)) all) refl)
