use Rattle.std.proofs.Common.{◌++◌, sym, ◌∙◌, ap, arith}
use Rattle.generation.proofs.Words.{take_all, bytes_of_all}
use Rattle.generation.proofs.Members.{one_more, no_object}
use Rattle.generation.proofs.unchanged.are_same_files.Goals as goal

pub loop-place-preserved : goal.loop-place-preserved
loop-place-preserved c =
    let t = c.args.old_tree.now in
    let u = c.args.tree.now in
    let i = c.loop-place.place in
    λ k olds news.
    one_more k olds t c.args.before.now i no_object (omega arith)
    ∙ (λ j. c.loop-place.invariant k olds news j ++ c.is_same_file.ensures c.if-not-is_same_file.false k olds news j)
    ∙ sym (one_more k news u c.args.after.now i no_object (omega arith))

pub returns : goal.returns
returns c = λ e k olds news.
    ap (bytes_of_all k olds c.args.old_tree.now) (sym (take_all c.loop-place.place c.args.before.now (omega arith)))
    ∙ (c.loop-place.invariant k olds news ∙ ap (bytes_of_all k news c.args.tree.now) (take_all c.loop-place.place c.args.after.now (omega arith)))
