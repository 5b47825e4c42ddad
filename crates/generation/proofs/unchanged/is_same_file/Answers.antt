use Rattle.std.proofs.Common.{sym, ap, ◌∙◌}
use Rattle.generation.proofs.Words.{not-false, is_eq}
use Rattle.generation.proofs.Sharing.{same_file}
use Rattle.generation.proofs.unchanged.is_same_file.Goals as goal

pub returns : goal.returns
returns c = λ e. same_file c.args.old_tree.now c.args.tree.now c.args.before c.args.object c.args.named.now c.requires.old_tree c.requires.before c.requires.object c.requires.named
    (not-false c.args.before.spot.whole c.if-not-before.false) (not-false c.args.object.spot.whole c.if-not-object.false) c.if-before-object.false (sym c.is_named.ensures ∙ c.if-is_named.false)
    (ap is_eq (sym c.compare.ensures) ∙ sym c.is_eq.ensures ∙ e)
