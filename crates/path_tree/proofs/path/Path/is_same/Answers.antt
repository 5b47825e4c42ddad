use Rattle.std.proofs.Common.{sym, ◌∙◌, ap}
use Rattle.std.specs.Ordering.{is_eq}
use Rattle.path_tree.proofs.Order.{same_path-cmp}
use Rattle.path_tree.proofs.path.Path.is_same.Goals as goal

pub returns : goal.returns
returns c = c.is_eq.ensures ∙ ap is_eq c.compare.ensures ∙ sym (same_path-cmp c.args.self.now c.args.other.now)
