use Rattle.std.proofs.Common.{arith, ◌∙◌, ◌-◌, length}
use Rattle.path_tree.proofs.Checked.{check_deep}
use Rattle.path_tree.proofs.text.check_names.Goals as goal

pub returns-clause-read : goal.returns-clause-read
returns-clause-read c = c.loop.invariant.so_far ∙ check_deep (length c.args.text.now - length c.loop.rest.now) c.loop.counter c.loop.rest.now (omega arith)
