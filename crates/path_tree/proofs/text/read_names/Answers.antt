use Rattle.std.proofs.Common.{arith, ◌∙◌, ◌-◌, length}
use Rattle.path_tree.proofs.Read.{read_deep}
use Rattle.path_tree.proofs.text.read_names.Goals as goal

pub returns-clause-read : goal.returns-clause-read
returns-clause-read c = c.loop.invariant.so_far ∙ read_deep c.loop.names.items (length c.args.text.now - length c.loop.rest.now) c.loop.counter c.loop.rest.now (omega arith)
