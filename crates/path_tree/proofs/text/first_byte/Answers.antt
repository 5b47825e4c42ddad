use Rattle.std.proofs.Common.{rules, arith}
use Rattle.path_tree.proofs.Escapes.{bad_escape, short_escape}
use Rattle.path_tree.proofs.text.first_byte.Goals as goal

pub returns-in-None : goal.returns-in-None
returns-in-None c out = bad_escape c.args.text.now c.in-37.len_at_least (search rules) (search rules) out

pub returns-in-37-2 : goal.returns-in-37-2
returns-in-37-2 c out = short_escape c.args.text.now (omega arith) (search rules) out
