use Rattle.std.proofs.Common.{rules}
use Rattle.path_tree.specs.Texts.{is_slash}
use Rattle.path_tree.proofs.Pieces.{cut_none, cut_at}
use Rattle.path_tree.proofs.text.first_piece.Goals as goal

pub returns-in-Some : goal.returns-in-Some
returns-in-Some c = cut_at is_slash c.args.text.now c.in-Some.end (search rules)

pub returns-in-None : goal.returns-in-None
returns-in-None c = cut_none is_slash c.args.text.now (search rules)
