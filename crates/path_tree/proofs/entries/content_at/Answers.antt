use Rattle.std.proofs.Common.{arith}
use Rattle.std.proofs.lemmas.Grind.{common_steps}
use Rattle.path_tree.proofs.Changes.{entry-cut}
use Rattle.path_tree.proofs.entries.content_at.Goals as goal

pub returns-in-Some-File : goal.returns-in-Some-File
returns-in-Some-File c = grind (arith, common_steps, entry-cut c.args.entries.now c.args.path.now c.args.place c.requires.tree c.requires.place)

pub returns-in_default : goal.returns-in_default
returns-in_default c = grind (arith, common_steps, entry-cut c.args.entries.now c.args.path.now c.args.place c.requires.tree c.requires.place)
