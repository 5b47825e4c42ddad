use Rattle.std.proofs.Common.{arith}
use Rattle.std.proofs.lemmas.Grind.{common_steps}
use Rattle.path_tree.proofs.Changes.{entry-cut}
use Rattle.path_tree.proofs.entries.is_kept.Goals as goal

pub returns-in-Some-Folder : goal.returns-in-Some-Folder
returns-in-Some-Folder c = grind (arith, common_steps, entry-cut c.args.entries.now c.args.path.now c.args.place c.requires.tree c.requires.place)

pub returns-in_default : goal.returns-in_default
returns-in_default c = grind (arith, common_steps, entry-cut c.args.entries.now c.args.path.now c.args.place c.requires.tree c.requires.place)

pub returns-in_default-2 : goal.returns-in_default-2
returns-in_default-2 c = grind (arith, common_steps, entry-cut c.args.entries.now c.args.path.now c.args.place c.requires.tree c.requires.place)
