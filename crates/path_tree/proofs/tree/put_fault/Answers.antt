use Rattle.std.proofs.Common.{arith}
use Rattle.std.proofs.lemmas.Grind.{common_steps}
use Rattle.path_tree.proofs.Changes.{above-cut}
use Rattle.path_tree.proofs.tree.put_fault.Goals as goal

pub returns-then-last_is_above-clause-fault : goal.returns-then-last_is_above-clause-fault
returns-then-last_is_above-clause-fault c = grind (arith, common_steps, above-cut c.args.entries.now c.args.path.now c.args.place c.requires.tree c.requires.place)

pub returns-then-bytes-gt-MOST_CONTENT-clause-fault : goal.returns-then-bytes-gt-MOST_CONTENT-clause-fault
returns-then-bytes-gt-MOST_CONTENT-clause-fault c = grind (arith, common_steps, above-cut c.args.entries.now c.args.path.now c.args.place c.requires.tree c.requires.place)

pub returns-else-bytes-gt-MOST_CONTENT-clause-fault : goal.returns-else-bytes-gt-MOST_CONTENT-clause-fault
returns-else-bytes-gt-MOST_CONTENT-clause-fault c = grind (arith, common_steps, above-cut c.args.entries.now c.args.path.now c.args.place c.requires.tree c.requires.place)
