use Rattle.std.proofs.Common.{◌∙◌, arith}
use Rattle.std.proofs.lemmas.Grind.{common_steps}
use Rattle.path_tree.proofs.Changes.{taken_within, taken_out}
use Rattle.path_tree.proofs.tree.make.Goals as goal

pub remove-requires : goal.remove-requires
remove-requires c =
    let within = taken_within c.args.entries.now.items c.args.edit.now c.args.place c.requires.tree c.requires.place c.requires.no_fault c.in-Remove.is in
    grind (arith, common_steps, within)

pub returns-in-Remove : goal.returns-in-Remove
returns-in-Remove c = c.remove.ensures.items ∙ taken_out c.args.entries.now.items c.args.edit.now c.args.place c.requires.tree c.requires.place c.requires.no_fault c.in-Remove.is
