use Rattle.std.proofs.Common.{arith}
use Rattle.std.proofs.lemmas.Grind.{common_steps}
use Rattle.path_tree.specs.Paths.{same_path}
use Rattle.receiver_commands.proofs.Firsts.{first_more}
use Rattle.receiver_commands.proofs.watch.each_once.Goals as goal

pub loop-i-preserved : goal.loop-i-preserved
loop-i-preserved c =
    grind (arith, common_steps, first_more same_path c.args.paths.now c.loop-i.i c.index-paths-i.result)
