use Rattle.std.proofs.Common.{◌≡◌, take}
use Rattle.path_tree.specs.Paths.{same_path}
use Rattle.receiver_commands.specs.Firsts.{first_only}
use Rattle.receiver_commands.proofs.watch.each_once.Given as goal

abbrev pub invariant-loop-i : goal.invariant-loop-i
invariant-loop-i l = l.once.items ≡ first_only same_path (take l.i l.paths)
