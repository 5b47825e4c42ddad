use Rattle.std.proofs.Common.{rules, append_assoc}
use Rattle.receiver_commands.proofs.watch.front_of_line.Goals as goal

pub returns : goal.returns
returns c = search (rules, append_assoc)
