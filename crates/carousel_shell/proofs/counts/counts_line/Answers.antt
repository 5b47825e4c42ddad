use Rattle.std.proofs.Common.{rules, append_assoc}
use Rattle.carousel_shell.proofs.counts.counts_line.Goals as goal

pub returns : goal.returns
returns c = search (rules, append_assoc)
