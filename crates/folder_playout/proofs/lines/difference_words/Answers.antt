use Rattle.std.proofs.Common.{rules, append_assoc}
use Rattle.folder_playout.proofs.lines.difference_words.Goals as goal

pub returns : goal.returns
returns c = search (rules, append_assoc)
