use Rattle.std.proofs.Common.{rules, append_assoc}
use Rattle.shell_words.proofs.complaints.misfit_text.Goals as goal

pub returns : goal.returns
returns c = search (rules, append_assoc)
