use Rattle.std.proofs.Common.{rules, append_assoc}
use Rattle.shell_words.proofs.complaints.complaint_text.Goals as goal

pub returns-in-TooMany : goal.returns-in-TooMany
returns-in-TooMany c = rw c.in-TooMany.is (search (rules, append_assoc))
