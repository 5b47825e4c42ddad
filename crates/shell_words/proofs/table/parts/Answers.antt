use Rattle.std.proofs.Common.{◌≡◌, None, lit<}
use Rattle.std.proofs.lemmas.Str.Pattern.{split_once_first}
use Rattle.shell_words.proofs.Tabling.{no_equals_sign}
use Rattle.shell_words.proofs.table.parts.Goals as goal

pub returns-in_err-name-clause-value : goal.returns-in_err-name-clause-value
returns-in_err-name-clause-value c =
    let none : c.split_once.result ≡ None = c.in_err-name.was in
    rw c.from_residual.ensures (no_equals_sign c.args.text.now (rw none at (split_once_first 61 c.args.text.now c.split_once.result c.split_once.ensures.cases (lit< tt))))
