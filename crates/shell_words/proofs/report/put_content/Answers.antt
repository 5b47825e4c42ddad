use Rattle.std.proofs.Common.{◌≡◌, ◌==◌, false, length, ◌∙◌, sym}
use Rattle.std.proofs.lemmas.Result.{err_from_is_err_and}
use Rattle.shell_streams.proofs.CallerLemmas.{puts_then, puts_stop, puts_as}
use Rattle.shell_words.specs.Reports.{content_word}
use Rattle.shell_words.proofs.Digits.{content_is}
use Rattle.shell_words.proofs.report.put_content.Goals as goal

pub returns-in_err-put : goal.returns-in_err-put
returns-in_err-put g c =
    let p = err_from_is_err_and c.from_residual.result c.from_residual.ensures.1 in
    rw (p.1, p.2) (puts_stop (content_word c.args.content.now) c.in_err-put.ensures.puts)

pub returns : goal.returns
returns g c =
    let some : (length c.args.content.now == 0) ≡ false = sym c.is_empty.ensures ∙ c.if-is_empty.false in
    puts_then c.in_ok-put.ensures.puts (puts_as (content_is c.args.content.now some) c.put_digits.ensures)
