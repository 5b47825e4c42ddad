use Rattle.std.proofs.Common.{◌∙◌}
use Rattle.std.specs.List.{flat_map}
use Rattle.std.proofs.lemmas.Result.{err_from_is_err_and}
use Rattle.path_tree.specs.Texts.{printed_byte}
use Rattle.shell_streams.proofs.CallerLemmas.{puts_none, puts_then, puts_stop, puts_as}
use Rattle.shell_words.proofs.report.put_name.Goals as goal

pub returns-in_err-text : goal.returns-in_err-text
returns-in_err-text g c =
    let p = err_from_is_err_and c.from_residual.result c.from_residual.ensures.1 in
    rw (p.1, p.2) (puts_none _ _)

pub returns-in_err-put : goal.returns-in_err-put
returns-in_err-put g c =
    let p = err_from_is_err_and c.from_residual-in_err-put.result c.from_residual-in_err-put.ensures.1 in
    rw (p.1, p.2) (puts_stop (flat_map printed_byte c.args.name.now) c.in_err-put.ensures.puts)

pub returns : goal.returns
returns g c = puts_then c.in_ok-put.ensures.puts (puts_as (c.as_bytes.ensures.value ∙ c.in_ok-text.ensures) c.put-2.ensures.puts)
