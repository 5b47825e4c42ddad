use Rattle.rehearsal.proofs.Words.{◌∷◌, [], ◌∙◌, err_from_is_err_and, puts_none, puts_then, puts_stop, puts_as, reply_tail}
use Rattle.rehearsal.proofs.report.put_line.Goals as goal

pub returns-in_err-words : goal.returns-in_err-words
returns-in_err-words g c = let p = err_from_is_err_and c.from_residual.result c.from_residual.ensures.1 in rw (p.1, p.2) (puts_none _ _)

pub returns-in_err-put : goal.returns-in_err-put
returns-in_err-put g c = let p = err_from_is_err_and c.from_residual-in_err-put.result c.from_residual-in_err-put.ensures.1 in
    rw (p.1, p.2) (puts_stop {T = Unit {0}} (10 ∷ []) (puts_stop {T = Unit {0}} (reply_tail c.args.reply.now) (puts_as (c.as_bytes.ensures.value ∙ c.in_ok-words.ensures) c.in_err-put.ensures.puts)))

pub returns-in_err-put_tail : goal.returns-in_err-put_tail
returns-in_err-put_tail g c = let p = err_from_is_err_and c.from_residual-in_err-put_tail.result c.from_residual-in_err-put_tail.ensures.1 in
    rw (p.1, p.2) (puts_stop (10 ∷ []) (puts_then (puts_as (c.as_bytes.ensures.value ∙ c.in_ok-words.ensures) c.in_ok-put.ensures.puts) c.in_err-put_tail.ensures))

pub returns : goal.returns
returns g c =
    puts_then (puts_then (puts_as (c.as_bytes.ensures.value ∙ c.in_ok-words.ensures) c.in_ok-put.ensures.puts) c.in_ok-put_tail.ensures) c.put-2.ensures.puts
