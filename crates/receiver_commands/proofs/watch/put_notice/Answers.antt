use Rattle.std.proofs.lemmas.Result.{err_from_is_err_and}
use Rattle.path_resolver.specs.Resolving.{answer_of}
use Rattle.path_resolver.specs.Shots.{held_of}
use Rattle.shell_streams.proofs.CallerLemmas.{puts_none, puts_then, puts_stop, puts_as}
use Rattle.receiver_commands.specs.Watch.{path_at}
use Rattle.receiver_commands.proofs.Showing.{path_there, line_of_path}
use Rattle.receiver_commands.proofs.watch.put_notice.Goals as goal

pub returns-in_err-answer : goal.returns-in_err-answer
returns-in_err-answer g c =
    let p = err_from_is_err_and c.from_residual.result c.from_residual.ensures.1 in
    rw (p.1, p.2) (puts_none _ _)

pub returns-in_err-front : goal.returns-in_err-front
returns-in_err-front g c =
    let p = err_from_is_err_and c.from_residual-in_err-front.result c.from_residual-in_err-front.ensures.1 in
    rw (p.1, p.2) (puts_none _ _)

pub returns-in_err-put : goal.returns-in_err-put
returns-in_err-put g c =
    let p = err_from_is_err_and c.from_residual-in_err-put.result c.from_residual-in_err-put.ensures.1 in
    rw (p.1, p.2) (puts_stop _ (rw (c.as_bytes.ensures.value, c.in_ok-front.ensures) at c.in_err-put.ensures.puts))

pub returns : goal.returns
returns g c =
    let answer = answer_of (held_of c.args.shot.now) in
    let path = path_there c.args.paths.now c.args.notice.path c.index-paths-place.result c.index-paths-place.is c.requires in
    let line = line_of_path answer (path_at c.args.paths.now c.args.notice.path) c.index-paths-place.result c.in_ok-answer.answer path c.in_ok-answer.ensures.answer in
    puts_then (rw (c.as_bytes.ensures.value, c.in_ok-front.ensures) at c.in_ok-put.ensures.puts) (puts_as line c.put_line.ensures)
