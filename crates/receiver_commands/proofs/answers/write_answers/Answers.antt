use Rattle.std.proofs.Common.{◌≤◌, ◌<◌, length, arith}
use Rattle.std.proofs.lemmas.Result.{err_from_is_err_and}
use Rattle.shell_streams.proofs.CallerLemmas.{puts_ok, puts_err}
use Rattle.shell_words.specs.Texts.{is_found, open_entry}
use Rattle.receiver_commands.proofs.Entries.{answered_none, answered_more, answered_stop, answered_sent, found_all}
use Rattle.receiver_commands.proofs.answers.write_answers.Goals as goal

pub loop-path-init : goal.loop-path-init
loop-path-init g c = λ answer h. answered_none _ (open_entry answer) (λ p. is_found (answer p))

pub returns-in_err-found-clause-puts : goal.returns-in_err-found-clause-puts
returns-in_err-found-clause-puts g c =
    let p = err_from_is_err_and c.from_residual.result c.from_residual.ensures.1 in
    let within : c.loop-path.path-index < length c.args.paths.now = omega arith in
    rw (p.1, p.2) (λ answer h. answered_stop (open_entry answer) (λ p. is_found (answer p)) c.args.paths.now c.loop-path.path-index (c.loop-path.invariant answer h) c.path-item.result within c.path-item.is (c.in_err-found.ensures.puts answer h))

pub loop-path-preserved : goal.loop-path-preserved
loop-path-preserved g c =
    let within : c.loop-path.path-index < length c.args.paths.now = omega arith in
    λ answer h. answered_more (open_entry answer) (λ p. is_found (answer p)) c.args.paths.now c.loop-path.path-index (c.loop-path.invariant answer h) c.path-item.result c.in_ok-found.found c.both-all.result within c.path-item.is
    (c.in_ok-found.ensures.puts answer h) (c.in_ok-found.ensures.found answer h) c.both-all.ensures

pub returns-in_err-flush-clause-puts : goal.returns-in_err-flush-clause-puts
returns-in_err-flush-clause-puts g c =
    let p = err_from_is_err_and c.from_residual-in_err-flush.result c.from_residual-in_err-flush.ensures.1 in
    let all : length c.args.paths.now ≤ c.loop-path.path-index = omega arith in
    rw (p.1, p.2) (λ answer h. puts_err (answered_sent (open_entry answer) (λ p. is_found (answer p)) c.args.paths.now c.loop-path.path-index (c.loop-path.invariant answer h) all c.in_err-flush.ensures.puts))

pub returns-clause-found : goal.returns-clause-found
returns-clause-found g c =
    let all : length c.args.paths.now ≤ c.loop-path.path-index = omega arith in
    λ answer h. found_all (open_entry answer) (λ p. is_found (answer p)) c.args.paths.now c.loop-path.path-index (c.loop-path.invariant answer h) all

pub returns-clause-puts : goal.returns-clause-puts
returns-clause-puts g c =
    let all : length c.args.paths.now ≤ c.loop-path.path-index = omega arith in
    λ answer h. puts_ok _ (answered_sent (open_entry answer) (λ p. is_found (answer p)) c.args.paths.now c.loop-path.path-index (c.loop-path.invariant answer h) all c.in_ok-flush.ensures.puts)
