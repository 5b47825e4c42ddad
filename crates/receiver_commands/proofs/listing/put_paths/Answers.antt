use Rattle.std.proofs.Common.{◌≤◌, ◌<◌, length, arith}
use Rattle.std.proofs.lemmas.Result.{err_from_is_err_and}
use Rattle.path_resolver.specs.Resolving.{answer_of}
use Rattle.path_resolver.specs.Shots.{held_of}
use Rattle.shell_words.specs.Texts.{is_found}
use Rattle.shell_streams.proofs.CallerLemmas.{puts_ok}
use Rattle.receiver_commands.specs.Listing.{list_line}
use Rattle.receiver_commands.specs.Open.{AllAnswers}
use Rattle.receiver_commands.proofs.Entries.{answered_none, answered_more, answered_stop, answered_all, found_all}
use Rattle.receiver_commands.proofs.listing.put_paths.Goals as goal

pub loop-path-init : goal.loop-path-init
loop-path-init g c = answered_none _ (list_line (answer_of (held_of c.args.shot.now))) (λ p. is_found (answer_of (held_of c.args.shot.now) p))

pub returns-in_err-found-clause-puts : goal.returns-in_err-found-clause-puts
returns-in_err-found-clause-puts g c =
    let p = err_from_is_err_and c.from_residual.result c.from_residual.ensures.1 in
    let answer : AllAnswers = answer_of (held_of c.args.shot.now) in
    let within : c.loop-path.path-index < length c.args.paths.now = omega arith in
    rw (p.1, p.2) (answered_stop (list_line answer) (λ p. is_found (answer p)) c.args.paths.now c.loop-path.path-index c.loop-path.invariant c.path-item.result within c.path-item.is c.in_err-found.ensures.puts)

pub loop-path-preserved : goal.loop-path-preserved
loop-path-preserved g c =
    let answer : AllAnswers = answer_of (held_of c.args.shot.now) in
    let within : c.loop-path.path-index < length c.args.paths.now = omega arith in
    answered_more (list_line answer) (λ p. is_found (answer p)) c.args.paths.now c.loop-path.path-index c.loop-path.invariant c.path-item.result c.in_ok-found.found c.both-all.result within c.path-item.is
    c.in_ok-found.ensures.puts c.in_ok-found.ensures.found c.both-all.ensures

pub returns-clause-found : goal.returns-clause-found
returns-clause-found g c =
    let answer : AllAnswers = answer_of (held_of c.args.shot.now) in
    let all : length c.args.paths.now ≤ c.loop-path.path-index = omega arith in
    found_all (list_line answer) (λ p. is_found (answer p)) c.args.paths.now c.loop-path.path-index c.loop-path.invariant all

pub returns-clause-puts : goal.returns-clause-puts
returns-clause-puts g c =
    let answer : AllAnswers = answer_of (held_of c.args.shot.now) in
    let all : length c.args.paths.now ≤ c.loop-path.path-index = omega arith in
    puts_ok _ (answered_all (list_line answer) (λ p. is_found (answer p)) c.args.paths.now c.loop-path.path-index c.loop-path.invariant all)
