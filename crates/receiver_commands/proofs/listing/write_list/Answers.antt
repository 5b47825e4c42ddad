use Rattle.std.proofs.Common.{◌≡◌, ◌&&◌, ℕ, Bool, true, false, List, length, take, nat_le, refl, ap, ◌∙◌, append-nil}
use Rattle.std.specs.List.{flat_map, list_all}
use Rattle.std.proofs.lemmas.Bool.{leb-true}
use Rattle.std.proofs.lemmas.List.{take_all}
use Rattle.std.proofs.lemmas.Result.{err_from_is_err_and}
use Rattle.path_resolver.specs.Resolving.{answer_of}
use Rattle.path_resolver.specs.Shots.{held_of}
use Rattle.shell_streams.proofs.CallerLemmas.{puts_none, puts_then, puts_stop, puts_as, puts_ok, puts_err}
use Rattle.shell_words.specs.Texts.{is_found}
use Rattle.path_listing.specs.Walk.{all_paths}
use Rattle.path_listing.specs.declared.walking.TheConstants.{MOST_LISTED}
use Rattle.receiver_commands.specs.Listing.{list_line, is_short, more_unless}
use Rattle.receiver_commands.specs.Open.{AllAnswers}
use Rattle.receiver_commands.proofs.listing.write_list.Goals as goal

-- where there are no others, the first are all
first_are_all : {X : Type 0} (test : X → Bool) (n : ℕ) (xs : List X) → (nat_le (length xs) n && list_all test (take n xs)) ≡ (nat_le (length xs) n && list_all test xs)
first_are_all test n xs = by (nat_le (length xs) n) refl
  where
    by : (b : Bool) → nat_le (length xs) n ≡ b → (b && list_all test (take n xs)) ≡ (b && list_all test xs)
    by true e = ap (list_all test) (take_all n xs (leb-true _ _ e))
    by false e = refl

pub returns-in_err-listing-clause-puts : goal.returns-in_err-listing-clause-puts
returns-in_err-listing-clause-puts g c =
    let p = err_from_is_err_and c.from_residual.result c.from_residual.ensures.1 in
    rw (p.1, p.2) (puts_none _ _)

pub returns-in_err-found-clause-puts : goal.returns-in_err-found-clause-puts
returns-in_err-found-clause-puts g c =
    let p = err_from_is_err_and c.from_residual-in_err-found.result c.from_residual-in_err-found.ensures.1 in
    let answer : AllAnswers = answer_of (held_of c.args.shot.now) in
    let lines = ap (flat_map (list_line answer)) (c.deref.ensures.value ∙ c.in_ok-listing.ensures.paths) in
    rw (p.1, p.2) (puts_stop _ (puts_as lines c.in_err-found.ensures.puts))

pub returns-in_err-put-clause-puts : goal.returns-in_err-put-clause-puts
returns-in_err-put-clause-puts g c =
    let p = err_from_is_err_and c.from_residual-in_err-put.result c.from_residual-in_err-put.ensures.1 in
    let answer : AllAnswers = answer_of (held_of c.args.shot.now) in
    let lines = ap (flat_map (list_line answer)) (c.deref.ensures.value ∙ c.in_ok-listing.ensures.paths) in
    let last = c.last_line.ensures ∙ ap more_unless c.in_ok-listing.ensures.whole in
    rw (p.1, p.2) (puts_err (puts_then (puts_as lines c.in_ok-found.ensures.puts) (puts_as last c.in_err-put.ensures.puts)))

pub returns-in_err-flush-clause-puts : goal.returns-in_err-flush-clause-puts
returns-in_err-flush-clause-puts g c =
    let p = err_from_is_err_and c.from_residual-in_err-flush.result c.from_residual-in_err-flush.ensures.1 in
    let answer : AllAnswers = answer_of (held_of c.args.shot.now) in
    let lines = ap (flat_map (list_line answer)) (c.deref.ensures.value ∙ c.in_ok-listing.ensures.paths) in
    let last = c.last_line.ensures ∙ ap more_unless c.in_ok-listing.ensures.whole in
    rw (p.1, p.2) (puts_err (puts_as (append-nil _) (puts_then (puts_then (puts_as lines c.in_ok-found.ensures.puts) (puts_as last c.in_ok-put.ensures.puts)) c.in_err-flush.ensures.puts)))

pub returns-clause-puts : goal.returns-clause-puts
returns-clause-puts g c =
    let answer : AllAnswers = answer_of (held_of c.args.shot.now) in
    let lines = ap (flat_map (list_line answer)) (c.deref.ensures.value ∙ c.in_ok-listing.ensures.paths) in
    let last = c.last_line.ensures ∙ ap more_unless c.in_ok-listing.ensures.whole in
    puts_ok _ (puts_as (append-nil _) (puts_then (puts_then (puts_as lines c.in_ok-found.ensures.puts) (puts_as last c.in_ok-put.ensures.puts)) c.in_ok-flush.ensures.puts))

pub returns-clause-listed : goal.returns-clause-listed
returns-clause-listed g c =
    let answer : AllAnswers = answer_of (held_of c.args.shot.now) in
    let found = c.in_ok-found.ensures.found ∙ ap (list_all (λ p. is_found (answer p))) (c.deref.ensures.value ∙ c.in_ok-listing.ensures.paths) in
    c.both.ensures ∙ ap (λ b. b && c.in_ok-found.found) c.in_ok-listing.ensures.whole ∙ ap (λ b. is_short answer && b) found ∙ first_are_all (λ p. is_found (answer p)) MOST_LISTED (all_paths answer)
