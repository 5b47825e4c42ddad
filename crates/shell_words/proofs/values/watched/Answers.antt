use Rattle.std.proofs.Common.{ap}
use Rattle.std.specs.String.{string_bytes}
use Rattle.shell_words.specs.Words.{or_misfit}
use Rattle.shell_words.proofs.Naming.{few_watched, many_watched, few_paths}
use Rattle.shell_words.proofs.values.watched.Goals as goal

pub returns-then-words-le-MOST_WATCHED-clause-gives : goal.returns-then-words-le-MOST_WATCHED-clause-gives
returns-then-words-le-MOST_WATCHED-clause-gives c = rw (few_watched string_bytes c.args.words.now c.if-words-le-MOST_WATCHED.true) c.paths.ensures

pub returns-then-words-le-MOST_WATCHED-clause-few : goal.returns-then-words-le-MOST_WATCHED-clause-few
returns-then-words-le-MOST_WATCHED-clause-few c = few_paths string_bytes (λ paths. paths.items) c.args.words.now c.paths.result c.if-words-le-MOST_WATCHED.true c.paths.ensures

pub returns-else-words-le-MOST_WATCHED-clause-gives : goal.returns-else-words-le-MOST_WATCHED-clause-gives
returns-else-words-le-MOST_WATCHED-clause-gives c = ap or_misfit (many_watched string_bytes c.args.words.now c.if-words-le-MOST_WATCHED.false)
