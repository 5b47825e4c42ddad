use Rattle.std.proofs.Common.{◌∙◌, sym, []}
use Rattle.std.proofs.lemmas.Bool.{cond-true}
use Rattle.shell_streams.proofs.CallerLemmas.{puts_as}
use Rattle.receiver_commands.specs.Accepted as sections
use Rattle.receiver_commands.proofs.record.put_one.Goals as goal

pub returns-then-is_accepted : goal.returns-then-is_accepted
returns-then-is_accepted g c =
    puts_as (sym (cond-true (sections.is_accepted c.args.candidate.now) c.args.candidate.now [] (sym c.is_accepted.ensures ∙ c.if-is_accepted.true))) c.put.ensures.puts
