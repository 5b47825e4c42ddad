use Rattle.std.proofs.Common.{take}
use Rattle.shell_words.specs.Texts.{is_found, open_entry}
use Rattle.receiver_commands.specs.Open.{AllAnswers}
use Rattle.receiver_commands.proofs.Entries.{HasAnswered}
use Rattle.receiver_commands.proofs.answers.write_answers.Given as goal

abbrev pub invariant-loop-path : goal.invariant-loop-path
invariant-loop-path g l = (answer : AllAnswers) → g.A.Answerer.answers l.answerer answer
    → HasAnswered (g.O.Output.state l.fn.out) (g.O.Output.state l.out) (open_entry answer) (λ p. is_found (answer p)) (take l.path-index l.paths) l.all
