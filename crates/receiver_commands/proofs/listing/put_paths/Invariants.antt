use Rattle.std.proofs.Common.{take}
use Rattle.path_resolver.specs.Resolving.{answer_of}
use Rattle.path_resolver.specs.Shots.{held_of}
use Rattle.shell_words.specs.Texts.{is_found}
use Rattle.receiver_commands.specs.Listing.{list_line}
use Rattle.receiver_commands.proofs.Entries.{HasAnswered}
use Rattle.receiver_commands.proofs.listing.put_paths.Given as goal

abbrev pub invariant-loop-path : goal.invariant-loop-path
invariant-loop-path g l =
    HasAnswered (g.O.Output.state l.fn.out) (g.O.Output.state l.out) (list_line (answer_of (held_of l.shot))) (λ p. is_found (answer_of (held_of l.shot) p)) (take l.path-index l.paths) l.all
