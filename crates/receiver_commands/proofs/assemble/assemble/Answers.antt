use Rattle.std.proofs.Common.{ap, refl, Err, []}
use Rattle.shell_streams.proofs.CallerLemmas.{told_same}
use Rattle.receiver_commands.specs.Gathering.{asked_of}
use Rattle.receiver_commands.proofs.Assembling.{assembles_nothing, assembles_stopped, assembles_gathered}
use Rattle.receiver_commands.proofs.Offering.{blocks_begin}
use Rattle.receiver_commands.proofs.assemble.assemble.Goals as goal

pub returns-in-Err-NoMemory-clause-assembles : goal.returns-in-Err-NoMemory-clause-assembles
returns-in-Err-NoMemory-clause-assembles g c = assembles_nothing (asked_of c.args.wanted) _ _ (told_same _ (λ x. record { taken = []; whole = refl })) refl

pub hear_all-requires : goal.hear_all-requires
hear_all-requires g c = record { same = refl; blocks = blocks_begin (asked_of c.args.wanted) _ c.in-Ok.ensures.made }

pub returns-in-Ok-hear_all-clause-assembles : goal.returns-in-Ok-hear_all-clause-assembles
returns-in-Ok-hear_all-clause-assembles g c =
    let all = c.in-Ok-hear_all.ensures.ok in
    assembles_gathered (asked_of c.args.wanted) _ _ all.taken _ _ all.told all.heard.blocks.blocks c.write_module.ensures.writes

pub returns-clause-assembles : goal.returns-clause-assembles
returns-clause-assembles g c = rw c.from.ensures (assembles_stopped (asked_of c.args.wanted) _ _ c.in-Err-hear_all.fault c.in-Err-hear_all.ensures.err (λ e. c.in-Err-hear_all.ensures.cause (ap Err e)) refl)
