use Rattle.std.proofs.Common.{◌∙◌, sym, ap, refl, Some}
use Rattle.std.specs.Option.{option_map}
use Rattle.receiver_commands.proofs.Joining.{joined_all}
use Rattle.receiver_commands.proofs.Assembling.{module_put}
use Rattle.receiver_commands.proofs.Writing.{writes_all}
use Rattle.receiver_commands.proofs.assemble.write_module.Goals as goal

pub returns-in-Some-clause-writes : goal.returns-in-Some-clause-writes
returns-in-Some-clause-writes g c = (sym c.first_missing.ensures ∙ c.in-Some.is ∙ ap Some (sym c.from.ensures), refl)

pub returns-in-Ok-clause-writes : goal.returns-in-Ok-clause-writes
returns-in-Ok-clause-writes g c = (_, sym c.whole.ensures ∙ ap (option_map (λ b. b.now)) c.in-Some-whole.is, writes_all c.requires c.in-Ok.ensures.empty c.in-Ok.ensures.puts)

pub returns-in-Err-clause-writes : goal.returns-in-Err-clause-writes
returns-in-Err-clause-writes g c = rw c.from-in-Err.ensures (module_put c.args.assembler.now.blocks _ _ _ c.in-Err.fault (sym c.whole.ensures ∙ ap (option_map (λ b. b.now)) c.in-Some-whole.is) c.requires c.in-Err.ensures.puts)

pub unreachable-requires : goal.unreachable-requires
unreachable-requires g c = joined_all c.args.assembler.now.blocks (sym c.first_missing.ensures ∙ c.in_default.is) (sym c.whole.ensures ∙ ap (option_map (λ b. b.now)) c.in-None.is)
