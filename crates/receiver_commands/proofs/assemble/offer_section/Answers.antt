use Rattle.std.proofs.Common.{◌∙◌, sym, ap}
use Rattle.std.specs.Option.{option_map}
use Rattle.ddb_block.specs.Blocks as ddb
use Rattle.receiver_commands.specs.Gathering.{asked_of}
use Rattle.receiver_commands.proofs.Offering.{blocks_unheard, blocks_other, blocks_offered}
use Rattle.receiver_commands.proofs.assemble.offer_section.Goals as goal

pub returns-then-is_wanted : goal.returns-then-is_wanted
returns-then-is_wanted c = λ sections h.
    rw c.offer.ensures.after
    (blocks_offered (asked_of c.args.wanted) c.args.assembler.now sections c.args.section.now (ddb.parts_view c.in-Some.block)
    (sym c.block_in.ensures ∙ ap (option_map ddb.parts_view) c.in-Some.is) (sym c.is_wanted.ensures ∙ c.if-is_wanted.true) h)

pub returns-else-is_wanted : goal.returns-else-is_wanted
returns-else-is_wanted c = λ sections h.
    blocks_other (asked_of c.args.wanted) c.args.assembler.now sections c.args.section.now (ddb.parts_view c.in-Some.block)
    (sym c.block_in.ensures ∙ ap (option_map ddb.parts_view) c.in-Some.is) (sym c.is_wanted.ensures ∙ c.if-is_wanted.false) h

pub returns-in_default : goal.returns-in_default
returns-in_default c = λ sections h.
    blocks_unheard (asked_of c.args.wanted) c.args.assembler.now sections c.args.section.now (sym c.block_in.ensures ∙ ap (option_map ddb.parts_view) c.in_default.is) h
