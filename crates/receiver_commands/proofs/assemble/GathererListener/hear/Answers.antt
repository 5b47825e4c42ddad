use Rattle.std.proofs.Common.{◌++◌, ◌∷◌, [], sym, subst}
use Rattle.receiver_commands.specs.Gathering.{asked_of}
use Rattle.receiver_commands.specs.Inner.Gathering.{HasBlocks}
use Rattle.receiver_commands.specs.declared.assemble.Wanted.{Wanted}
use Rattle.receiver_commands.proofs.assemble.GathererListener.hear.Goals as goal

pub returns : goal.returns
returns c = λ start sections h.
    let Old : Wanted → Type 0 = λ w. HasBlocks (asked_of w) c.args.self.now.assembler sections in
    let New : Wanted → Type 0 = λ w. HasBlocks (asked_of w) c.offer_section.new.assembler (sections ++ c.args.section.now ∷ []) in
    record { same = h.same; blocks = subst New h.same (c.offer_section.ensures sections (subst Old (sym h.same) h.blocks)) }
