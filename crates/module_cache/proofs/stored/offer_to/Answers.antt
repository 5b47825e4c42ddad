use Rattle.std.proofs.Common.{◌∙◌, ap, sym}
use Rattle.block_assembler.specs.Blocks.{AssemblerState, after_forget}
use Rattle.module_cache.specs.declared.stored.State.TheVariants.{Part}
use Rattle.module_cache.proofs.Offers.{forgotten}
use Rattle.module_cache.proofs.stored.offer_to.Goals as goal

pub returns-in-Err-clause-err : goal.returns-in-Err-clause-err
returns-in-Err-clause-err c =
    ap (λ (a : AssemblerState). Part a)
    (c.forget.ensures.after ∙ ap (λ (a : AssemblerState). after_forget a c.args.block) (c.in-Err.ensures.err ∙ c.offer.ensures.after)
    ∙ forgotten c.args.assembler c.args.block c.args.bytes.now (sym c.in-New.ensures.answer))
