use Rattle.std.proofs.Common.{arith, subst, sym, List, ℕ}
use Rattle.module_groups.specs.declared.TheConstants.{GREATEST_ID}
use Rattle.module_packer.specs.Placement.{IsPlacement}
use Rattle.module_packer.proofs.Fresh.{fresh_is, placed_number, placed_all}
use Rattle.module_packer.proofs.place_fresh.Goals as goal

pub overflow_cast-module : goal.overflow_cast-module
overflow_cast-module c =
    omega (arith, placed_number c.loop-size.modules.items c.loop-size.packing c.args.sizes.now c.loop-size.size-index c.place-module.result c.loop-size-test.true c.place-module.ensures.module c.loop-size.invariant)

pub returns-clause-fits : goal.returns-clause-fits
returns-clause-fits c =
    let all = placed_all c.loop-size.modules.items c.loop-size.packing c.args.sizes.now c.loop-size.size-index c.loop-size-test.false c.loop-size.invariant in
    subst (λ (ms : List ℕ). IsPlacement GREATEST_ID c.args.sizes.now ms) (sym all) (fresh_is GREATEST_ID c.args.sizes.now c.requires.some c.requires.few)
