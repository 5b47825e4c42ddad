use Rattle.generation.proofs.Grouping.{dii_listed}
use Rattle.generation.proofs.Writing.{dii_arm}
use Rattle.generation.proofs.made.Generation.section.Goals as goal

pub returns-in-Dsi-clause-exact : goal.returns-in-Dsi-clause-exact
returns-in-Dsi-clause-exact c = rw (← c.self.view_is, c.in-Dsi.is) c.dsi_section.ensures.spells

pub dii_section-requires-clause-group : goal.dii_section-requires-clause-group
dii_section-requires-clause-group c = let is = dii_listed c.args.self.now c.in-Dii.group (rw c.in-Dii.is at c.requires) in (is.above, is.within)

pub dii_section-requires-clause-rising : goal.dii_section-requires-clause-rising
dii_section-requires-clause-rising c = rw c.deref.ensures.value c.self.invariant.rising

pub block_of_module-requires-clause-rising : goal.block_of_module-requires-clause-rising
block_of_module-requires-clause-rising c = rw c.deref-in-Block.ensures.value c.self.invariant.rising

pub returns-in-Dii-clause-exact : goal.returns-in-Dii-clause-exact
returns-in-Dii-clause-exact c = rw (← c.self.view_is, c.in-Dii.is)
    (dii_arm c.dii_section.result c.self.inside.carousel c.self.inside.number c.in-Dii.group c.self.inside.counts.items c.deref-in-Dii.result.now c.self.inside.modules.items c.deref.result.now c.deref-in-Dii.ensures.value c.deref.ensures.value c.dii_section.ensures.spells)

pub returns-in-Block-clause-exact : goal.returns-in-Block-clause-exact
returns-in-Block-clause-exact c = rw (← c.self.view_is, c.in-Block.is) (rw (c.deref-in-Block.ensures.value, c.deref-in-Block-2.ensures.value) at c.block_of_module.ensures.spells)
