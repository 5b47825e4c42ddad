use Rattle.generation.proofs.control.control.Goals as goal

pub returns-clause-spells : goal.returns-clause-spells
returns-clause-spells c = rw c.deref.ensures.value at c.section.ensures.spells
