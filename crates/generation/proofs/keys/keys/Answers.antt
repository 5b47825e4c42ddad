use Rattle.generation.proofs.keys.keys.Goals as goal

pub returns : goal.returns
returns c = rw (c.deref-2.ensures.value, c.in_ok-free.ensures, c.deref.ensures.value, c.in_ok-taken.ensures) at c.fill.ensures
