use Rattle.generation.proofs.made.Generation.module_bytes.Goals as goal

pub find_module-requires : goal.find_module-requires
find_module-requires c = rw c.deref.ensures.value c.self.invariant.rising
