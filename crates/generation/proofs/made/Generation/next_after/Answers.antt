use Rattle.std.proofs.Common.{Ok, ap, sym, ◌∙◌}
use Rattle.generation.proofs.made.Generation.next_after.Goals as goal

pub renewed-requires-clause-flags : goal.renewed-requires-clause-flags
renewed-requires-clause-flags c = rw (c.deref.ensures.value, ← c.tree-2.ensures.tree) (c.in_ok-named.ensures.as_before c.args.self.now.tree (c.requires.edits ∙ ap Ok (sym c.tree-2.ensures.tree)))
