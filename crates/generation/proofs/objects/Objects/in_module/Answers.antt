use Rattle.std.proofs.Common.{◌∙◌}
use Rattle.generation.proofs.objects.Objects.in_module.Goals as goal

pub of_key-requires : goal.of_key-requires
of_key-requires c = rw c.deref.ensures.value c.requires.modules.rising

pub returns : goal.returns
returns c = rw (c.deref.ensures.value, c.from.ensures) at c.of_key.ensures ∙ c.requires.modules.each _
