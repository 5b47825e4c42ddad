use Rattle.std.proofs.Common.{◌∙◌}
use Rattle.generation.proofs.objects.Objects.in_folder.Goals as goal

pub of_key-requires : goal.of_key-requires
of_key-requires c = rw c.deref.ensures.value c.requires.folders.rising

pub returns : goal.returns
returns c = rw c.deref.ensures.value at c.of_key.ensures ∙ c.requires.folders.each _
