use Rattle.std.proofs.Common.{◌≡◌, take}
use Rattle.generation.proofs.Words.{bytes_of_all, objects_in}
use Rattle.generation.proofs.objects.module_bytes.Given as goal

abbrev pub invariant-loop-object : goal.invariant-loop-object
invariant-loop-object l = l.bytes.items ≡ bytes_of_all l.carousel (objects_in l.objects) l.objects.tree (take l.object-index l.members)
