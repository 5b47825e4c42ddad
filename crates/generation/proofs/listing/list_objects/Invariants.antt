use Rattle.std.proofs.Common.{◌≡◌, map, take}
use Rattle.generation.specs.Objects.{object_of}
use Rattle.generation.proofs.Words.{view_placed}
use Rattle.generation.proofs.listing.list_objects.Given as goal

abbrev pub invariant-loop-object : goal.invariant-loop-object
invariant-loop-object l = l.list.items ≡ map object_of (map (view_placed l.tree) (take l.object-index l.objects))
