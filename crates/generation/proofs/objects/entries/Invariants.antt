use Rattle.std.proofs.Common.{◌≡◌, map, take}
use Rattle.generation.proofs.Words.{All, IsEntry}
use Rattle.generation.proofs.Members.{binding_of}
use Rattle.generation.proofs.objects.entries.Given as goal

abbrev pub invariant-loop-child : goal.invariant-loop-child
invariant-loop-child l = record {
  valid : All IsEntry l.entries.items;
  so_far : l.entries.items ≡ map (binding_of l.carousel l.objects.tree) (take l.child-index l.members);
}
