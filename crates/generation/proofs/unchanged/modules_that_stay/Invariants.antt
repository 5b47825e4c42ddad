use Rattle.std.proofs.Common.{◌≡◌, length}
use Rattle.generation.proofs.Words.{SameModules, objects_in}
use Rattle.generation.proofs.unchanged.modules_that_stay.Given as goal

abbrev pub invariant-loop-id : goal.invariant-loop-id
invariant-loop-id l = record {
  as_many : length l.staying.items ≡ l.id;
  same : SameModules (objects_in l.old) (objects_in l.objects) l.staying.items;
}
