use Rattle.std.proofs.Common.{◌≡◌, ◌++◌, take}
use Rattle.std.specs.List.{AllWithin, flat_map}
use Rattle.ior_tap.specs.Iors.{IsLocation}
use Rattle.biop_object.specs.Objects.{binding_spelling}
use Rattle.biop_object.proofs.written.put_bindings.Given as goal

abbrev pub invariant-loop-entry : goal.invariant-loop-entry
invariant-loop-entry l = record {
  put : l.out ≡ l.fn.out ++ flat_map binding_spelling (take l.entry-index l.entries);
  room : AllWithin (λ w. IsLocation w.location) l.entries 0 l.entry-index;
}
