use Rattle.std.proofs.Common.{◌≡◌, map}
use Rattle.generation.proofs.Words.{filter_map, range_with_len, module_if_used, view_listed, objects_in, AreMarked}
use Rattle.generation.proofs.made.modules_of.Given as goal

abbrev pub invariant-loop-below : goal.invariant-loop-below
invariant-loop-below l = record {
  layout : map view_listed l.modules.items ≡ filter_map (module_if_used l.carousel (objects_in l.objects)) (range_with_len 1 l.below);
  marked : AreMarked (map view_listed l.before) l.modules.items;
}
