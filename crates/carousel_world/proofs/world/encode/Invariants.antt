use Rattle.std.proofs.Common.{◌≡◌, map, take}
use Rattle.std.specs.List.{All}
use Rattle.generation.specs.Layouts.{section_of}
use Rattle.section_stream.specs.Kept.{view_bytes}
use Rattle.section_stream.specs.Packing.{IsSectionLike}
use Rattle.carousel_world.proofs.world.encode.Given as goal

abbrev pub invariant-loop-item : goal.invariant-loop-item
invariant-loop-item l = record {
  sections : map view_bytes l.sections.items ≡ map (section_of l.generation) (take l.item-index l.items);
  like : All (λ s. IsSectionLike s.items) l.sections.items;
}
