use Rattle.std.proofs.Common.{◌≡◌, map, take}
use Rattle.std.specs.List.{All}
use Rattle.dsmcc_section.specs.Sections.{IsFramed}
use Rattle.generation.specs.Layouts.{section_of}
use Rattle.section_workers.proofs.encoding.encode.Given as goal

abbrev pub invariant-loop-item : goal.invariant-loop-item
invariant-loop-item l =
    (map (λ s. s.items) l.sections.items ≡ map (section_of l.generation) (take l.item-index l.items))
    × All (λ s. IsFramed s.items) l.sections.items
