use Rattle.std.proofs.Common.{◌≡◌, map, take}
use Rattle.section_stream.specs.Kept.{view_bytes}
use Rattle.psi_tables.proofs.Keeping.{Takes}
use Rattle.psi_tables.proofs.directory.Directory.take_all.Given as goal

abbrev pub invariant-loop-section : goal.invariant-loop-section
invariant-loop-section l = record {
  takes : Takes l.fn.self l.self (map view_bytes (take l.section-index l.sections));
  carousel : l.self.carousel ≡ l.fn.self.carousel;
}
