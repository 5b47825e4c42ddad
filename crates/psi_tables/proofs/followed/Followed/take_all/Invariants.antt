use Rattle.std.proofs.Common.{◌≡◌, map, drop}
use Rattle.section_stream.specs.Kept.{view_bytes}
use Rattle.psi_tables.specs.Inner.Steps.{after_pmts}
use Rattle.psi_tables.proofs.followed.Followed.take_all.Given as goal

abbrev pub invariant-loop-section : goal.invariant-loop-section
invariant-loop-section l = record {
  programs : after_pmts l.carousel l.self.programs.items (map view_bytes (drop l.section-index l.sections)) ≡ after_pmts l.carousel l.fn.self.programs.items (map view_bytes l.sections);
  pid : l.self.pid ≡ l.fn.self.pid;
  demux : l.self.demux ≡ l.fn.self.demux;
}
