use Rattle.std.proofs.Common.{◌≡◌, ◌≤◌, List, length}
use Rattle.oc_bytes.specs.Outcome.{Known}
use Rattle.shell_streams.specs.Cuts.{Bytes}
use Rattle.shell_streams.specs.Packets.{onto_left}
use Rattle.shell_streams.specs.Inner.Held.{AreCut}
use Rattle.shell_streams.proofs.carrier.hear_sections.Given as goal

abbrev pub invariant-loop-taken : goal.invariant-loop-taken
invariant-loop-taken g l = record {
  sections : List Bytes;
  number : length sections ≡ l.taken;
  cut : Known (g.S.Source.left l.fn.source) (onto_left l.unread (g.S.Source.left l.source)) (AreCut sections);
  heard : g.L.Listener.heard l.fn.listener l.listener sections;
  later : g.S.Source.faults l.fn.source ≤ g.S.Source.faults l.source;
}
