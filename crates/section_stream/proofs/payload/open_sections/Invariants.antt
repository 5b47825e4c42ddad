use Rattle.std.proofs.Common.{◌≡◌, ◌<◌, ◌≤◌, List, length, map, Option}
use Rattle.carousel_profile.specs.declared.TheConstants.{PACKET_LENGTH}
use Rattle.section_stream.specs.Cuts.{Bytes}
use Rattle.section_stream.specs.Kept.{view_bytes}
use Rattle.section_stream.specs.Inner.Steps.{HasDone, open_all}
use Rattle.section_stream.specs.declared.counts.Counts.{Counts}
use Rattle.section_stream.proofs.payload.open_sections.Given as goal

-- whatever is right for the bytes that are left is right for them all
abbrev pub invariant-loop-here : goal.invariant-loop-here
invariant-loop-here l = record {
  within : length l.here ≤ PACKET_LENGTH;
  whole : (left : Option Bytes) (candidates : List Bytes) (counts : Counts) → HasDone (open_all l.here l.counts) left (map view_bytes l.out.items) candidates counts
      → HasDone (open_all l.fn.here l.fn.counts) left (map view_bytes l.fn.out.items) candidates counts;
  kept : l.counts ≡ l.fn.counts;
  asked : 0 < length (open_all l.here l.counts).out → 0 < length (open_all l.fn.here l.fn.counts).out;
}

abbrev pub decreases-loop-here : goal.decreases-loop-here
decreases-loop-here l = length l.here
