-- What is kept of a packet, and beside a receiver.
use Rattle.std.specs.Prelude.{ℕ, Option, Some, None, drop, nat_lt, if◌then◌else◌}
use Rattle.carousel_profile.specs.declared.TheConstants.{PACKET_LENGTH}
use Rattle.section_stream.specs.Cuts.{Bytes}
use Rattle.section_stream.specs.Rules.{Receiving, DemuxState}

-- a packet's counter and payload, as they are kept beside it: the payload goes from a place in it to its end; from the packet's
-- length on there is none
abbrev pub last_from : ℕ → ℕ → Bytes → Option (ℕ × Bytes)
last_from place counter packet = if nat_lt place PACKET_LENGTH then Some (counter, drop place packet) else None

-- a receiver and the bytes that are kept beside it
abbrev pub with_unfinished : Receiving → Bytes → DemuxState
with_unfinished r u = record { pid = r.pid; last = r.last; opened = r.opened; counts = r.counts; unfinished = u }
