-- All packets of an input.
use Rattle.std.specs.Prelude.{List}
use Rattle.shell_streams.specs.Cuts.{Bytes}
use Rattle.shell_streams.specs.Packets.{AllTaken, packets_of, is_over_packets}
use Rattle.shell_streams.specs.declared.packets.TheConstants.{MOST_PACKETS}

-- these are all packets of the input, which was read to its end and within the limit
abbrev pub AreAllTaken : List Bytes → Bytes → Bytes → Type 0
AreAllTaken packets = AllTaken packets_of (is_over_packets MOST_PACKETS) packets
