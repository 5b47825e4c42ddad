-- What a packet is to the receiver of one PID, against the step that it makes.
use Rattle.std.specs.Prelude.{◌≡◌, ◌<◌, ◌≤◌, length, Ok}
use Rattle.ts_packet.specs.Packets.{parse_packet, view}
use Rattle.section_stream.specs.Cuts.{Bytes}
use Rattle.section_stream.specs.Rules.{Receiving, with_counts, jumps_from, one_more, step, takes}
use Rattle.section_stream.specs.Inner.Steps.{count_aside}
use Rattle.section_stream.specs.declared.receiver.Class.{Class}
use Rattle.section_stream.specs.declared.receiver.Class.TheVariants.{Aside, Taken}

abbrev pub IsClass : Receiving → Bytes → Class → Type 0
IsClass s packet (Aside aside) = step s packet ≡ with_counts (one_more s) (count_aside aside (one_more s).counts)
IsClass s packet (Taken p jumped) =
    (parse_packet packet ≡ Ok (view p)) × ((0 < length p.payload.now) × (length p.payload.now ≤ 184))
    × (jumps_from p.counter s.last ≡ jumped) × (step s packet ≡ takes (one_more s) (view p))
