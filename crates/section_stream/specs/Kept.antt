-- What the code keeps, as the rules see it.
use Rattle.std.specs.Prelude.{ℕ, Option, Some, None, Result, Ok, Err}
use Rattle.std.specs.declared.vec.Vec.{Vec}
use Rattle.std.specs.declared.alloc.Global.{Global}
use Rattle.ts_packet.specs.Packets.{Fields, parse_packet}
use Rattle.ts_packet.specs.declared.PacketFault.{PacketFault}
use Rattle.section_stream.specs.Cuts.{Bytes}
use Rattle.section_stream.specs.Rules.{Receiving}
use Rattle.section_stream.specs.declared.receiver.Receiver.TheInside.{Inside}

abbrev pub view_bytes : Vec ℕ Global → Bytes
view_bytes v = v.items

-- the counter and payload of the packet that is kept, if it is one
abbrev pub last_of : Result Fields PacketFault → Option (ℕ × Bytes)
last_of (Ok p) = Some (p.counter, p.payload)
last_of (Err fault) = None

abbrev pub view_receiver : Inside → Receiving
view_receiver d = record { pid = d.pid; last = last_of (parse_packet d.last); opened = d.opened; counts = d.counts }
