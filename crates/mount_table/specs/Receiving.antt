-- The packets of a PID: those that parse and have it (ISO/IEC 13818-1, 2.4.3.2). What a receiver makes of them, and that one without a
-- payload says nothing to it, is its own matter.
use Rattle.std.specs.Prelude.{ℕ, ◌+◌, ◌*◌, ◌%◌, Bool, false, List, Option, Some, None, Result, Ok, Err, slice_index, ◌==◌}
use Rattle.std.specs.List.{filter}
use Rattle.ts_packet.specs.Packets.{Fields, parse_packet}
use Rattle.ts_packet.specs.declared.PacketFault.{PacketFault}
use Rattle.section_stream.specs.Cuts.{Bytes}

abbrev pub pid_in : Result Fields PacketFault → Option ℕ
pid_in (Ok p) = Some p.pid
pid_in (Err fault) = None

-- the PID of a packet that parses
abbrev pub pid_of : Bytes → Option ℕ
pid_of packet = pid_in (parse_packet packet)

abbrev pub is_pid : ℕ → Option ℕ → Bool
is_pid pid None = false
is_pid pid (Some q) = q == pid

-- the packets that parse with this PID, in order
abbrev pub of_pid : ℕ → List Bytes → List Bytes
of_pid pid packets = filter (λ p. is_pid pid (pid_of p)) packets

-- ---- the packets that a mount's receiver is handed

-- the 13 bits of the PID in the header, whatever else the packet is
abbrev pub header_pid : Bytes → ℕ
header_pid packet = slice_index packet 1 % 32 * 256 + slice_index packet 2

-- those whose header has this PID, in order: all that parse with it, and others that don't parse
abbrev pub with_header_pid : ℕ → List Bytes → List Bytes
with_header_pid pid packets = filter (λ p. header_pid p == pid) packets
