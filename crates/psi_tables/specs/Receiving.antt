-- Which packets a receiver of one PID takes: those of its PID that have a payload (ISO/IEC 13818-1, 2.4.3.3).
use Rattle.std.specs.Prelude.{◌≡◌, ℕ, Bool, false, List, length, Option, Some, None, Result, Ok, Err, ◌==◌, if◌then◌else◌}
use Rattle.std.specs.List.{filter}
use Rattle.ts_packet.specs.Packets.{Fields, parse_packet}
use Rattle.ts_packet.specs.declared.PacketFault.{PacketFault}
use Rattle.section_stream.specs.Cuts.{Bytes}
use Rattle.section_stream.specs.Rules as streams

abbrev pub pid_in : Result Fields PacketFault → Option ℕ
pid_in (Ok p) = if length p.payload == 0 then None else Some p.pid
pid_in (Err fault) = None

-- the PID of a packet that has a payload
abbrev pub pid_of : Bytes → Option ℕ
pid_of packet = pid_in (parse_packet packet)

abbrev pub is_pid : ℕ → Option ℕ → Bool
is_pid pid None = false
is_pid pid (Some q) = q == pid

-- the packets of a PID
abbrev pub of_pid : ℕ → List Bytes → List Bytes
of_pid pid packets = filter (λ p. is_pid pid (pid_of p)) packets

-- a receiver of this PID that was handed those of the packets that are of the PID
pub record HeardOn (pid : ℕ) (d : streams.DemuxState) (packets : List Bytes) : Type 0 where
  pub own : d.pid ≡ pid
  pub stands : streams.StandsFor d (of_pid pid packets)
