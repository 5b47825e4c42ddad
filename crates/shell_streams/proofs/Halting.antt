-- Where the reading of packets stops.
use Rattle.std.proofs.Common.{◌≡◌, ℕ, List, Option}
use Rattle.std.specs.List.{concat}
use Rattle.oc_bytes.specs.Outcome.{Known}
use Rattle.shell_streams.specs.Cuts.{Bytes}
use Rattle.shell_streams.specs.Packets.{HasCut, Halts, is_over_packets, Stopped}
use Rattle.shell_streams.specs.declared.packets.PacketReader.{PacketReader}
use Rattle.shell_streams.specs.declared.input.InputFault.{InputFault}
use Rattle.shell_streams.specs.declared.input.InputFault.TheVariants as faults
use Rattle.shell_streams.proofs.Putting.{told_weaker}
use Rattle.shell_streams.proofs.Cutting.{stopped_other, rear_of}

pub halted : {pid : ℕ} {candidates : List Bytes} {s : InputFault} {a b : Option Bytes} → Known a b (Halts pid candidates s) → Known a b (Stopped (is_over_packets 16777216) s)
halted t = told_weaker t (λ x y h. record { rear = record { taken = h.taken; whole = h.whole }; too_long = h.too_long })

pub halted_here : {pid : ℕ} {reader : PacketReader} {candidates : List Bytes} {a b : Option Bytes} (s : InputFault) → (s ≡ faults.TooLong → ⊥) → HasCut pid reader a b candidates
    → Known a b (Stopped (is_over_packets 16777216) s)
halted_here {reader = reader} {a = a} {b = b} s n c = stopped_other s n (rear_of (concat c.packets) a reader.unread b (λ x l t. t.whole) c.taken)
