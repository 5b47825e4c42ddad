-- How what is heard stands in an input, and what a listener heard of it.
use Rattle.std.specs.Prelude.{◌≡◌, ◌≤◌, ℕ, Bool, List, Option, Result, Err, IfOk, IfErr}
use Rattle.oc_bytes.specs.Outcome.{Rose, Known}
use Rattle.shell_streams.specs.Cuts.{Bytes, back_to_back}
use Rattle.shell_streams.specs.Packets.{AllTaken, Stopped, is_over_sections, packets_of, candidates_of, is_over_packets}
use Rattle.shell_streams.specs.declared.carrier.Carrier.{Carrier}
use Rattle.shell_streams.specs.declared.carrier.Carrier.TheVariants as carriers
use Rattle.shell_streams.specs.declared.input.InputFault.{InputFault}
use Rattle.shell_streams.specs.declared.input.InputFault.TheVariants as inputs
use Rattle.shell_streams.specs.declared.packets.TheConstants.{MOST_PACKETS}

-- a way of reading an input: what stands in it, and whether it goes on after the most that is taken
pub record Reading : Type 0 where
  pub standing_in : Bytes → List Bytes
  pub goes_on : Bytes → Bool

-- the sections of an input; it goes on where the most was taken, and at least a byte more is there
abbrev pub sections_by : Carrier → Reading
sections_by (carriers.Sections most) =
    record { standing_in = back_to_back; goes_on = is_over_sections most }
sections_by (carriers.Packets pid) =
    record { standing_in = candidates_of pid; goes_on = is_over_packets MOST_PACKETS }

-- its packets, whatever their PIDs
abbrev pub all_packets : Reading
all_packets = record { standing_in = packets_of; goes_on = is_over_packets MOST_PACKETS }

-- the input was read to its end and within its limit, and all that stands in it was heard
pub record HeardAll (reading : Reading) (Heard : List Bytes → Type 0) (before after : Option Bytes) : Type 0 where
  pub taken : List Bytes
  pub told : Known before after (AllTaken reading.standing_in reading.goes_on taken)
  pub heard : Heard taken

-- All that stands in an input was heard, or a fault stopped that after a prefix of the input.
pub record Hears {T : Type 0} (reading : Reading) (Heard : T → List Bytes → Type 0) (outcome : Result T InputFault) (before after : Option Bytes) (faults faults_after : ℕ) : Type 0 where
  pub ok : IfOk outcome (λ x. HeardAll reading (Heard x) before after)
  pub err : IfErr outcome (λ fault. Known before after (Stopped reading.goes_on fault))
  pub later : faults ≤ faults_after
  pub cause : outcome ≡ Err inputs.Failed → Rose faults faults_after
