-- The packets of an input, and what was cut out of those that were taken. A packet has 188 bytes (ISO/IEC 13818-1, 2.4.3.2).
use Rattle.std.specs.Prelude.{◌≡◌, ℕ, zero, suc, ◌+◌, ◌*◌, Bool, true, List, [], ◌∷◌, ◌++◌, length, take, drop, Option, nat_le, nat_lt, ◌&&◌, if◌then◌else◌, false, ◌==◌}
use Rattle.std.specs.List.{concat}
use Rattle.oc_bytes.specs.Outcome.{Known}
use Rattle.section_stream.specs.Cuts.{candidates}
use Rattle.section_stream.specs.Rules.{StandsFor}
use Rattle.shell_streams.specs.Cuts.{Bytes, back_to_back}
use Rattle.shell_streams.specs.declared.packets.PacketReader.{PacketReader}
use Rattle.shell_streams.specs.declared.input.InputFault.{InputFault}
use Rattle.shell_streams.specs.declared.packets.TheConstants.{MOST_PACKETS}
use Rattle.std.specs.Option.{option_map}
use Rattle.carousel_profile.specs.declared.TheConstants.{PACKET_LENGTH}
use Rattle.shell_streams.specs.declared.input.InputFault.TheVariants as faults

-- ---- An input that is read in pieces: what was taken of it, what is held of it, and what the source has left.

-- what is still to be taken, where content is known: the bytes that are held, and those that the source has left
abbrev pub onto_left : Bytes → Option Bytes → Option Bytes
onto_left held left = option_map (λ l. held ++ l) left

-- what is still to be taken stays the same
abbrev pub LosesNothing : Bytes → Option Bytes → Bytes → Option Bytes → Type 0
LosesNothing held left held_after left_after = onto_left held_after left_after ≡ onto_left held left

-- the input was taken to its end, within the limit that `over` tests, and this is what stands in it
pub record AllTaken {A : Type 0} (standing_in : Bytes → A) (over : Bytes → Bool) (taken : A) (input left : Bytes) : Type 0 where
  pub to_end : left ≡ []
  pub within : over input ≡ false
  pub all : standing_in input ≡ taken

-- `left` is what is left of the input after what was taken of it
pub record IsRear (input left : Bytes) : Type 0 where
  pub taken : Bytes
  pub whole : input ≡ taken ++ left

-- so many sections stand at the front of the input, and at least a byte after them
abbrev pub is_over_sections : ℕ → Bytes → Bool
is_over_sections n input = let front = take n (back_to_back input) in (length front == n) && nat_lt (length (concat front)) (length input)

-- the input is longer than so many bytes
abbrev pub is_longer : ℕ → Bytes → Bool
is_longer most input = nat_lt most (length input)

-- a prefix of the input was taken; where it goes on after the limit, that is so
pub record Stopped (over : Bytes → Bool) (fault : InputFault) (input left : Bytes) : Type 0 where
  pub rear : IsRear input left
  pub too_long : fault ≡ faults.TooLong → over input ≡ true

-- ---- the packets of an input

-- packets of 188 bytes; a last piece that is shorter is passed over
abbrev pub packets_in : ℕ → Bytes → List Bytes
packets_in zero input = []
packets_in (suc steps) input = if nat_le PACKET_LENGTH (length input) then take PACKET_LENGTH input ∷ packets_in steps (drop PACKET_LENGTH input) else []

abbrev pub packets_of : Bytes → List Bytes
packets_of input = packets_in (length input) input

-- the sections of one PID that are cut out of the input's packets
abbrev pub candidates_of : ℕ → Bytes → List Bytes
candidates_of pid input = candidates pid (packets_of input)

-- at least a byte stands after the first n packets
abbrev pub is_over_packets : ℕ → Bytes → Bool
is_over_packets n input = nat_lt (PACKET_LENGTH * n) (length input)

-- each has the size of a packet
abbrev pub AreSized : List Bytes → Type 0
AreSized [] = Unit {0}
AreSized (p ∷ ps) = (length p ≡ PACKET_LENGTH) × AreSized ps

-- these packets were taken from the front of the input, and this is the rest
pub record AreTaken (packets : List Bytes) (input rest : Bytes) : Type 0 where
  pub whole : input ≡ concat packets ++ rest
  pub sizes : AreSized packets

-- these packets were taken from the front of an input, of which this is left, and so many may still be taken
pub record HasTaken (packets : List Bytes) (most : ℕ) (start rest : Option Bytes) : Type 0 where
  pub number : length packets + most ≡ MOST_PACKETS
  pub taken : Known start rest (AreTaken packets)

-- What was taken of an input when reading stopped: these packets, and perhaps others after them. But for want of memory these are all
-- that may be taken; where it stopped at the limit, the input goes on after them.
pub record Stops (packets : List Bytes) (s : InputFault) (input left : Bytes) : Type 0 where
  pub taken : Bytes
  pub whole : input ≡ taken ++ left
  pub others : List Bytes
  pub split : packets_of taken ≡ packets ++ others
  pub heard : (s ≡ faults.NoMemory → ⊥) → packets ≡ take MOST_PACKETS (packets_of taken)
  pub too_long : s ≡ faults.TooLong → is_over_packets MOST_PACKETS input ≡ true

-- the reader took packets from the front of an input, and these are all their candidates
pub record HasCut (pid : ℕ) (reader : PacketReader) (start left : Option Bytes) (candidates_so_far : List Bytes) : Type 0 where
  pub packets : List Bytes
  pub number : length packets + reader.most ≡ MOST_PACKETS
  pub pid_is : reader.demux.pid ≡ pid
  pub stands : StandsFor reader.demux packets
  pub taken : Known start (onto_left reader.unread left) (AreTaken packets)
  pub all : candidates pid packets ≡ candidates_so_far

-- the next packet is held, and may be taken
abbrev pub is_ready : PacketReader → Bool
is_ready reader = nat_le PACKET_LENGTH (length reader.unread) && nat_lt 0 reader.most

-- What was taken of the input when a command stopped: its packets are those of which these are the candidates, and perhaps
-- others after them. But for want of memory they are all that may be taken; where it stopped at the limit, the input goes on after them.
pub record Halts (pid : ℕ) (candidates_so_far : List Bytes) (s : InputFault) (input left : Bytes) : Type 0 where
  pub taken : Bytes
  pub whole : input ≡ taken ++ left
  pub packets : List Bytes
  pub others : List Bytes
  pub split : packets_of taken ≡ packets ++ others
  pub all : candidates pid packets ≡ candidates_so_far
  pub heard : (s ≡ faults.NoMemory → ⊥) → packets ≡ take MOST_PACKETS (packets_of taken)
  pub too_long : s ≡ faults.TooLong → is_over_packets MOST_PACKETS input ≡ true

-- all candidates of the input, which was read to its end and within the limit
abbrev pub HasEnded : ℕ → List Bytes → Bytes → Bytes → Type 0
HasEnded pid candidates_so_far = AllTaken (candidates_of pid) (is_over_packets MOST_PACKETS) candidates_so_far
