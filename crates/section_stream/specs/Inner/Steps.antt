-- The parts of one packet's step, as the code goes through them.
use Rattle.std.specs.Prelude.{◌≡◌, ℕ, ◌+◌, ◌<◌, ◌≤◌, Bool, if◌then◌else◌, List, [], ◌∷◌, ◌++◌, length, take, Option, Some, None, IsSome}
use Rattle.carousel_profile.specs.declared.TheConstants.{PACKET_LENGTH}
use Rattle.oc_bytes.specs.declared.lengths.TheConstants.{MOST_LENGTH, MOST_SECTION}
use Rattle.oc_bytes.specs.Numbers.{section_length}
use Rattle.section_stream.specs.Cuts.{Bytes}
use Rattle.section_stream.specs.Rules.{After, Receiving, Grown, Growing, Oversize, Whole, count_fault, goes_on, open_on, starts, up, with_out}
use Rattle.section_stream.specs.declared.counts.Counts.{Counts}
use Rattle.section_stream.specs.declared.counts.Aside.{Aside}
use Rattle.section_stream.specs.declared.counts.Aside.TheVariants.{Fault, OtherPid, NoPayload, Duplicate}
use Rattle.section_stream.specs.declared.payload.Growth.{Growth}
use Rattle.section_stream.specs.declared.payload.Growth.TheVariants as growths

-- the count that a packet raises which changes nothing else
abbrev pub count_aside : Aside → Counts → Counts
count_aside (Fault fault) c = count_fault fault c
count_aside OtherPid c = record c { other_pid = up c.other_pid }
count_aside NoPayload c = record c { no_payload = up c.no_payload }
count_aside Duplicate c = record c { duplicates = up c.duplicates }

abbrev pub growth_of : Growth → Grown
growth_of growths.Growing = Growing
growth_of growths.Oversize = Oversize
growth_of (growths.Whole n) = Whole n

-- the bytes of the section that is open
abbrev pub bytes_of : Option Bytes → Bytes
bytes_of None = []
bytes_of (Some bytes) = bytes

-- the section of so many of these bytes, if there is one
abbrev pub section_of : Bytes → Option ℕ → List Bytes
section_of bytes None = []
section_of bytes (Some n) = take n bytes ∷ []

-- a section is open, and with these bytes it has so many
pub record IsWhole (opened : Option Bytes) (more : Bytes) (n : ℕ) : Type 0 where
  pub is_open : IsSome opened
  pub within : n ≤ length (bytes_of opened ++ more)
  pub most : n ≤ MOST_SECTION

-- the bytes of a section that has so many more
pub record Lacks (bytes : Bytes) (n : ℕ) : Type 0 where
  pub known : 3 ≤ length bytes
  pub fits : section_length bytes ≤ MOST_LENGTH
  pub lacks : length bytes + n ≡ 3 + section_length bytes

-- a section is open whose length is known, and it lacks more than so many bytes
pub record LacksMore (opened : Option Bytes) (n : ℕ) : Type 0 where
  pub is_open : IsSome opened
  pub known : 3 ≤ length (bytes_of opened)
  pub fits : section_length (bytes_of opened) ≤ MOST_LENGTH
  pub lacks : length (bytes_of opened) + n < 3 + section_length (bytes_of opened)

-- the part of the step is done: this is open, these candidates came, and so much is counted
pub record HasDone (after : After) (left : Option Bytes) (before candidates : List Bytes) (counts : Counts) : Type 0 where
  pub opened : after.opened ≡ left
  pub out : candidates ≡ before ++ after.out
  pub counted : after.counts ≡ counts

-- the part of the step has candidates
pub record HasOut (after : After) : Type 0 where
  pub some : 0 < length after.out

-- the step has candidates
pub record Completes (r : Receiving × List Bytes) : Type 0 where
  pub some : 0 < length r.1

-- the step leads to this state, and its candidates stand after those before them
pub record Gives (r : Receiving × List Bytes) (t : Receiving) (before after : List Bytes) : Type 0 where
  pub state : r.0 ≡ t
  pub out : after ≡ before ++ r.1

-- the sections that are opened one after another in the bytes of one packet
unfoldable pub open_all : Bytes → Counts → After
open_all here c = open_on PACKET_LENGTH here c

-- the section of the open one, if it is whole, and what is opened after it
abbrev pub begun_by : Option Bytes → Bytes → Option ℕ → Bytes → Counts → After
begun_by opened part whole here c = with_out (section_of (bytes_of opened ++ part) whole) (open_all here c)

-- what the payload of a packet does, as the packet begins a section or not
abbrev pub done_by : Bool → Option Bytes → Bytes → Counts → After
done_by start opened payload c = if start then starts opened payload c else goes_on opened payload c

-- one packet more, with packets before it missing or not
abbrev pub with_packet : Bool → Counts → Counts
with_packet jumped c = if jumped then record c { packets = up c.packets; jumps = up c.jumps } else record c { packets = up c.packets }
