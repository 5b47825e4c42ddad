-- What is promised by a command that writes as it reads: a text of the sections of one PID that it
-- cuts out of the packets, before it reads on.
use Rattle.std.specs.Prelude.{◌≡◌, ℕ, List, ◌++◌, take}
use Rattle.oc_bytes.specs.Outcome.{Known}
use Rattle.section_stream.specs.Cuts.{candidates}
use Rattle.shell_streams.specs.Cuts.{Bytes}
use Rattle.shell_streams.specs.Packets.{packets_of, candidates_of}
use Rattle.shell_streams.specs.Carriers.{sections_by}
use Rattle.shell_streams.specs.declared.carrier.Carrier.TheVariants as carriers
use Rattle.shell_streams.specs.declared.packets.TheConstants.{MOST_PACKETS}
use Rattle.receiver_commands.specs.Over.{Over, TakesPrefix, WritesAll, WritesPrefix, EndsReading}
use Rattle.receiver_commands.specs.Replies.{Hears}
use Rattle.receiver_commands.specs.declared.status.Status.{Status}
use Rattle.receiver_commands.specs.declared.status.Status.TheVariants as status

-- these are the first sections of what was taken of an input
pub record AreFirst (pid : ℕ) (sections : List Bytes) (input left : Bytes) : Type 0 where
  pub taken : Bytes
  pub input_is : input ≡ taken ++ left
  pub others : List Bytes
  pub all : candidates_of pid taken ≡ sections ++ others

-- these are all sections in the packets that were taken of an input, up to the most that may be
-- taken
pub record AreHeard (pid : ℕ) (sections : List Bytes) (input left : Bytes) : Type 0 where
  pub taken : Bytes
  pub input_is : input ≡ taken ++ left
  pub all : candidates pid (take MOST_PACKETS (packets_of taken)) ≡ sections

-- all sections of the input were cut out, and their text was written
pub record Wrote (pid : ℕ) (text : List Bytes → Bytes) (source sink : Over Bytes) : Type 0 where
  pub sections : List Bytes
  pub hears : Hears (carriers.Packets pid) source sections
  pub writes : WritesAll sink (text sections)

-- all sections of what was read were cut out, and all of their text was written
pub record WroteSoFar (pid : ℕ) (text : List Bytes → Bytes) (source sink : Over Bytes) : Type 0 where
  pub sections : List Bytes
  pub heard : Known source.before source.after (AreHeard pid sections)
  pub writes : WritesAll sink (text sections)

-- the first sections of what was taken were cut out, and a prefix of their text was written
pub record WrotePart (pid : ℕ) (text : List Bytes → Bytes) (source sink : Over Bytes) : Type 0 where
  pub sections : List Bytes
  pub first : Known source.before source.after (AreFirst pid sections)
  pub writes : WritesPrefix sink (text sections)

abbrev pub WritesWhole : (pid : ℕ) (text : List Bytes → Bytes) → Over Bytes → Over Bytes → Status
    → Type 0
WritesWhole pid text source sink status.Done = Wrote pid text source sink
WritesWhole pid text source sink _ = ⊥

abbrev pub EndsAsRead : (pid : ℕ) (text : List Bytes → Bytes) → Over Bytes → Over Bytes → Status
    → Type 0
EndsAsRead pid text source sink =
    EndsReading (sections_by (carriers.Packets pid)).goes_on (WritesWhole pid text source sink)
    (WroteSoFar pid text source sink) (WrotePart pid text source sink)
    (WrotePart pid text source sink) source sink

pub record WritesAsRead (pid : ℕ) (text : List Bytes → Bytes) (s : Status)
    (source sink : Over Bytes) : Type 0 where
  pub ends : EndsAsRead pid text source sink s
  pub takes : TakesPrefix source
