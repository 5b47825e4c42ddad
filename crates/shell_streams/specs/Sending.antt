-- Output that is written in large pieces: what was written, and what is pending.
use Rattle.std.specs.Prelude.{◌≡◌, ◌≤◌, ℕ, ◌++◌, Bool, false, Option, Result, Ok, OnOk, OnErr, IsErrOf, []}
use Rattle.oc_bytes.specs.Outcome.{Rose, Known}
use Rattle.oc_bytes.specs.declared.sink.WriteFault.{WriteFault}
use Rattle.oc_bytes.specs.declared.sink.WriteFault.TheVariants as writes
use Rattle.shell_streams.specs.declared.output.OutputFault.{OutputFault}
use Rattle.shell_streams.specs.declared.output.OutputFault.TheVariants as faults
use Rattle.section_stream.specs.Cuts.{Bytes}

-- an output: the sink's name, what was written there where that is known, the sink's count of faults, whether a write has failed, whether one
-- was tried after that, and what is pending
pub record OutputState : Type 0 where
  pub name : ℕ
  pub written : Option Bytes
  pub faults : ℕ
  pub failed : Bool
  pub late : Bool
  pub pending : Bytes

-- nothing is pending
abbrev pub IsFlushed : OutputState → Type 0
IsFlushed out = out.pending ≡ []

-- what was pending and then the text went to the sink, up to this rest of it
pub record Sends (pending text rest before after : Bytes) : Type 0 where
  pub sent : Bytes
  pub after_is : after ≡ before ++ sent
  pub split : pending ++ text ≡ sent ++ rest

-- a prefix of it went there
pub record SendsPart (pending text before after : Bytes) : Type 0 where
  pub rest : Bytes
  pub sends : Sends pending text rest before after

-- where no write had failed before, none was tried after one that failed
abbrev pub IsInTime : OutputState → OutputState → Type 0
IsInTime old new = old.failed ≡ false → new.late ≡ old.late

-- A call put the text after what was pending: what isn't written of it is pending then. After a fault a prefix of it was written.
pub record Puts {T : Type 0} (outcome : Result T OutputFault) (old new : OutputState) (text : Bytes) : Type 0 where
  pub same : new.name ≡ old.name
  pub ok : OnOk outcome (Known old.written new.written (Sends old.pending text new.pending))
  pub err : OnErr outcome (Known old.written new.written (SendsPart old.pending text))
  pub later : old.faults ≤ new.faults
  pub cause : IsErrOf outcome faults.Failed → Rose old.faults new.faults
  pub in_time : IsInTime old new
  pub goes_on : (IsErrOf outcome faults.Failed → ⊥) → new.failed ≡ old.failed

-- the text was put
abbrev pub HasPut : OutputState → OutputState → Bytes → Type 0
HasPut old new text = Puts {T = Unit {0}} (Ok tt) old new text

-- the fault of a failed write
abbrev pub output_fault : WriteFault → OutputFault
output_fault writes.Failed = faults.Failed
output_fault writes.NoMemory = faults.NoMemory
