-- One end of the outside over a run: its content before and after, where it is known, and its count of faults.
use Rattle.std.specs.Prelude.{◌≡◌, ℕ, ◌++◌, Option, ◌⊎◌, Bool, true, Some}
use Rattle.oc_bytes.specs.Outcome.{Rose, Known}
use Rattle.shell_streams.specs.Cuts.{Bytes}
use Rattle.shell_streams.specs.Packets.{IsRear}
use Rattle.shell_streams.specs.Sending.{OutputState}
use Rattle.receiver_commands.specs.declared.status.Status.{Status}
use Rattle.receiver_commands.specs.declared.status.Status.TheVariants as status

pub record Over (A : Type 0) : Type 0 where
  pub before : Option A
  pub after : Option A
  pub faults : ℕ
  pub faults_after : ℕ

abbrev pub over : {A X : Type 0} → (X → Option A) → (X → ℕ) → (old new : X) → Over A
over content faults old new = record { before = content old; after = content new; faults = faults old; faults_after = faults new }

-- of the sink of an output
abbrev pub sink_over : (old new : OutputState) → Over Bytes
sink_over old new = over (λ o. o.written) (λ o. o.faults) old new

-- of the sink of an output, whose state `state` shows
abbrev pub out_over : {X : Type 0} → (X → OutputState) → (old new : X) → Over Bytes
out_over state old new = sink_over (state old) (state new)

-- a fault was counted
abbrev pub Failed : {A : Type 0} → Over A → Type 0
Failed end = Rose end.faults end.faults_after

-- nothing changed: nothing was read, or nothing was written
abbrev pub IsUntouched : {A : Type 0} → Over A → Type 0
IsUntouched end = end.after ≡ end.before

-- ---- what was read

-- a prefix of the input was taken, and this is left of it
abbrev pub TakesPrefix : Over Bytes → Type 0
TakesPrefix source = Known source.before source.after IsRear

-- ---- what was written

-- all of the output
abbrev pub WritesAll : Over Bytes → Bytes → Type 0
WritesAll sink output = Known sink.before sink.after (λ before after. after ≡ before ++ output)

-- a part of the output was appended, and this is its rest
pub record Appends (output before after : Bytes) : Type 0 where
  pub part : Bytes
  pub rest : Bytes
  pub output_is : output ≡ part ++ rest
  pub after_is : after ≡ before ++ part

-- a prefix of the output
abbrev pub WritesPrefix : Over Bytes → Bytes → Type 0
WritesPrefix sink output = Known sink.before sink.after (Appends output)

-- ---- The ends that are alike for all commands. Each page says what was done there, and what its
-- command's own ends are.

-- `Own` says it of a command's own ends. Where the sink failed, a part was written; where there was
-- no memory, it came short.
abbrev pub EndsWriting : (Own : Status → Type 0) (Part Short : Type 0) → Over Bytes → Status
    → Type 0
EndsWriting Own Part Short sink status.WriteFault = Failed sink × Part
EndsWriting Own Part Short sink status.NoMemory = Short
EndsWriting Own Part Short sink s = Own s

-- Where the source failed, or went on after its limit, it stopped there. It goes on where the limit
-- was taken, and at least a byte more is there.
abbrev pub EndsReading : (goes_on : Bytes → Bool) (Own : Status → Type 0)
    (Stopped Part Short : Type 0) → (source sink : Over Bytes) → Status → Type 0
EndsReading goes_on Own Stopped Part Short source sink status.ReadFault = Failed source × Stopped
EndsReading goes_on Own Stopped Part Short source sink status.InputTooLong =
    ((input : Bytes) → source.before ≡ Some input → goes_on input ≡ true) × Stopped
EndsReading goes_on Own Stopped Part Short source sink s = EndsWriting Own Part Short sink s

-- the same of a command that does nothing before its whole input is read: it came short of doing
-- anything, or of a part
abbrev pub EndsRead : (goes_on : Bytes → Bool) (Own : Status → Type 0) (Nothing Part : Type 0)
    → (source sink : Over Bytes) → Status → Type 0
EndsRead goes_on Own Nothing Part = EndsReading goes_on Own Nothing Part (Nothing ⊎ Part)
