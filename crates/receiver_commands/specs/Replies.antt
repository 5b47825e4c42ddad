-- What was read of an input, and what is promised by a command that reads its input to the end and
-- then writes a text of what stands in it.
use Rattle.std.specs.Prelude.{◌≡◌, Bool, true, false, List}
use Rattle.oc_bytes.specs.Outcome.{Known}
use Rattle.shell_streams.specs.Cuts.{Bytes}
use Rattle.shell_streams.specs.Packets.{AllTaken}
use Rattle.shell_streams.specs.Carriers.{Reading, HeardAll, sections_by}
use Rattle.shell_streams.specs.declared.carrier.Carrier.{Carrier}
use Rattle.receiver_commands.specs.Over.{Over, IsUntouched, TakesPrefix, WritesAll, WritesPrefix, EndsRead}
use Rattle.receiver_commands.specs.declared.status.Status.{Status}
use Rattle.receiver_commands.specs.declared.status.Status.TheVariants as status

-- ---- what was read

-- the input was read to its end, and within the limit
abbrev pub ReadsAll : Reading → Over Bytes → List Bytes → Type 0
ReadsAll reading source taken =
    Known source.before source.after (AllTaken reading.standing_in reading.goes_on taken)

-- all sections of it were heard
abbrev pub Hears : Carrier → Over Bytes → List Bytes → Type 0
Hears carrier source sections = ReadsAll (sections_by carrier) source sections

-- ---- what was written

-- the text that is written of what was read, or of answers, and whether each answer in it is one that
-- was asked for
pub record Reply (A : Type 0) : Type 0 where
  pub text : A → Bytes
  pub all : A → Bool

-- ---- how it ends

abbrev pub AnswersAll : Reading → Reply (List Bytes) → Over Bytes → Over Bytes → Status → Type 0
AnswersAll reading reply source sink status.Done = HeardAll reading
    (λ read. (reply.all read ≡ true) × WritesAll sink (reply.text read)) source.before source.after
AnswersAll reading reply source sink status.NotAll = HeardAll reading
    (λ read. (reply.all read ≡ false) × WritesAll sink (reply.text read)) source.before source.after
AnswersAll reading reply source sink _ = ⊥

-- where the sink failed, a prefix of the text was written
pub record Replies (reading : Reading) (reply : Reply (List Bytes)) (s : Status)
    (source sink : Over Bytes) : Type 0 where
  pub ends : EndsRead reading.goes_on (AnswersAll reading reply source sink) (IsUntouched sink)
      (HeardAll reading (λ read. WritesPrefix sink (reply.text read)) source.before source.after)
      source sink s
  pub takes : TakesPrefix source
