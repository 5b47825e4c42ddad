-- What `why WORDS..` promises: one line on what is wrong with the words, or that they fit.
use Rattle.std.specs.Prelude.{◌≡◌}
use Rattle.shell_words.specs.Complaints.{complaint_line}
use Rattle.shell_words.specs.declared.places.Complaint.{Complaint}
use Rattle.shell_words.specs.declared.places.Complaint.TheVariants as complaints
use Rattle.shell_streams.specs.Cuts.{Bytes}
use Rattle.receiver_commands.specs.Over.{Over, WritesAll, WritesPrefix, EndsWriting}
use Rattle.receiver_commands.specs.declared.status.Status.{Status}
use Rattle.receiver_commands.specs.declared.status.Status.TheVariants as status

abbrev pub SaysAll : Complaint → Over Bytes → Status → Type 0
SaysAll complaint sink status.Done =
    (complaint ≡ complaints.Fits → ⊥) × WritesAll sink (complaint_line complaint)
SaysAll complaint sink status.NotAll =
    (complaint ≡ complaints.Fits) × WritesAll sink (complaint_line complaint)
SaysAll complaint sink _ = ⊥

abbrev pub EndsWhy : Complaint → Over Bytes → Status → Type 0
EndsWhy complaint sink = EndsWriting (SaysAll complaint sink)
    (WritesPrefix sink (complaint_line complaint)) (WritesPrefix sink (complaint_line complaint))
    sink

pub record SaysWhy (complaint : Complaint) (s : Status) (sink : Over Bytes) : Type 0 where
  pub ends : EndsWhy complaint sink s
