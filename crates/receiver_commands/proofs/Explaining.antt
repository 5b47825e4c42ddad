-- What `why` promises, by what was put.
use Rattle.std.proofs.Common.{◌≡◌, [], Err, refl}
use Rattle.shell_words.specs.Complaints.{complaint_line}
use Rattle.shell_words.specs.declared.places.Complaint.{Complaint}
use Rattle.shell_words.specs.declared.places.Complaint.TheVariants as complaints
use Rattle.shell_streams.specs.Sending.{OutputState, HasPut, Puts}
use Rattle.shell_streams.specs.declared.output.OutputFault.{OutputFault}
use Rattle.shell_streams.specs.declared.output.OutputFault.TheVariants as outputs
use Rattle.receiver_commands.specs.Over.{sink_over, WritesAll}
use Rattle.receiver_commands.specs.Statuses.{output_status}
use Rattle.receiver_commands.specs.Why.{EndsWhy, SaysWhy}
use Rattle.receiver_commands.specs.Inner.Why.{why_status}
use Rattle.receiver_commands.proofs.Writing.{writes_all, writes_prefix}

-- the whole line was written
pub says_all : (complaint : Complaint) (old new : OutputState) → old.pending ≡ [] → new.pending ≡ [] → HasPut old new (complaint_line complaint) → SaysWhy complaint (why_status complaint) (sink_over old new)
says_all complaint old new before after puts = record { ends = by complaint (writes_all before after puts) }
  where
    by : (c : Complaint) → WritesAll (sink_over old new) (complaint_line c) → EndsWhy c (sink_over old new) (why_status c)
    by complaints.Fits w = (refl, w)
    by complaints.Unknown w = (λ e. absurd (cc), w)
    by (complaints.Misfit n slot) w = (λ e. absurd (cc), w)
    by (complaints.TooMany n) w = (λ e. absurd (cc), w)
    by (complaints.TooFew slot) w = (λ e. absurd (cc), w)

-- a prefix of it was
pub says_part : (complaint : Complaint) (old new : OutputState) (fault : OutputFault) → old.pending ≡ [] → Puts {T = Unit {0}} (Err fault) old new (complaint_line complaint)
    → SaysWhy complaint (output_status fault) (sink_over old new)
says_part complaint old new outputs.Failed before puts = record { ends = (puts.cause refl, writes_prefix before puts) }
says_part complaint old new outputs.NoMemory before puts = record { ends = writes_prefix before puts }
