-- What `inspect PID` promises: all packets of the input are heard by one receiver, and a report on what it holds and passed over is
-- written. Where the input isn't one of packets, that is said beside the status.
use Rattle.std.specs.Prelude.{◌≡◌, ℕ, List, Option, Some, None}
use Rattle.oc_bytes.specs.Outcome.{Known}
use Rattle.reception_report.specs.Report.{report_text, sync_told, tail_count}
use Rattle.reception_report.specs.declared.sync.SyncPlace.{SyncPlace}
use Rattle.shell_streams.specs.Cuts.{Bytes}
use Rattle.shell_streams.specs.Carriers.{all_packets}
use Rattle.receiver_commands.specs.Over.{Over, IsUntouched, TakesPrefix, WritesAll, WritesPrefix, EndsRead}
use Rattle.receiver_commands.specs.Replies.{ReadsAll}
use Rattle.receiver_commands.specs.declared.status.Status.{Status}
use Rattle.receiver_commands.specs.declared.status.Status.TheVariants as status

-- ---- what was read

-- the input was read to its end and within its limit: these packets, and so many last pieces of fewer bytes, 0 or 1
pub record ReadsPackets (packets : List Bytes) (tail : ℕ) (source : Over Bytes) : Type 0 where
  pub reads : ReadsAll all_packets source packets
  pub tail_is : Known source.before source.after (λ input _. tail ≡ tail_count input)

-- ---- how it ends

-- the whole report was written, and this is where the sync byte stands, if it isn't where that of a packet does
pub record Reported (pid : ℕ) (sync : Option SyncPlace) (source sink : Over Bytes) : Type 0 where
  pub packets : List Bytes
  pub tail : ℕ
  pub reads : ReadsPackets packets tail source
  pub sync_is : sync_told packets tail ≡ sync
  pub writes : WritesAll sink (report_text pid packets tail)

-- a prefix of it was
pub record Reporting (pid : ℕ) (source sink : Over Bytes) : Type 0 where
  pub packets : List Bytes
  pub tail : ℕ
  pub reads : ReadsPackets packets tail source
  pub writes : WritesPrefix sink (report_text pid packets tail)

abbrev pub ReportsAll : ℕ → Over Bytes → Over Bytes → Status → Type 0
ReportsAll pid source sink status.Done = Reported pid None source sink
ReportsAll pid source sink (status.NotPackets place) = Reported pid (Some place) source sink
ReportsAll pid source sink _ = ⊥

abbrev pub EndsInspect : ℕ → Over Bytes → Over Bytes → Status → Type 0
EndsInspect pid source sink = EndsRead all_packets.goes_on (ReportsAll pid source sink)
    (IsUntouched sink) (Reporting pid source sink) source sink

pub record Inspects (pid : ℕ) (s : Status) (source sink : Over Bytes) : Type 0 where
  pub ends : EndsInspect pid source sink s
  pub takes : TakesPrefix source
