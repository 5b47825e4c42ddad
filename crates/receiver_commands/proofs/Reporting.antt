-- What `inspect` promises, by what was read and what was put.
use Rattle.std.proofs.Common.{◌≡◌, ℕ, List, [], Option, Some, None, Result, Ok, Err, inl, inr, refl, sym}
use Rattle.std.specs.Prelude.{OnOk}
use Rattle.oc_bytes.specs.Outcome.{Known}
use Rattle.reception_report.specs.Report.{report_text, sync_told}
use Rattle.reception_report.specs.declared.sync.SyncPlace.{SyncPlace}
use Rattle.shell_streams.specs.Cuts.{Bytes}
use Rattle.shell_streams.specs.Packets.{Stopped}
use Rattle.shell_streams.specs.Carriers.{all_packets}
use Rattle.shell_streams.specs.Sending.{OutputState, Puts}
use Rattle.shell_streams.specs.declared.input.InputFault.{InputFault}
use Rattle.shell_streams.specs.declared.input.InputFault.TheVariants as inputs
use Rattle.shell_streams.specs.declared.output.OutputFault.{OutputFault}
use Rattle.shell_streams.specs.declared.output.OutputFault.TheVariants as outputs
use Rattle.shell_streams.proofs.CallerLemmas.{told_weaker, all_rear}
use Rattle.receiver_commands.specs.Over.{Over, sink_over, Failed, IsUntouched, TakesPrefix, WritesAll}
use Rattle.receiver_commands.specs.Statuses.{input_status}
use Rattle.receiver_commands.specs.Inspect.{ReadsPackets, EndsInspect, Inspects}
use Rattle.receiver_commands.specs.Inner.Inspect.{sync_status, report_status}
use Rattle.receiver_commands.specs.declared.status.Status.TheVariants as status
use Rattle.receiver_commands.proofs.Replying.{goes_on}
use Rattle.receiver_commands.proofs.Writing.{writes_all, writes_prefix}

ends_stopped : (pid : ℕ) (source sink : Over Bytes) (fault : InputFault) → Known source.before source.after (Stopped all_packets.goes_on fault) → (fault ≡ inputs.Failed → Failed source)
    → IsUntouched sink → EndsInspect pid source sink (input_status fault)
ends_stopped pid source sink inputs.Failed t cause none = (cause refl, none)
ends_stopped pid source sink inputs.TooLong t cause none = (goes_on source.before source.after t, none)
ends_stopped pid source sink inputs.NoMemory t cause none = inl none

-- a fault stopped the reading
pub inspects_stopped : (pid : ℕ) (source sink : Over Bytes) (fault : InputFault) → Known source.before source.after (Stopped all_packets.goes_on fault) → (fault ≡ inputs.Failed → Failed source)
    → IsUntouched sink → Inspects pid (input_status fault) source sink
inspects_stopped pid source sink fault t cause none = record { ends = ends_stopped pid source sink fault t cause none; takes = told_weaker t (λ x y s. s.rear) }

-- there was no memory before it began
pub inspects_nothing : (pid : ℕ) (source sink : Over Bytes) → TakesPrefix source → IsUntouched sink → Inspects pid status.NoMemory source sink
inspects_nothing pid source sink takes none = record { ends = inl none; takes = takes }

module _ (pid : ℕ) (packets : List Bytes) (tail : ℕ) (source : Over Bytes) (old new : OutputState) (read : ReadsPackets packets tail source) (begin : old.pending ≡ []) where
  ends_whole : (sync : Option SyncPlace) → sync ≡ sync_told packets tail → WritesAll (sink_over old new) (report_text pid packets tail)
      → EndsInspect pid source (sink_over old new) (sync_status sync)
  ends_whole None is writes = record { packets = packets; tail = tail; reads = read; sync_is = sym is; writes = writes }
  ends_whole (Some place) is writes = record { packets = packets; tail = tail; reads = read; sync_is = sym is; writes = writes }

  ends_written : (sync : Option SyncPlace) (r : Result (Unit {0}) OutputFault) → sync ≡ sync_told packets tail → Puts r old new (report_text pid packets tail) → OnOk r (new.pending ≡ [])
      → EndsInspect pid source (sink_over old new) (report_status sync r)
  ends_written sync (Ok done) is puts empty = ends_whole sync is (writes_all begin empty puts)
  ends_written sync (Err outputs.Failed) is puts empty = (puts.cause refl, record { packets = packets; tail = tail; reads = read; writes = writes_prefix begin puts })
  ends_written sync (Err outputs.NoMemory) is puts empty = inr (record { packets = packets; tail = tail; reads = read; writes = writes_prefix begin puts })

  -- the input was read to its end, and the report was put
  pub inspects_written : (sync : Option SyncPlace) (r : Result (Unit {0}) OutputFault) → sync ≡ sync_told packets tail → Puts r old new (report_text pid packets tail) → OnOk r (new.pending ≡ [])
      → Inspects pid (report_status sync r) source (sink_over old new)
  inspects_written sync r is puts empty = record { ends = ends_written sync r is puts empty; takes = all_rear read.reads }
