-- What `extract` promises, by what was heard, written and put.
use Rattle.std.proofs.Common.{◌≡◌, ℕ, List, [], Option, Result, Ok, Err, inl, inr, refl, subst}
use Rattle.std.specs.Prelude.{OnOk}
use Rattle.oc_bytes.specs.Outcome.{Known}
use Rattle.folder_store.specs.Folders.{FolderTree}
use Rattle.folder_extract.specs.Extracting.{Ends, WrotePart}
use Rattle.folder_extract.specs.declared.extracting.Extracted.{Extracted}
use Rattle.folder_extract.specs.declared.extracting.Extracted.TheVariants as ended
use Rattle.path_resolver.specs.Resolving.{Held, answer_of}
use Rattle.tuner_core.specs.LookBack.{answer_after}
use Rattle.shell_streams.specs.Cuts.{Bytes}
use Rattle.shell_streams.specs.Packets.{Stopped}
use Rattle.shell_streams.specs.Carriers.{sections_by}
use Rattle.shell_streams.specs.Sending.{IsInTime, OutputState}
use Rattle.shell_streams.specs.declared.carrier.Carrier.TheVariants as carriers
use Rattle.shell_streams.specs.declared.input.InputFault.{InputFault}
use Rattle.shell_streams.specs.declared.input.InputFault.TheVariants as inputs
use Rattle.shell_streams.specs.declared.output.OutputFault.{OutputFault}
use Rattle.shell_streams.specs.declared.output.OutputFault.TheVariants as outputs
use Rattle.shell_streams.proofs.CallerLemmas.{told_weaker, all_rear}
use Rattle.receiver_commands.specs.Over.{Over, sink_over, Failed, TakesPrefix}
use Rattle.receiver_commands.specs.Replies.{Hears}
use Rattle.receiver_commands.specs.Open.{AllAnswers}
use Rattle.receiver_commands.specs.Statuses.{input_status}
use Rattle.receiver_commands.specs.Extract.{all_entries, NothingMade, EndsExtract, Extracts}
use Rattle.receiver_commands.specs.Inner.Extract.{extract_status}
use Rattle.receiver_commands.specs.declared.status.Status.TheVariants as status
use Rattle.receiver_commands.proofs.Answering.{HoldsHeard}
use Rattle.receiver_commands.proofs.Replying.{goes_on}
use Rattle.receiver_commands.proofs.Writing.{writes_all, writes_prefix}

ends_stopped : (pid : ℕ) (folder : Bytes) (source sink : Over Bytes) (store : Over FolderTree) (fault : InputFault) → Known source.before source.after (Stopped (sections_by (carriers.Packets pid)).goes_on fault)
    → (fault ≡ inputs.Failed → Failed source) → NothingMade sink store → EndsExtract pid folder source sink store (input_status fault)
ends_stopped pid folder source sink store inputs.Failed t cause none = (cause refl, none)
ends_stopped pid folder source sink store inputs.TooLong t cause none = (goes_on source.before source.after t, none)
ends_stopped pid folder source sink store inputs.NoMemory t cause none = inl none

-- a fault stopped the reading
pub extracts_stopped : (pid : ℕ) (folder : Bytes) (source sink : Over Bytes) (store : Over FolderTree) (fault : InputFault) → Known source.before source.after (Stopped (sections_by (carriers.Packets pid)).goes_on fault)
    → (fault ≡ inputs.Failed → Failed source) → NothingMade sink store → Extracts pid folder (input_status fault) source sink store
extracts_stopped pid folder source sink store fault t cause none =
    record { ends = ends_stopped pid folder source sink store fault t cause none; takes = told_weaker t (λ x y s. s.rear) }

-- there was no memory before it began
pub extracts_nothing : (pid : ℕ) (folder : Bytes) (source sink : Over Bytes) (store : Over FolderTree) → TakesPrefix source → NothingMade sink store → Extracts pid folder status.NoMemory source sink store
extracts_nothing pid folder source sink store takes none = record { ends = inl none; takes = takes }

module _ (pid : ℕ) (folder : Bytes) (source : Over Bytes) (store : Over FolderTree) (old new : OutputState) (sections : List Bytes) (heard : Hears (carriers.Packets pid) source sections) (begin : old.pending ≡ []) where
  ends_written : (r : Result Extracted OutputFault) → WrotePart store.before store.after (all_entries folder (answer_after sections))
      → Ends folder (answer_after sections) r store.before store.after (Failed store) old new → OnOk r (new.pending ≡ []) → EndsExtract pid folder source (sink_over old new) store (extract_status r)
  ends_written (Ok ended.All) part e empty = record { sections = sections; hears = heard; all_is = e.all_is; wrote = e.wrote; writes = writes_all begin empty e.told }
  ends_written (Ok ended.NotAll) part e empty = record { sections = sections; hears = heard; all_is = e.all_is; wrote = e.wrote; writes = writes_all begin empty e.told }
  ends_written (Ok ended.Failed) part e empty = record {
    sections = sections;
    hears = heard;
    done = e.done;
    path = e.path;
    rest = e.rest;
    split = e.split;
    can = e.can;
    found = e.found;
    cause = e.cause;
    wrote = e.wrote;
    writes = writes_all begin empty e.told;
  }
  ends_written (Err outputs.Failed) part e empty = (e.cause refl, record { sections = sections; hears = heard; wrote = part; writes = writes_prefix begin e })
  ends_written (Err outputs.NoMemory) part e empty = inr (record { sections = sections; hears = heard; wrote = part; writes = writes_prefix begin e })

-- the sections were heard, and the extraction ended
pub extracts_written : (pid : ℕ) (folder : Bytes) (source : Over Bytes) (store : Over FolderTree) (old new : OutputState) (held : Held) (r : Result Extracted OutputFault)
    → HoldsHeard (sections_by (carriers.Packets pid)) held source → old.pending ≡ [] → WrotePart store.before store.after (all_entries folder (answer_of held))
    → Ends folder (answer_of held) r store.before store.after (Failed store) old new → OnOk r (new.pending ≡ []) → Extracts pid folder (extract_status r) source (sink_over old new) store
extracts_written pid folder source store old new held r h begin part ends empty =
    let P : Held → Type 0 = λ x. WrotePart store.before store.after (all_entries folder (answer_of x)) in
    let E : Held → Type 0 = λ x. Ends folder (answer_of x) r store.before store.after (Failed store) old new in
    record { ends = ends_written pid folder source store old new h.taken h.told begin r (subst P h.heard part) (subst E h.heard ends) empty; takes = all_rear h.told }

-- ---- the sink

pub ends_same : (folder : Bytes) (answer : AllAnswers) (r : Result Extracted OutputFault) (before after : Option FolderTree) (rose : Type 0) (old new : OutputState) → Ends folder answer r before after rose old new
    → new.name ≡ old.name
ends_same folder answer (Ok ended.All) before after rose old new e = e.told.same
ends_same folder answer (Ok ended.NotAll) before after rose old new e = e.told.same
ends_same folder answer (Ok ended.Failed) before after rose old new e = e.told.same
ends_same folder answer (Err fault) before after rose old new e = e.same

pub ends_in_time : (folder : Bytes) (answer : AllAnswers) (r : Result Extracted OutputFault) (before after : Option FolderTree) (rose : Type 0) (old new : OutputState) → Ends folder answer r before after rose old new
    → IsInTime old new
ends_in_time folder answer (Ok ended.All) before after rose old new e = e.told.in_time
ends_in_time folder answer (Ok ended.NotAll) before after rose old new e = e.told.in_time
ends_in_time folder answer (Ok ended.Failed) before after rose old new e = e.told.in_time
ends_in_time folder answer (Err fault) before after rose old new e = e.in_time
