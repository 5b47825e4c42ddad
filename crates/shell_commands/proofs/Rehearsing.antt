-- What `rehearse` promises, by what was read and what happened.
use Rattle.std.proofs.Common.{◌≡◌, ℕ, List, [], ◌++◌, Ok, Err, inl, inr, refl, sym, ◌∙◌, ap, append-nil, subst}
use Rattle.std.specs.Prelude.{MatchOption, ⊤}
use Rattle.oc_bytes.specs.Outcome.{Known}
use Rattle.session_script.specs.Scripts.{Fields, cause}
use Rattle.session_script.specs.Grammar.{meaning_of}
use Rattle.session_script.specs.declared.script.ScriptFault.{ScriptFault}
use Rattle.session_script.specs.declared.script.ScriptFault.TheVariants as scripts
use Rattle.carousel_world.specs.Events.{Step}
use Rattle.carousel_world.specs.Promises.{MeetsHeadline}
use Rattle.rehearsal.specs.Lines.{events_of}
use Rattle.rehearsal.specs.Reports.{report_of}
use Rattle.rehearsal.specs.Reports as runs
use Rattle.shell_streams.specs.Cuts.{Bytes}
use Rattle.shell_streams.specs.Packets.{Stopped, is_longer}
use Rattle.shell_streams.specs.Sending.{OutputState}
use Rattle.shell_streams.specs.declared.input.InputFault.{InputFault}
use Rattle.shell_streams.specs.declared.input.InputFault.TheVariants as inputs
use Rattle.shell_streams.specs.declared.output.OutputFault.{OutputFault}
use Rattle.shell_streams.specs.declared.output.OutputFault.TheVariants as outputs
use Rattle.shell_streams.proofs.CallerLemmas.{told_weaker, all_rear}
use Rattle.receiver_commands.specs.Over.{Over, sink_over, Failed, IsUntouched, WritesAll}
use Rattle.shell_commands.specs.Rehearse.{ReadsAll, ReadsScript, EndsRehearse, Rehearses}
use Rattle.receiver_commands.specs.Statuses.{input_status, output_status, script_status}
use Rattle.receiver_commands.specs.declared.status.Status.TheVariants as status
use Rattle.receiver_commands.proofs.CallerLemmas.{goes_on, writes_all, writes_prefix}

ends_stopped : (weights : List ℕ) (source sink : Over Bytes) (fault : InputFault) → Known source.before source.after (Stopped (is_longer 16777216) fault)
    → (fault ≡ inputs.Failed → Failed source) → IsUntouched sink → EndsRehearse weights source sink (input_status fault)
ends_stopped weights source sink inputs.Failed t failed none = (failed refl, none)
ends_stopped weights source sink inputs.TooLong t failed none = (goes_on source.before source.after t, none)
ends_stopped weights source sink inputs.NoMemory t failed none = inl none

-- a fault stopped the reading
pub rehearses_stopped : (weights : List ℕ) (source sink : Over Bytes) (fault : InputFault) → Known source.before source.after (Stopped (is_longer 16777216) fault)
    → (fault ≡ inputs.Failed → Failed source) → IsUntouched sink → Rehearses weights (input_status fault) source sink
rehearses_stopped weights source sink fault t failed none = record { ends = ends_stopped weights source sink fault t failed none; takes = told_weaker t (λ x y s. s.rear) }

ends_misread : (weights : List ℕ) (source sink : Over Bytes) (text : Bytes) (fault : ScriptFault) → ReadsAll source text → MatchOption (cause fault) ⊤ (λ f. meaning_of text ≡ Err f)
    → IsUntouched sink → EndsRehearse weights source sink (script_status fault)
ends_misread weights source sink text (scripts.BadLine number why) all says none = (record { text = text; reads = all; says = says }, none)
ends_misread weights source sink text scripts.NoMemory all says none = inl none

-- the input gave no script
pub rehearses_misread : (weights : List ℕ) (source sink : Over Bytes) (text : Bytes) (fault : ScriptFault) → ReadsAll source text → MatchOption (cause fault) ⊤ (λ f. meaning_of text ≡ Err f)
    → IsUntouched sink → Rehearses weights (script_status fault) source sink
rehearses_misread weights source sink text fault all says none = record { ends = ends_misread weights source sink text fault all says none; takes = all_rear all }

-- all its events happened
pub rehearses_all : {x : Unit {0}} (weights : List ℕ) (source : Over Bytes) (old new : OutputState) (text : Bytes) (script : Fields) → ReadsAll source text → meaning_of text ≡ Ok script → old.pending ≡ []
    → runs.Rehearses (Ok x) old new weights script → Rehearses weights status.Done source (sink_over old new)
rehearses_all weights source old new text script all says begin r =
    let events : r.happened ≡ events_of script = sym (append-nil r.happened) ∙ ap (λ es. r.happened ++ es) (sym r.all) ∙ sym r.events in
    let W : List Step → Type 0 = λ es. WritesAll (sink_over old new) (report_of weights es) in
    record {
      ends = record {
        script = script;
        read = record { text = text; reads = all; says = says };
        writes = subst W events (writes_all begin r.empty r.puts);
        headline = subst (MeetsHeadline 1 weights) events r.headline;
      };
      takes = all_rear all;
    }

ends_part : (weights : List ℕ) (source : Over Bytes) (old new : OutputState) (script : Fields) (fault : OutputFault) → ReadsScript source script → old.pending ≡ []
    → runs.Rehearses {T = Unit {0}} (Err fault) old new weights script → EndsRehearse weights source (sink_over old new) (output_status fault)
ends_part weights source old new script outputs.Failed read begin r =
    (r.puts.cause refl, record { script = script; read = read; happened = r.happened; rest = r.rest; events = r.events; writes = writes_prefix begin r.puts; headline = r.headline })
ends_part weights source old new script outputs.NoMemory read begin r =
    inr (record { script = script; read = read; happened = r.happened; rest = r.rest; events = r.events; writes = writes_prefix begin r.puts; headline = r.headline })

-- a fault stopped them
pub rehearses_part : (weights : List ℕ) (source : Over Bytes) (old new : OutputState) (text : Bytes) (script : Fields) (fault : OutputFault) → ReadsAll source text → meaning_of text ≡ Ok script
    → old.pending ≡ [] → runs.Rehearses {T = Unit {0}} (Err fault) old new weights script → Rehearses weights (output_status fault) source (sink_over old new)
rehearses_part weights source old new text script fault all says begin r = record {
  ends = ends_part weights source old new script fault (record { text = text; reads = all; says = says }) begin r;
  takes = all_rear all;
}
