-- What `session` promises, by what was read and what was played.
use Rattle.std.proofs.Common.{◌≡◌, ℕ, List, [], ◌∷◌, map, Ok, Err, inl, inr, refl, ◌∙◌, ap}
use Rattle.std.specs.Prelude.{MatchOption, ⊤}
use Rattle.oc_bytes.specs.Outcome.{Known}
use Rattle.session_script.specs.Scripts.{Fields, cause}
use Rattle.session_script.specs.Grammar.{meaning_of}
use Rattle.session_script.specs.declared.script.ScriptFault.{ScriptFault}
use Rattle.session_script.specs.declared.script.ScriptFault.TheVariants as scripts
use Rattle.carousel_world.specs.Events.{Step, view}
use Rattle.carousel_world.specs.declared.event.Event.{Event}
use Rattle.carousel_world.specs.declared.event.Reply.{Reply}
use Rattle.rehearsal.specs.Reports.{report}
use Rattle.history_merge.specs.Merging.{known_view}
use Rattle.session.specs.Sessions.{IsSession}
use Rattle.shell_streams.specs.Cuts.{Bytes}
use Rattle.shell_streams.specs.Packets.{Stopped, is_longer}
use Rattle.shell_streams.specs.Sending.{OutputState, Puts}
use Rattle.shell_streams.specs.declared.input.InputFault.{InputFault}
use Rattle.shell_streams.specs.declared.input.InputFault.TheVariants as inputs
use Rattle.shell_streams.specs.declared.output.OutputFault.{OutputFault}
use Rattle.shell_streams.specs.declared.output.OutputFault.TheVariants as outputs
use Rattle.shell_streams.proofs.CallerLemmas.{told_weaker, all_rear}
use Rattle.receiver_commands.specs.Over.{Over, sink_over, Failed, IsUntouched}
use Rattle.shell_commands.specs.Rehearse.{ReadsAll, ReadsScript}
use Rattle.receiver_commands.specs.Statuses.{input_status, output_status, script_status}
use Rattle.receiver_commands.specs.declared.status.Status.TheVariants as status
use Rattle.receiver_commands.proofs.CallerLemmas.{goes_on, writes_all, writes_prefix}
use Rattle.carousel_shell.specs.Session.{EndsSession, Plays, report_of_known}

-- the report of what was told is that of its view
pub told_report : (told : List (Event × Reply)) → report (map (λ x. view x.0) told) (map (λ x. x.1) told) ≡ report_of_known (map known_view told)
told_report told = ap (λ es. report es (map (λ x. x.1) told)) (firsts told) ∙ ap (λ rs. report (map (λ (x : Step × Reply). x.0) (map known_view told)) rs) (seconds told)
  where
    firsts : (told : List (Event × Reply)) → map (λ x. view x.0) told ≡ map (λ (x : Step × Reply). x.0) (map known_view told)
    firsts [] = refl
    firsts (x ∷ xs) = ap (λ es. view x.0 ∷ es) (firsts xs)

    seconds : (told : List (Event × Reply)) → map (λ x. x.1) told ≡ map (λ (x : Step × Reply). x.1) (map known_view told)
    seconds [] = refl
    seconds (x ∷ xs) = ap (λ rs. x.1 ∷ rs) (seconds xs)

-- ---- reading

ends_stopped : (ws : List ℕ) (source sink : Over Bytes) (fault : InputFault) → Known source.before source.after (Stopped (is_longer 16777216) fault)
    → (fault ≡ inputs.Failed → Failed source) → IsUntouched sink → EndsSession ws source sink (input_status fault)
ends_stopped ws source sink inputs.Failed t failed none = (failed refl, none)
ends_stopped ws source sink inputs.TooLong t failed none = (goes_on source.before source.after t, none)
ends_stopped ws source sink inputs.NoMemory t failed none = inl none

-- a fault stopped the reading
pub plays_stopped : (ws : List ℕ) (source sink : Over Bytes) (fault : InputFault) → Known source.before source.after (Stopped (is_longer 16777216) fault)
    → (fault ≡ inputs.Failed → Failed source) → IsUntouched sink → Plays ws (input_status fault) source sink
plays_stopped ws source sink fault t failed none = record { ends = ends_stopped ws source sink fault t failed none; takes = told_weaker t (λ x y s. s.rear) }

ends_misread : (ws : List ℕ) (source sink : Over Bytes) (text : Bytes) (fault : ScriptFault) → ReadsAll source text → MatchOption (cause fault) ⊤ (λ f. meaning_of text ≡ Err f)
    → IsUntouched sink → EndsSession ws source sink (script_status fault)
ends_misread ws source sink text (scripts.BadLine number why) all says none = (record { text = text; reads = all; says = says }, none)
ends_misread ws source sink text scripts.NoMemory all says none = inl none

-- the input gave no script
pub plays_misread : (ws : List ℕ) (source sink : Over Bytes) (text : Bytes) (fault : ScriptFault) → ReadsAll source text → MatchOption (cause fault) ⊤ (λ f. meaning_of text ≡ Err f)
    → IsUntouched sink → Plays ws (script_status fault) source sink
plays_misread ws source sink text fault all says none = record { ends = ends_misread ws source sink text fault all says none; takes = all_rear all }

-- there was no memory for its session
pub plays_nothing : (ws : List ℕ) (source sink : Over Bytes) (text : Bytes) → ReadsAll source text → IsUntouched sink → Plays ws status.NoMemory source sink
plays_nothing ws source sink text all none = record { ends = inl none; takes = all_rear all }

-- ---- writing

-- the session was played, and its report was put
pub plays_all : {x : Unit {0}} (ws : List ℕ) (source : Over Bytes) (old new : OutputState) (text : Bytes) (script : Fields) (told : List (Step × Reply)) → ReadsAll source text
    → meaning_of text ≡ Ok script → IsSession ws script told → old.pending ≡ [] → new.pending ≡ [] → Puts (Ok x) old new (report_of_known told) → Plays ws status.Done source (sink_over old new)
plays_all ws source old new text script told all says session begin empty puts = record {
  ends = record {
    script = script;
    read = record { text = text; reads = all; says = says };
    told = told;
    session = session;
    writes = writes_all begin empty puts;
  };
  takes = all_rear all;
}

ends_part : (ws : List ℕ) (source : Over Bytes) (old new : OutputState) (script : Fields) (told : List (Step × Reply)) (fault : OutputFault) → ReadsScript source script
    → IsSession ws script told → old.pending ≡ [] → Puts {T = Unit {0}} (Err fault) old new (report_of_known told) → EndsSession ws source (sink_over old new) (output_status fault)
ends_part ws source old new script told outputs.Failed read session begin puts =
    (puts.cause refl, record { script = script; read = read; told = told; session = session; writes = writes_prefix begin puts })
ends_part ws source old new script told outputs.NoMemory read session begin puts =
    inr (record { script = script; read = read; told = told; session = session; writes = writes_prefix begin puts })

-- a fault stopped its report
pub plays_part : (ws : List ℕ) (source : Over Bytes) (old new : OutputState) (text : Bytes) (script : Fields) (told : List (Step × Reply)) (fault : OutputFault) → ReadsAll source text
    → meaning_of text ≡ Ok script → IsSession ws script told → old.pending ≡ [] → Puts {T = Unit {0}} (Err fault) old new (report_of_known told)
    → Plays ws (output_status fault) source (sink_over old new)
plays_part ws source old new text script told fault all says session begin puts = record {
  ends = ends_part ws source old new script told fault (record { text = text; reads = all; says = says }) session begin puts;
  takes = all_rear all;
}
