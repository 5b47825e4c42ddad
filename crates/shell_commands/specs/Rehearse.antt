-- What `rehearse` promises: the input is a script, whose events happen in written order in one world of carousel 1, and a line of each is
-- written. The language of scripts and the lines are this project's own.
use Rattle.std.specs.Prelude.{◌≡◌, ℕ, List, ◌++◌, Ok, Err}
use Rattle.oc_bytes.specs.Outcome.{Known}
use Rattle.session_script.specs.Scripts.{Fields}
use Rattle.session_script.specs.Grammar.{meaning_of}
use Rattle.session_script.specs.declared.script.LineCause.{LineCause}
use Rattle.carousel_world.specs.Events.{Step}
use Rattle.carousel_world.specs.Promises.{MeetsHeadline}
use Rattle.rehearsal.specs.Lines.{events_of}
use Rattle.rehearsal.specs.Reports.{report_of}
use Rattle.shell_streams.specs.Cuts.{Bytes}
use Rattle.shell_streams.specs.Packets.{AllTaken, is_longer}
use Rattle.receiver_commands.specs.Over.{Over, IsUntouched, TakesPrefix, WritesAll, WritesPrefix, EndsRead}
use Rattle.receiver_commands.specs.declared.status.Status.{Status}
use Rattle.receiver_commands.specs.declared.status.Status.TheVariants as status
use Rattle.shell_commands.specs.declared.rehearse.TheConstants.{MOST_SCRIPT_BYTES}

-- ---- what was read

-- the whole input, within its limit
abbrev pub ReadsAll : Over Bytes → Bytes → Type 0
ReadsAll source text = Known source.before source.after (AllTaken (λ input. input) (is_longer MOST_SCRIPT_BYTES) text)

-- it is this script
pub record ReadsScript (source : Over Bytes) (script : Fields) : Type 0 where
  pub text : Bytes
  pub reads : ReadsAll source text
  pub says : meaning_of text ≡ Ok script

-- it is none: this line is the first that doesn't fit, and this is its first cause
pub record ReadsBadLine (source : Over Bytes) (number : ℕ) (cause : LineCause) : Type 0 where
  pub text : Bytes
  pub reads : ReadsAll source text
  pub says : meaning_of text ≡ Err (number, cause)

-- ---- how it ends

-- all events of the script happened, and the whole report was written; what is promised of every list of events holds of them
pub record Rehearsed (weights : List ℕ) (source sink : Over Bytes) : Type 0 where
  pub script : Fields
  pub read : ReadsScript source script
  pub writes : WritesAll sink (report_of weights (events_of script))
  pub headline : MeetsHeadline 1 weights (events_of script)

-- the first of them did, and a prefix of their report was written
pub record Rehearsing (weights : List ℕ) (source sink : Over Bytes) : Type 0 where
  pub script : Fields
  pub read : ReadsScript source script
  pub happened : List Step
  pub rest : List Step
  pub events : events_of script ≡ happened ++ rest
  pub writes : WritesPrefix sink (report_of weights happened)
  pub headline : MeetsHeadline 1 weights happened

-- all of a script was run, or a line of it is bad and nothing was written
abbrev pub RunsAll : (Whole : Type 0) → Over Bytes → Over Bytes → Status → Type 0
RunsAll Whole source sink status.Done = Whole
RunsAll Whole source sink (status.BadLine number cause) =
    ReadsBadLine source number cause × IsUntouched sink
RunsAll Whole source sink _ = ⊥

-- how a command ends that reads a script and then runs it, all of it or a part
abbrev pub EndsScript : (Whole Part : Type 0) (source sink : Over Bytes) → Status → Type 0
EndsScript Whole Part source sink =
    EndsRead (is_longer MOST_SCRIPT_BYTES) (RunsAll Whole source sink) (IsUntouched sink) Part
    source sink

abbrev pub EndsRehearse : List ℕ → Over Bytes → Over Bytes → Status → Type 0
EndsRehearse weights source sink =
    EndsScript (Rehearsed weights source sink) (Rehearsing weights source sink) source sink

pub record Rehearses (weights : List ℕ) (s : Status) (source sink : Over Bytes) : Type 0 where
  pub ends : EndsRehearse weights source sink s
  pub takes : TakesPrefix source
