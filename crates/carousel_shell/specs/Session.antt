-- What `session` promises: the input is a script, whose actors run it side by side, and the report of one history of what they did is
-- written. The language of scripts and the lines are this project's own.
use Rattle.std.specs.Prelude.{ℕ, List, map}
use Rattle.session_script.specs.Scripts.{Fields}
use Rattle.carousel_world.specs.Events.{Step}
use Rattle.carousel_world.specs.declared.event.Reply.{Reply}
use Rattle.rehearsal.specs.Reports.{report}
use Rattle.session.specs.Sessions.{IsSession}
use Rattle.shell_streams.specs.Cuts.{Bytes}
use Rattle.receiver_commands.specs.Over.{Over, TakesPrefix, WritesAll, WritesPrefix}
use Rattle.shell_commands.specs.Rehearse.{ReadsScript, EndsScript}
use Rattle.receiver_commands.specs.declared.status.Status.{Status}

-- the report of events, each with its reply
abbrev pub report_of_known : List (Step × Reply) → Bytes
report_of_known told = report (map (λ (x : Step × Reply). x.0) told) (map (λ (x : Step × Reply). x.1) told)

-- ---- how it ends

-- all of the script's session happened with these weights, and the whole report of it was written
pub record Played (weights : List ℕ) (source sink : Over Bytes) : Type 0 where
  pub script : Fields
  pub read : ReadsScript source script
  pub told : List (Step × Reply)
  pub session : IsSession weights script told
  pub writes : WritesAll sink (report_of_known told)

-- it did, and a prefix of the report was written
pub record Playing (weights : List ℕ) (source sink : Over Bytes) : Type 0 where
  pub script : Fields
  pub read : ReadsScript source script
  pub told : List (Step × Reply)
  pub session : IsSession weights script told
  pub writes : WritesPrefix sink (report_of_known told)

abbrev pub EndsSession : List ℕ → Over Bytes → Over Bytes → Status → Type 0
EndsSession weights source sink =
    EndsScript (Played weights source sink) (Playing weights source sink) source sink

pub record Plays (weights : List ℕ) (s : Status) (source sink : Over Bytes) : Type 0 where
  pub ends : EndsSession weights source sink s
  pub takes : TakesPrefix source
