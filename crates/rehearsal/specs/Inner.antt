-- What private functions and invariants are stated in; no public contract names it.
use Rattle.std.specs.Prelude.{◌≡◌, ℕ, List, ◌++◌, Result, Ok, Err, string_bytes}
use Rattle.session_script.specs.Scripts.{LineFields, Fields}
use Rattle.shell_streams.specs.Sending.{OutputState, HasPut}
use Rattle.shell_streams.specs.declared.output.OutputFault.{OutputFault}
use Rattle.carousel_world.specs.Events.{Step}
use Rattle.carousel_world.specs.Promises.{MeetsHeadline, world_after}
use Rattle.carousel_world.specs.View.{kept_in, StandsFor}
use Rattle.rehearsal.specs.declared.report.Subject.{Subject}
use Rattle.rehearsal.specs.declared.rehearsal.Rehearsal.{Rehearsal}
use Rattle.rehearsal.specs.Lines.{Pending, events_of, events_from, Holds}
use Rattle.rehearsal.specs.Reports.{subject_words, path_words, report_of, Rehearses}

-- a subject is that of the event
pub record Tells (s : Subject) (event : Step) : Type 0 where
  pub words : string_bytes s.words ≡ subject_words event
  pub path : string_bytes s.path ≡ path_words event

-- these events happened in the rehearsal's world, and these edits are pending
pub record Stands {X : _} {F : _} {g : _} (r : Rehearsal X F g) (weights : List ℕ) (happened : List Step) (pending : Pending) : Type 0 where
  pub world : StandsFor (kept_in r.world) (world_after 1 weights happened)
  pub headline : MeetsHeadline 1 weights happened
  pub waits : Holds r.interpreter pending

-- of the script's lines these are left: the others were run, and the report of their events was put
pub record HasRun {X : _} {F : _} {g : _} (r : Rehearsal X F g) (weights : List ℕ) (script : Fields) (left : List LineFields) (old new : OutputState) : Type 0 where
  pub happened : List Step
  pub pending : Pending
  pub split : events_of script ≡ happened ++ events_from pending left
  pub stands : Stands r weights happened pending
  pub puts : HasPut old new (report_of weights happened)

-- so far goes the script's rehearsal: lines of it are left, or a fault ended it
abbrev pub GoesOn : {T : Type 0} {X : _} {F : _} {g : _} → Result T OutputFault → Rehearsal X F g → List ℕ → Fields → List LineFields → OutputState → OutputState → Type 0
GoesOn (Ok _) r weights script left old new = HasRun r weights script left old new
GoesOn {T = T} (Err fault) r weights script left old new = Rehearses {T = T} (Err fault) old new weights script

-- these lines come next, and were run, or a fault ended that
abbrev pub Runs : {T : Type 0} {X : _} {F : _} {g : _} → Result T OutputFault → (old new : Rehearsal X F g) → (before after : OutputState) → List LineFields → Type 0
Runs outcome old new before after lines = (weights : List ℕ) (script : Fields) (left : List LineFields) (first : OutputState)
    → HasRun old weights script (lines ++ left) first before → GoesOn outcome new weights script left first after
