-- A receiver and the desk that its shots are shown to, and what they write of more candidates.
use Rattle.std.specs.Prelude.{◌≡◌, List, [], ◌∷◌, ◌++◌, length}
use Rattle.std.specs.List.{flat_map}
use Rattle.oc_bytes.specs.Outcome.{cap_at_u64}
use Rattle.path_tree.specs.Paths.{PathNames}
use Rattle.path_resolver.specs.Resolving.{Held}
use Rattle.tuner_core.specs.LookBack.{answer_after}
use Rattle.tuner_core.specs.Stands as tuners
use Rattle.watch_desk.specs.Notices.{notices}
use Rattle.watch_desk.specs.Parts.{whole_after}
use Rattle.watch_desk.specs.Telling.{AreUpToDate}
use Rattle.watch_desk.specs.View.{state}
use Rattle.watch_desk.specs.Watching as desks
use Rattle.shell_streams.specs.Cuts.{Bytes}
use Rattle.receiver_commands.specs.Watch.{notice_line}
use Rattle.receiver_commands.specs.declared.watch.Watcher.{Watcher}

-- these candidates were heard, and the answers on the last shot that was shown are those after them
pub record StandsFor {X : _} {F : _} {g : _} (w : Watcher X F g) (paths prefixes : List PathNames) (candidates : List Bytes) : Type 0 where
  pub tuner_stands : tuners.StandsFor w.tuner candidates
  pub shots : List Held
  pub desk_stands : desks.StandsFor (state w.desk) shots
  pub up_to_date : AreUpToDate shots candidates
  -- so many modules are whole
  pub whole_are : w.whole ≡ whole_after candidates
  pub paths_are : (state w.desk).paths ≡ paths
  pub prefixes_are : (state w.desk).prefixes ≡ prefixes

-- what is written of one candidate after others
abbrev pub lines_after : (paths prefixes : List PathNames) (before : List Bytes) → Bytes → Bytes
lines_after paths prefixes before c =
    flat_map (notice_line paths (cap_at_u64 (length (before ++ c ∷ []))) (answer_after (before ++ c ∷ []))) (notices prefixes paths (answer_after before) (answer_after (before ++ c ∷ [])))

-- and of several
abbrev pub lines_behind : (paths prefixes : List PathNames) (before candidates : List Bytes) → Bytes
lines_behind paths prefixes before [] = []
lines_behind paths prefixes before (c ∷ cs) = lines_after paths prefixes before c ++ lines_behind paths prefixes (before ++ c ∷ []) cs
