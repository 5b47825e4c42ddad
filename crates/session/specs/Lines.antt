-- From a script to what each actor of its session is asked for. The language of scripts is this project's own.
use Rattle.std.specs.Prelude.{ℕ, suc, ◌==◌, Bool, true, false, List, [], ◌∷◌, ◌++◌, map, length, if◌then◌else◌, count_by}
use Rattle.std.specs.List.{list_any}
use Rattle.path_tree.specs.declared.tree.Edit.{Edit}
use Rattle.session_script.specs.declared.script.Stage.{Stage}
use Rattle.session_script.specs.declared.script.Stage.TheVariants.{Before, During, After}
use Rattle.session_script.specs.Scripts.{Act, LineFields, Fields}
use Rattle.session_script.specs.Scripts as acts
use Rattle.carousel_world.specs.Events.{Step, Commit, Draw, Open}
use Rattle.rehearsal.specs.Lines.{Pending, none_pending, pending_after, events_of_line}
use Rattle.session.specs.Chains.{DrawFields}
use Rattle.session.specs.Opened.{Asked}

-- ---- events

-- the events of lines in written order, each with the stage of its line, where these edits are pending above them
abbrev pub staged_from : Pending → List LineFields → List (Stage × Step)
staged_from p [] = []
staged_from p (l ∷ ls) = map (λ e. (l.stage, e)) (events_of_line p l.act) ++ staged_from (pending_after p l.act) ls

abbrev pub staged_events : Fields → List (Stage × Step)
staged_events script = staged_from none_pending script.lines

-- the edits of each commit of this editor, in order
abbrev pub commits_by : ℕ → List Step → List (List Edit)
commits_by editor [] = []
commits_by editor (Commit e edits ∷ es) = (if e == editor then edits ∷ [] else []) ++ commits_by editor es
commits_by editor (Draw asked fates ∷ es) = commits_by editor es
commits_by editor (Open reader path ∷ es) = commits_by editor es

-- the draws, in order
abbrev pub draws_in : List Step → List DrawFields
draws_in [] = []
draws_in (Commit editor edits ∷ es) = draws_in es
draws_in (Draw asked fates ∷ es) = record { asked = asked; fates = fates } ∷ draws_in es
draws_in (Open reader path ∷ es) = draws_in es

-- ---- what is asked of a reader

abbrev pub is_draw_before : Stage × Step → Bool
is_draw_before (Before, Draw asked fates) = true
is_draw_before _ = false

-- How many draws an open has to have heard: before `start` those above it, after `start` those before `start`, and at the end all
abbrev pub least_for : (above before all : ℕ) → Stage → ℕ
least_for above before all Before = above
least_for above before all During = before
least_for above before all After = all

-- the opens of this reader, in order, where so many draws are above these events
abbrev pub asked_from : (reader before all above : ℕ) → List (Stage × Step) → List Asked
asked_from reader before all above [] = []
asked_from reader before all above ((stage, Commit editor edits) ∷ es) = asked_from reader before all above es
asked_from reader before all above ((stage, Draw asked fates) ∷ es) = asked_from reader before all (suc above) es
asked_from reader before all above ((stage, Open r path) ∷ es) =
    (if r == reader then record { path = path; least = least_for above before all stage } ∷ [] else []) ++ asked_from reader before all above es

abbrev pub all_draws : Fields → ℕ
all_draws script = length (draws_in (map (λ e. e.1) (staged_events script)))

abbrev pub draws_before_start : Fields → ℕ
draws_before_start script = count_by is_draw_before (staged_events script)

abbrev pub asked_of : ℕ → Fields → List Asked
asked_of reader script = asked_from reader (draws_before_start script) (all_draws script) 0 (staged_events script)

-- ---- whether it settles

abbrev pub is_settle : Act → Bool
is_settle acts.Settle = true
is_settle _ = false

abbrev pub settles : Fields → Bool
settles script = list_any (λ (l : LineFields). is_settle l.act) script.lines
