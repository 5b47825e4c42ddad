-- What each actor of a script's session has to do, split off before anybody runs.
use Rattle.std.specs.Prelude.{◌≡◌, ℕ, List, [], ◌∷◌, ◌++◌, map, Bool, true, false, is_some, All, Option, Some, None, ◌==◌, if◌then◌else◌}
use Rattle.session_script.specs.declared.script.TaskLine.{TaskLine}
use Rattle.session_script.specs.declared.script.Finale.{Finale}
use Rattle.session_script.specs.declared.script.Parts.{Parts}
use Rattle.session_script.specs.declared.script.Stage.{Stage}
use Rattle.session_script.specs.declared.script.Stage.TheVariants.{Before, During, After}
use Rattle.session_script.specs.Scripts.{act_of}
use Rattle.carousel_world.specs.Events.{Step, Open, Commit, Draw}
use Rattle.carousel_world.specs.World.{InRange}
use Rattle.rehearsal.specs.Lines.{Pending, none_pending, pending_after, events_of_line, settling_step, view_happening}
use Rattle.session.specs.declared.plan.Plan.{Plan}
use Rattle.session.specs.declared.plan.Work.{Work}
use Rattle.session.specs.Chains.{DrawFields}
use Rattle.session.specs.Lines.{commits_by, draws_in}
use Rattle.session.specs.Seats.{edits_of, draw_of, IsDrawLine}
use Rattle.cycle_planner.specs.declared.TheConstants.{MOST_DRAWN}
use Rattle.std.specs.Ordering.{nat_cmp}
use Rattle.std.specs.BTreeMap.{get}
use Rattle.std.specs.declared.vec.Vec.{Vec}
use Rattle.std.specs.declared.alloc.Global.{Global}
use Rattle.session.specs.declared.plan.ByActor.{ByActor}
use Rattle.path_tree.specs.Paths.{PathNames}

-- ---- a list for each actor

module _ {T : Type 0} where
  abbrev pub items_in : Option (Vec T Global) → List T
  items_in (Some list) = list.items
  items_in None = []

  -- the list of the actor of this number
  abbrev pub lists_of : ByActor T → ℕ → List T
  lists_of b n = items_in (get nat_cmp b.lists n)

-- ---- what one reader opens

-- the paths that this reader opens, in order
abbrev pub opens_by : ℕ → List Step → List PathNames
opens_by reader [] = []
opens_by reader (Commit editor edits ∷ es) = opens_by reader es
opens_by reader (Draw asked fates ∷ es) = opens_by reader es
opens_by reader (Open r path ∷ es) = (if r == reader then path ∷ [] else []) ++ opens_by reader es

-- ---- the events of each part

-- the events of tasks, where these edits are pending above them, and what is pending below them
abbrev pub events_at : Pending → List TaskLine → List Step
events_at p [] = []
events_at p (t ∷ ts) = events_of_line p (act_of t.task) ++ events_at (pending_after p (act_of t.task)) ts

abbrev pub waiting_below : Pending → List TaskLine → Pending
waiting_below p [] = p
waiting_below p (t ∷ ts) = waiting_below (pending_after p (act_of t.task)) ts

abbrev pub before_steps : Parts → List Step
before_steps p = events_at none_pending p.before.items

abbrev pub during_steps : Parts → List Step
during_steps p = events_at (waiting_below none_pending p.before.items) p.during.items

abbrev pub settling : Bool → List Step
settling true = settling_step ∷ settling_step ∷ []
settling false = []

abbrev pub settling_line : DrawFields
settling_line = record { asked = MOST_DRAWN; fates = [] }

abbrev pub settling_lines : Bool → List DrawFields
settling_lines true = settling_line ∷ settling_line ∷ []
settling_lines false = []

abbrev pub finale_step : Finale → Step
finale_step last = Open last.reader last.path

abbrev pub end_steps : Parts → List Step
end_steps p = settling (is_some p.settle) ++ map finale_step p.finales.items

-- ---- with their stages

abbrev pub steps : List (Stage × Step) → List Step
steps events = map (λ (e : Stage × Step). e.1) events

abbrev pub above : List Step → List (Stage × Step)
above es = map (λ (e : Step). (Before, e)) es

abbrev pub below : List Step → List (Stage × Step)
below es = map (λ (e : Step). (During, e)) es

abbrev pub at_end : List Step → List (Stage × Step)
at_end es = map (λ (e : Step). (After, e)) es

-- ---- the plan

abbrev pub AreInRange : List Step → Type 0
AreInRange events = All InRange events

-- each of these events was given to its actor
pub record HasSplit (work : Work) (events : List Step) : Type 0 where
  pub commits : (n : ℕ) → map edits_of (lists_of work.commits n) ≡ commits_by n events
  pub draws : map draw_of work.draws.items ≡ draws_in events
  pub in_range : All IsDrawLine work.draws.items
  pub paths : (n : ℕ) → lists_of work.paths n ≡ opens_by n events

-- The plan of a script in these parts: its actors; what happens above `start`, in written order; what each actor has to do below it;
-- whether it settles; and what each reader opens at the end
pub record IsPlanOf (parts : Parts) (plan : Plan) : Type 0 where
  pub editors : plan.editors ≡ parts.editors
  pub readers : plan.readers ≡ parts.readers
  pub before : map view_happening plan.before.items ≡ before_steps parts
  pub range : AreInRange (map view_happening plan.before.items)
  pub work : HasSplit plan.work (during_steps parts)
  pub settles : plan.settles ≡ is_some parts.settle
  pub finales : (n : ℕ) → lists_of plan.finales n ≡ opens_by n (map finale_step parts.finales.items)
