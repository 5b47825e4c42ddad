-- From a script's lines to the events of a world. The language of scripts is this project's own.
use Rattle.std.specs.Prelude.{◌≡◌, ℕ, ◌+◌, ◌*◌, ◌/◌, ◌%◌, ◌==◌, List, [], ◌∷◌, ◌++◌, map, Option, Some, None, if◌then◌else◌}
use Rattle.std.specs.List.{range_with_len}
use Rattle.std.specs.Ordering.{nat_cmp}
use Rattle.std.specs.BTreeMap.{get}
use Rattle.std.specs.declared.vec.Vec.{Vec}
use Rattle.std.specs.declared.alloc.Global.{Global}
use Rattle.path_tree.specs.Paths.{Bytes}
use Rattle.path_tree.specs.declared.tree.Edit.{Edit}
use Rattle.path_tree.specs.declared.tree.Edit.TheVariants as edits
use Rattle.session_script.specs.Scripts.{Act, LineFields, Fields}
use Rattle.session_script.specs.Scripts as lines
use Rattle.carousel_world.specs.Events.{Step, Commit, Draw, Open}
use Rattle.rehearsal.specs.declared.interpreter.Happening.{Happening}
use Rattle.rehearsal.specs.declared.interpreter.Happening.TheVariants as code
use Rattle.rehearsal.specs.declared.interpreter.Interpreter.{Interpreter}
use Rattle.cycle_planner.specs.declared.TheConstants.{MOST_DRAWN}

-- of each editor, the edits of its lines that no commit line of it followed yet
abbrev pub Pending : Type 0
Pending = ℕ → List Edit

abbrev pub none_pending : Pending
none_pending editor = []

abbrev pub with_edit : Pending → ℕ → Edit → Pending
with_edit p editor edit = λ e. if e == editor then p e ++ edit ∷ [] else p e

abbrev pub without : Pending → ℕ → Pending
without p editor = λ e. if e == editor then [] else p e

-- byte i of a filled file
abbrev pub filled_byte : ℕ → ℕ → ℕ
filled_byte from i = (from + 7 * i + i / 256) % 256

abbrev pub filled_bytes : ℕ → ℕ → Bytes
filled_bytes size from = map (filled_byte from) (range_with_len 0 size)

-- what is pending below a line, where this is pending above it: a commit line takes its editor's edits, whatever its reply
abbrev pub pending_after : Pending → Act → Pending
pending_after p (lines.Put editor path content) = with_edit p editor (edits.Put path content)
pending_after p (lines.Fill editor path size from) = with_edit p editor (edits.Put path (filled_bytes size from))
pending_after p (lines.Remove editor path) = with_edit p editor (edits.Remove path)
pending_after p (lines.MakeFolder editor path) = with_edit p editor (edits.MakeFolder path)
pending_after p (lines.RemoveFolder editor path) = with_edit p editor (edits.RemoveFolder path)
pending_after p (lines.Commit editor) = without p editor
pending_after p _ = p

-- a settling draw asks for the most that one may, and all its packets arrive
abbrev pub settling_step : Step
settling_step = Draw MOST_DRAWN []

-- the events of a line
abbrev pub events_of_line : Pending → Act → List Step
events_of_line p (lines.Commit editor) = Commit editor (p editor) ∷ []
events_of_line p (lines.Draw asked fates) = Draw asked fates ∷ []
events_of_line p (lines.Open reader path) = Open reader path ∷ []
events_of_line p lines.Settle = settling_step ∷ settling_step ∷ []
events_of_line p _ = []

abbrev pub events_from : Pending → List LineFields → List Step
events_from p [] = []
events_from p (l ∷ ls) = events_of_line p l.act ++ events_from (pending_after p l.act) ls

-- The events of a script, in written order. Edits that no commit line follows are in none.
abbrev pub events_of : Fields → List Step
events_of script = events_from none_pending script.lines

-- ---- what the interpreter of lines says and holds

abbrev pub view_happening : Happening → Step
view_happening (code.Commit editor edits) = Commit editor edits.items
view_happening (code.Draw asked fates) = Draw asked fates.items
view_happening (code.Open reader path) = Open reader path

-- what happens at a line, if something does
abbrev pub happened : Option Happening → List Step
happened (Some what) = view_happening what ∷ []
happened None = []

abbrev pub edits_in : Option (Vec Edit Global) → List Edit
edits_in (Some edits) = edits.items
edits_in None = []

-- of each editor, its edits that wait
abbrev pub Holds : Interpreter → Pending → Type 0
Holds i p = (editor : ℕ) → edits_in (get nat_cmp i.waiting editor) ≡ p editor
