-- Scripts without where their lists lie in memory, a script in its parts and the script that they make, and the texts of causes.
use Rattle.std.specs.Prelude.{◌≡◌, ℕ, List, [], ◌∷◌, ◌++◌, map, Option, Some, None, codes}
use Rattle.std.specs.declared.vec.Vec.{Vec}
use Rattle.path_tree.specs.Paths.{Bytes, PathNames}
use Rattle.ts_packet.specs.declared.Fate.{Fate}
use Rattle.session_script.specs.declared.script.Stage.{Stage}
use Rattle.session_script.specs.declared.script.Stage.TheVariants.{Before, During, After}
use Rattle.session_script.specs.declared.script.LineCause.{LineCause}
use Rattle.session_script.specs.declared.script.LineCause.TheVariants.{Unknown, Order, BadNumber, BadPath, BadHex, BadFate, Missing, Extra}
use Rattle.session_script.specs.declared.script.Action.{Action}
use Rattle.session_script.specs.declared.script.Action.TheVariants as code
use Rattle.session_script.specs.declared.script.Line.{Line}
use Rattle.session_script.specs.declared.script.Script.{Script}
use Rattle.session_script.specs.declared.script.Task.{Task}
use Rattle.session_script.specs.declared.script.Task.TheVariants as tasks
use Rattle.session_script.specs.declared.script.TaskLine.{TaskLine}
use Rattle.session_script.specs.declared.script.Finale.{Finale}
use Rattle.session_script.specs.declared.script.Parts.{Parts}
use Rattle.session_script.specs.declared.script.ScriptFault.{ScriptFault}
use Rattle.session_script.specs.declared.script.ScriptFault.TheVariants as faults

pub data Act : Type 0 where
  Put : (editor : ℕ) → PathNames → Bytes → Act
  Fill : (editor : ℕ) → PathNames → (size from : ℕ) → Act
  Remove : (editor : ℕ) → PathNames → Act
  MakeFolder : (editor : ℕ) → PathNames → Act
  RemoveFolder : (editor : ℕ) → PathNames → Act
  Commit : (editor : ℕ) → Act
  Draw : (asked : ℕ) → List Fate → Act
  Open : (reader : ℕ) → PathNames → Act
  Settle : Act

pub record LineFields : Type 0 where
  pub number : ℕ
  pub stage : Stage
  pub act : Act

pub record Fields : Type 0 where
  pub editors : List ℕ
  pub readers : List ℕ
  pub lines : List LineFields

-- the editor whose act it is, where it is one's
abbrev pub editor_of : Act → Option ℕ
editor_of (Put editor path content) = Some editor
editor_of (Fill editor path size from) = Some editor
editor_of (Remove editor path) = Some editor
editor_of (MakeFolder editor path) = Some editor
editor_of (RemoveFolder editor path) = Some editor
editor_of (Commit editor) = Some editor
editor_of _ = None

-- the reader whose act it is, where it is one's
abbrev pub reader_of : Act → Option ℕ
reader_of (Open reader path) = Some reader
reader_of _ = None

abbrev pub view_action : Action → Act
view_action (code.Put editor path content) = Put editor path content
view_action (code.Fill editor path size from) = Fill editor path size from
view_action (code.Remove editor path) = Remove editor path
view_action (code.MakeFolder editor path) = MakeFolder editor path
view_action (code.RemoveFolder editor path) = RemoveFolder editor path
view_action (code.Commit editor) = Commit editor
view_action (code.Draw asked fates) = Draw asked fates.items
view_action (code.Open reader path) = Open reader path
view_action code.Settle = Settle

abbrev pub view_line : Line → LineFields
view_line l = record { number = l.number; stage = l.stage; act = view_action l.action }

abbrev pub view : Script → Fields
view s = record { editors = s.editors.items; readers = s.readers.items; lines = map view_line s.lines.items }

abbrev pub cause_text : LineCause → Bytes
cause_text Unknown = codes "unknown word"
cause_text Order = codes "out of order"
cause_text BadNumber = codes "bad number"
cause_text BadPath = codes "bad path"
cause_text BadHex = codes "bad hex"
cause_text BadFate = codes "bad fate"
cause_text Missing = codes "word missing"
cause_text Extra = codes "extra word"

-- the line's number and its cause, or None where there was no memory
abbrev pub cause : ScriptFault → Option (ℕ × LineCause)
cause (faults.BadLine n c) = Some (n, c)
cause faults.NoMemory = None

-- ---- a script in its parts

-- what a line with this task does: it never settles
abbrev pub act_of : Task → Act
act_of (tasks.Put editor path content) = Put editor path content
act_of (tasks.Fill editor path size from) = Fill editor path size from
act_of (tasks.Remove editor path) = Remove editor path
act_of (tasks.MakeFolder editor path) = MakeFolder editor path
act_of (tasks.RemoveFolder editor path) = RemoveFolder editor path
act_of (tasks.Commit editor) = Commit editor
act_of (tasks.Draw asked fates) = Draw asked fates.items
act_of (tasks.Open reader path) = Open reader path

-- these acts stand behind those of the tasks before
abbrev pub AddsActs : {Z : Type 0} → Vec Task Z → Vec Task Z → List Act → Type 0
AddsActs old new acts = map act_of new.items ≡ map act_of old.items ++ acts

abbrev pub task_line : Stage → TaskLine → LineFields
task_line stage line = record { number = line.number; stage = stage; act = act_of line.task }

abbrev pub settle_lines : Option ℕ → List LineFields
settle_lines (Some number) = record { number = number; stage = After; act = Settle } ∷ []
settle_lines None = []

abbrev pub finale_line : Finale → LineFields
finale_line last = record { number = last.number; stage = After; act = Open last.reader last.path }

-- the lines of these parts, in written order
abbrev pub lines_of : (before during : List TaskLine) → Option ℕ → List Finale → List LineFields
lines_of before during settle finales =
    map (task_line Before) before ++ (map (task_line During) during ++ (settle_lines settle ++ map finale_line finales))

abbrev pub script_of_parts : Parts → Fields
script_of_parts p = record {
  editors = p.editors.items;
  readers = p.readers.items;
  lines = lines_of p.before.items p.during.items p.settle p.finales.items;
}
