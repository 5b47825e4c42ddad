-- What private functions and invariants are stated in; no public contract names it.
use Rattle.std.specs.Prelude.{◌≡◌, List, [], ◌∷◌, Option, Some, None, MatchOption, ⊤, Result, Ok, Err, option_map, ℕ, ◌+◌, ◌<◌, ◌++◌, length, map, nat_eq}
use Rattle.path_tree.specs.Paths.{Bytes}
use Rattle.session_script.specs.declared.words.Words.{Words}
use Rattle.session_script.specs.declared.words.LineFault.{LineFault}
use Rattle.session_script.specs.declared.words.LineFault.TheVariants as faults
use Rattle.session_script.specs.declared.line.Part.{Part}
use Rattle.session_script.specs.declared.line.Part.TheVariants.{Opening, Running, Closing}
use Rattle.session_script.specs.declared.line.Said.{Said}
use Rattle.session_script.specs.declared.line.Said.TheVariants as code
use Rattle.session_script.specs.declared.script.LineCause.{LineCause}
use Rattle.session_script.specs.Scripts.{Open, Settle, act_of, Act, LineFields, Fields, editor_of, reader_of, lines_of}
use Rattle.session_script.specs.Ranges.{IsInRange, IsInRanges, AreListed}
use Rattle.session_script.specs.Grammar.{Saying, Passed, Starts, Does, Ends, words_in, part_of, line_by, script_of}
use Rattle.oc_bytes.specs.Outcome.{cap_at_u32}
use Rattle.indexmap.specs.IndexSet.{insert_key}
use Rattle.session_script.specs.declared.reading.Reading.{Reading}
use Rattle.session_script.specs.declared.script.TaskLine.{TaskLine}
use Rattle.session_script.specs.declared.script.Finale.{Finale}
use Rattle.session_script.specs.declared.script.ScriptFault.{ScriptFault}
use Rattle.session_script.specs.declared.script.ScriptFault.TheVariants.{BadLine, NoMemory}
use Rattle.session_script.specs.declared.script.Stage.{Stage}
use Rattle.session_script.specs.declared.script.Stage.TheVariants.{Before, During, After}

abbrev pub words_of_rest : Option Bytes → List Bytes
words_of_rest None = []
words_of_rest (Some rest) = words_in rest

-- the words that weren't taken yet
abbrev pub words_left : Words → List Bytes
words_left words = words_of_rest (option_map (λ r. r.now) words.rest)

abbrev pub line_cause : LineFault → Option LineCause
line_cause (faults.Bad c) = Some c
line_cause faults.NoMemory = None

-- the call took from the front of the words as the definition does, or was refused for its cause; or there was no memory
abbrev pub Takes : {X Y : Type 0} → (X → Y) → Result X LineFault → List Bytes → Result (Y × List Bytes) LineCause → Type 0
Takes view (Ok x) rest meaning = meaning ≡ Ok (view x, rest)
Takes view (Err e) rest meaning = MatchOption (line_cause e) ⊤ (λ c. meaning ≡ Err c)

abbrev pub view_said : Said → Saying
view_said code.Passed = Passed
view_said code.Starts = Starts
view_said (code.Does task) = Does (act_of task)
view_said code.Settles = Ends Settle
view_said (code.Finale reader path) = Ends (Open reader path)

-- what a line may say in this part: it starts in the opening one alone, and in the closing one it neither settles nor has a task
abbrev pub Suits : Part → Saying → Type 0
Suits part Passed = Unit {0}
Suits part Starts = part ≡ Opening
Suits part (Does act) = part ≡ Closing → ⊥
Suits part (Ends Settle) = part ≡ Closing → ⊥
Suits part (Ends act) = Unit {0}

abbrev pub SaysInRange : Saying → Type 0
SaysInRange Passed = Unit {0}
SaysInRange Starts = Unit {0}
SaysInRange (Does act) = IsInRange act
SaysInRange (Ends act) = IsInRange act

-- ---- a reading

-- the script of what was read
abbrev pub script_read : Reading → Fields
script_read r = record { editors = r.editors.keys; readers = r.readers.keys; lines = lines_of r.before.items r.during.items r.settle r.finales.items }

-- somebody is named, or something is done
abbrev pub SaysSomething : Fields → Type 0
SaysSomething script = 0 < length script.editors + (length script.readers + length script.lines)

-- no task stands above `start` before that comes, and nothing at the end before the closing part
pub record HasShape (part : Part) (before : List TaskLine) (settle : Option ℕ) (finales : List Finale) : Type 0 where
  pub before_start : part ≡ Opening → before ≡ []
  pub no_settle : (part ≡ Closing → ⊥) → settle ≡ None
  pub no_finales : (part ≡ Closing → ⊥) → finales ≡ []

abbrev pub IsShaped : Reading → Type 0
IsShaped r = HasShape r.part r.before.items r.settle r.finales.items

pub record StandsFor (r : Reading) (above : List Saying) : Type 0 where
  pub number : r.number ≡ cap_at_u32 (length above)
  pub part : r.part ≡ part_of above
  pub script : script_read r ≡ script_of above
  pub ranges : IsInRanges (script_of above)
  pub listed : AreListed (script_of above)
  pub shape : IsShaped r

-- the part below a line
abbrev pub part_after : Part → Saying → Part
part_after part Passed = part
part_after Opening Starts = Running
part_after part Starts = part
part_after part (Does act) = part
part_after part (Ends act) = Closing

-- an actor goes last, unless it is there
abbrev pub with_actor : List ℕ → Option ℕ → List ℕ
with_actor actors (Some n) = insert_key nat_eq actors n
with_actor actors None = actors

abbrev pub as_before : LineFields → LineFields
as_before line = record line { stage = Before }

abbrev pub with_line : ℕ → Stage → Act → Fields → Fields
with_line number stage act script = record {
  editors = with_actor script.editors (editor_of act);
  readers = with_actor script.readers (reader_of act);
  lines = script.lines ++ record { number = number; stage = stage; act = act } ∷ [];
}

-- the script with one line more, of this number
abbrev pub script_after : ℕ → Saying → Fields → Fields
script_after number Passed script = script
script_after number Starts script = record script { lines = map as_before script.lines }
script_after number (Does act) script = with_line number During act script
script_after number (Ends act) script = with_line number After act script

-- what the line says whose number stands was added
pub record Adds (old new : Reading) (saying : Saying) : Type 0 where
  pub number : new.number ≡ old.number
  pub part : new.part ≡ part_after old.part saying
  pub script : script_read new ≡ script_after old.number saying (script_read old)
  pub shape : IsShaped new

-- One line more was read, and its saying follows the others; or the line doesn't fit below them, and its number and its cause
-- are those of the answer; or there was no memory.
abbrev pub Reads : {X : Type 0} → Result X ScriptFault → List Saying → Bytes → Reading → Type 0
Reads (Ok _) above line new =
    (saying : Saying) × (line_by (part_of above) line ≡ Ok saying) × Suits (part_of above) saying × StandsFor new (above ++ saying ∷ [])
Reads (Err (BadLine number fault)) above line new = (number ≡ cap_at_u32 (length above + 1)) × (line_by (part_of above) line ≡ Err fault)
Reads (Err NoMemory) above line new = Unit {0}
