-- The script that `big` plays: as many editors as readers, a feeder, and a last look at every file. It is this project's own.
use Rattle.std.specs.Prelude.{ℕ, ◌+◌, ◌*◌, ◌%◌, List, [], ◌∷◌, ◌++◌, map, replicate, length, codes, flat_map, decimal}
use Rattle.std.specs.List.{range_with_len}
use Rattle.path_tree.specs.Paths.{PathNames}
use Rattle.ts_packet.specs.declared.Fate.{Fate}
use Rattle.ts_packet.specs.declared.Fate.TheVariants.{Keep, Lose}
use Rattle.session_script.specs.declared.script.Stage.{Stage}
use Rattle.session_script.specs.declared.script.Stage.TheVariants.{During, After}
use Rattle.session_script.specs.Scripts.{Act, LineFields, Fields}
use Rattle.session_script.specs.Scripts as acts

-- editors 1 to `size`, and readers 1 to `size`
unfoldable pub numbers : (size : ℕ) → List ℕ
numbers size = range_with_len 1 size

-- file K of editor E is `/eE/fK`
unfoldable pub file_path : (editor file : ℕ) → PathNames
file_path editor file = (codes "e" ++ decimal editor) ∷ (codes "f" ++ decimal file) ∷ []

-- it has 500 to 20,000 bytes
unfoldable pub fill_of : (editor file : ℕ) → Act
fill_of editor file = acts.Fill editor (file_path editor file) (500 * (1 + (editor + file) % 40)) ((editor + file) % 256)

-- an editor makes four commits of eight files each
unfoldable pub commit_of : (editor commit : ℕ) → List Act
commit_of editor commit = map (fill_of editor) (range_with_len (8 * commit) 8) ++ acts.Commit editor ∷ []

unfoldable pub lines_of_editor : (editor : ℕ) → List Act
lines_of_editor editor = flat_map (commit_of editor) (range_with_len 0 4)

-- each fiftieth packet is lost
unfoldable pub fates : List Fate
fates = replicate 49 Keep ++ Lose ∷ []

unfoldable pub lines_of_feeder : List Act
lines_of_feeder = replicate 64 (acts.Draw 256 fates)

-- a reader goes from editor to editor, and from file to file
unfoldable pub open_of : (size reader turn : ℕ) → Act
open_of size reader turn = acts.Open reader (file_path (1 + (reader + turn) % size) (turn % 32))

unfoldable pub lines_of_reader : (size reader : ℕ) → List Act
lines_of_reader size reader = map (open_of size reader) (range_with_len 0 64)

-- at the end reader 1 opens all files of each editor
unfoldable pub finale_of : (editor file : ℕ) → Act
finale_of editor file = acts.Open 1 (file_path editor file)

unfoldable pub finales_of : (editor : ℕ) → List Act
finales_of editor = map (finale_of editor) (range_with_len 0 32)

-- ---- the whole

unfoldable pub acts_during : (size : ℕ) → List Act
acts_during size = (flat_map lines_of_editor (numbers size) ++ lines_of_feeder) ++ flat_map (lines_of_reader size) (numbers size)

unfoldable pub acts_at_end : (size : ℕ) → List Act
acts_at_end size = acts.Settle ∷ flat_map finales_of (numbers size)

-- lines of one stage, counted from this number on
abbrev pub number_lines : (first : ℕ) → Stage → List Act → List LineFields
number_lines first stage [] = []
number_lines first stage (act ∷ rest) = record { number = first; stage = stage; act = act } ∷ number_lines (first + 1) stage rest

unfoldable pub generated_script : (size : ℕ) → Fields
generated_script size = record {
  editors = numbers size;
  readers = numbers size;
  lines = number_lines 1 During (acts_during size) ++ number_lines (length (acts_during size) + 1) After (acts_at_end size);
}
