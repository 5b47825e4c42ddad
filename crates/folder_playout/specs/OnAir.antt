-- A carousel that is sent in whole cycles, while the tree that is read before each of them may become its next generation.
use Rattle.std.specs.Prelude.{ℕ, Bool, true, false, ◌&&◌, List, [], ◌∷◌, ◌++◌, map, if◌then◌else◌}
use Rattle.std.specs.List.{concat, fold}
use Rattle.path_tree.specs.Paths.{Bytes, PathNames, same_name, same_path}
use Rattle.path_tree.specs.Trees.{Tree}
use Rattle.path_tree.specs.declared.entry.Entry.{Entry}
use Rattle.path_tree.specs.declared.entry.Entry.TheVariants as entries
use Rattle.cycle_planner.specs.Cycle.{cycle_of}
use Rattle.generation.specs.Layouts.{GenerationState, first_of, next_of, lines_of, section_of}
use Rattle.section_stream.specs.Packing.{idle}
use Rattle.section_stream.specs.Groups.{packets_of_groups}
use Rattle.folder_playout.specs.Readings.{Reading, Found, Refused, Failed}

-- both are files of the same bytes, or both kept folders
abbrev pub same_node : Entry → Entry → Bool
same_node (entries.File b) (entries.File c) = same_name b c
same_node (entries.File b) entries.Folder = false
same_node entries.Folder (entries.File c) = false
same_node entries.Folder entries.Folder = true

abbrev pub same_entry : PathNames × Entry → PathNames × Entry → Bool
same_entry e f = same_path e.0 f.0 && same_node e.1 f.1

-- the same files and kept folders at the same paths
abbrev pub same_tree : Tree → Tree → Bool
same_tree [] [] = true
same_tree [] (f ∷ fs) = false
same_tree (e ∷ es) [] = false
same_tree (e ∷ es) (f ∷ fs) = same_entry e f && same_tree es fs

-- The generation that is on the air, the trees of all generations so far, the sections of each generation that was, and those of this one
-- so far.
pub record OnAir : Type 0 where
  pub trees : List Tree
  pub generation : GenerationState
  pub ended : List (List Bytes)
  pub running : List Bytes

-- generation 1, of which nothing is sent yet
abbrev pub begun : ℕ → Tree → OnAir
begun carousel tree = record { trees = tree ∷ []; generation = next_of (first_of carousel) tree; ended = []; running = [] }

-- the sections of one cycle of a generation
abbrev pub cycle_in : List ℕ → GenerationState → List Bytes
cycle_in weights g = map (section_of g) (cycle_of weights (lines_of g))

-- one cycle more
abbrev pub with_cycle : List ℕ → OnAir → OnAir
with_cycle weights s = record s { running = s.running ++ cycle_in weights s.generation }

-- the tree is the next generation's
abbrev pub with_tree : Tree → OnAir → OnAir
with_tree tree s = record { trees = s.trees ++ tree ∷ []; generation = next_of s.generation tree; ended = s.ended ++ s.running ∷ []; running = [] }

-- Only another tree than that of the generation on the air makes a generation. One that is refused, or can't be read, leaves it there.
abbrev pub taken : OnAir → Reading → OnAir
taken s (Found tree) = if same_tree tree s.generation.tree then s else with_tree tree s
taken s (Refused fault path) = s
taken s (Failed path) = s

-- a reading, and then a cycle
abbrev pub turn : List ℕ → OnAir → Reading → OnAir
turn weights s reading = with_cycle weights (taken s reading)

-- the first tree and its first cycle, and then a turn for each further reading
abbrev pub on_air : (carousel : ℕ) (weights : List ℕ) → Tree → List Reading → OnAir
on_air carousel weights tree readings = fold (turn weights) (with_cycle weights (begun carousel tree)) readings

-- the sections of each generation, which are a group of their own
abbrev pub groups_of : OnAir → List (List Bytes)
groups_of s = s.ended ++ s.running ∷ []

-- all packets of it on a PID, with continuity counters from 0
abbrev pub air_bytes : (pid : ℕ) → OnAir → Bytes
air_bytes pid s = concat (packets_of_groups (idle pid 0) (groups_of s))
