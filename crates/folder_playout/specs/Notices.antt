-- In what a generation differs from the one before, and what is told of readings.
use Rattle.std.specs.Prelude.{ℕ, ◌+◌, Bool, not, true, false, ◌&&◌, ◌==◌, List, [], ◌∷◌, ◌++◌, length, map, Option, Some, None, Err, if◌then◌else◌}
use Rattle.std.specs.List.{sum_by}
use Rattle.std.specs.Option.{is_none, unwrap_or}
use Rattle.oc_bytes.specs.Outcome.{cap_at_u64}
use Rattle.path_tree.specs.Paths.{Bytes, PathNames, same_name}
use Rattle.path_tree.specs.Trees.{Tree, content_at, is_a_file}
use Rattle.path_tree.specs.declared.entry.Entry.{Entry}
use Rattle.path_tree.specs.declared.entry.Entry.TheVariants as entries
use Rattle.biop_object.specs.Names.{module_in}
use Rattle.cycle_planner.specs.Cycle.{Line}
use Rattle.generation.specs.Layouts.{GenerationState, count_in, first_of, lines_of, next_of}
use Rattle.folder_playout.specs.OnAir.{OnAir, begun, same_tree, turn, with_cycle}
use Rattle.folder_playout.specs.Readings.{Reading, Found, Refused, Failed, reading_in}
use Rattle.folder_playout.specs.declared.notices.Difference.{Difference}
use Rattle.folder_playout.specs.declared.reading.Unread.{Unread}

-- ---- two generations

abbrev pub one_if : Bool → ℕ
one_if true = 1
one_if false = 0

-- the entry is a file, and none of these bytes was found at its path
abbrev pub is_other : Entry → Option Bytes → Bool
is_other (entries.File b) (Some bytes) = not (same_name bytes b)
is_other (entries.File b) None = true
is_other entries.Folder found = false

-- the entry is a file, and none was found at its path
abbrev pub is_gone : Entry → Option Bytes → Bool
is_gone e found = is_a_file e && is_none found

abbrev pub one_if_other : Tree → PathNames × Entry → ℕ
one_if_other t e = one_if (is_other e.1 (content_at t e.0))

abbrev pub one_if_gone : Tree → PathNames × Entry → ℕ
one_if_gone t e = one_if (is_gone e.1 (content_at t e.0))

-- the files that are new or have other bytes, and those that are gone
abbrev pub files_changed : Tree → Tree → ℕ
files_changed before now = sum_by (one_if_other before) now + sum_by (one_if_gone now) before

-- a module has another version than in the generation before, or wasn't there
abbrev pub is_changed : GenerationState → GenerationState → ℕ → Bool
is_changed before now m = not (count_in now.counts m == count_in before.counts m)

abbrev pub one_if_changed : GenerationState → GenerationState → Line → ℕ
one_if_changed before now line = one_if (is_changed before now line.0)

-- the bytes that are fetched again of a module
abbrev pub bytes_if_changed : GenerationState → GenerationState → Line → ℕ
bytes_if_changed before now line = if is_changed before now line.0 then length (unwrap_or (module_in now.layout line.0) []) else 0

abbrev pub modules_changed : GenerationState → GenerationState → ℕ
modules_changed before now = sum_by (one_if_changed before now) (lines_of now)

abbrev pub bytes_changed : GenerationState → GenerationState → ℕ
bytes_changed before now = sum_by (bytes_if_changed before now) (lines_of now)

abbrev pub difference_of : GenerationState → GenerationState → Difference
difference_of before now = record {
  files = cap_at_u64 (files_changed before.tree now.tree);
  modules = cap_at_u64 (modules_changed before now);
  bytes = cap_at_u64 (bytes_changed before now);
}

-- ---- what is told

-- A generation of this number goes on the air with this cycle, or it stays there for this cycle, since this was read.
pub data Notice : Type 0 where
  Began : ℕ → ℕ → Difference → Notice
  Kept : ℕ → ℕ → Reading → Notice

-- nothing is told of want of memory, which ends the run
abbrev pub kept_notices : ℕ → ℕ → Unread → List Notice
kept_notices number cycle cause = map (Kept number cycle) (reading_in (Err cause))

abbrev pub began_notice : GenerationState → GenerationState → ℕ → Notice
began_notice before now cycle = Began now.number cycle (difference_of before now)

-- of a reading before the cycle of this number: one notice of each other tree, and one of each reading that gave none
abbrev pub told_of : OnAir → ℕ → Reading → List Notice
told_of s cycle (Found tree) = if same_tree tree s.generation.tree then [] else began_notice s.generation (next_of s.generation tree) cycle ∷ []
told_of s cycle (Refused fault path) = Kept s.generation.number cycle (Refused fault path) ∷ []
told_of s cycle (Failed path) = Kept s.generation.number cycle (Failed path) ∷ []

abbrev pub told_from : List ℕ → OnAir → ℕ → List Reading → List Notice
told_from weights s cycle [] = []
told_from weights s cycle (r ∷ rs) = told_of s cycle r ++ told_from weights (turn weights s r) (cycle + 1) rs

-- of the first tree, with whose generation cycle 1 is sent, and of each further reading
abbrev pub all_told : (carousel : ℕ) (weights : List ℕ) → Tree → List Reading → List Notice
all_told carousel weights tree readings =
    began_notice (first_of carousel) (next_of (first_of carousel) tree) 1 ∷ told_from weights (with_cycle weights (begun carousel tree)) 2 readings
