-- Histories whose commits have puts and removals alone, and what came next, by the trees and the limits of before a folder could
-- be kept. What doesn't speak of trees is as it was, and is cited.
use Rattle.std.specs.Prelude.{ℕ, ◌+◌, ◌-◌, ◌%◌, min, drop, List, [], ◌∷◌, ◌++◌, length, take, map, None, Result, Ok, Err, nat_lt, nat_le, ◌==◌, if◌then◌else◌}
use Rattle.std.specs.Option.{unwrap_or}
use Rattle.std.specs.List.{last_or, sum_by}
use Rattle.oc_bytes.specs.Outcome.{cap_at_u64}
use Rattle.path_tree.specs.Files.{FileTree, FileEdit, Put, Remove, apply_all, as_edit}
use Rattle.path_tree.specs.declared.tree.EditFault.{EditFault}
use Rattle.cycle_planner.specs.Cycle.{cycle_of}
use Rattle.cycle_planner.specs.declared.Item.{Item}
use Rattle.generation.specs.Layouts.{lines_in}
use Rattle.generation_catalogue.specs.History.{CatalogueState, draws_of, drawn_since, is_entered, unless_limit}
use Rattle.generation_catalogue.specs.declared.entry.Refusal.{Refusal}
use Rattle.generation_catalogue.specs.declared.entry.Refusal.TheVariants as refusals
use Rattle.generation_catalogue.specs.declared.entry.Entry.{Entry}
use Rattle.generation_catalogue.specs.declared.entry.Entry.TheVariants as entries
use Rattle.dsi_dii.specs.declared.TheConstants.{LAST_GENERATION}
use Rattle.generation_catalogue.specs.declared.journal.TheConstants.{MOST_PUT_BYTES, MOST_DRAWS}
use Rattle.files_alone.specs.Objects.{limit_of}
use Rattle.files_alone.specs.Generations.{GenerationState, generation_of}

pub data FileEntry : Type 0 where
  Commit : (editor : ℕ) → List FileEdit → Result ℕ Refusal → FileEntry
  Draw : (asked generation first count : ℕ) → FileEntry

-- a catalogue is its carousel, the weights of its modules and its entries; all else follows from them
pub record FileCatalogue : Type 0 where
  pub carousel : ℕ
  pub weights : List ℕ
  pub entries : List FileEntry

-- ---- the same history, as a catalogue of today has it

abbrev pub as_entry : FileEntry → Entry
as_entry (Commit editor edits outcome) = entries.Commit editor (map as_edit edits) outcome
as_entry (Draw asked generation first count) = entries.Draw asked generation first count

abbrev pub as_catalogue : FileCatalogue → CatalogueState
as_catalogue c = record { carousel = c.carousel; weights = c.weights; entries = map as_entry c.entries }

-- ---- its trees

abbrev pub or_same : FileTree → Result FileTree (ℕ × EditFault) → FileTree
or_same t (Ok new) = new
or_same t (Err fault) = t

abbrev pub last_tree : List FileTree → FileTree
last_tree trees = unwrap_or (last_or None trees) []

abbrev pub with_tree : List FileTree → List FileEdit → List FileTree
with_tree trees edits = trees ++ or_same (last_tree trees) (apply_all (last_tree trees) edits) ∷ []

abbrev pub trees_after : List FileTree → List FileEntry → List FileTree
trees_after trees [] = trees
trees_after trees (Commit editor edits (Ok number) ∷ es) = trees_after (with_tree trees edits) es
trees_after trees (Commit editor edits (Err refusal) ∷ es) = trees_after trees es
trees_after trees (Draw asked generation first count ∷ es) = trees_after trees es

abbrev pub trees_of : FileCatalogue → List FileTree
trees_of c = trees_after [] c.entries

abbrev pub current_of : FileCatalogue → GenerationState
current_of c = generation_of c.carousel (trees_of c)

-- ---- what the next commit answers

abbrev pub put_size : FileEdit → ℕ
put_size (Put p b) = length b
put_size (Remove p) = 0

abbrev pub put_bytes : List FileEdit → ℕ
put_bytes edits = sum_by put_size edits

abbrev pub put_bytes_of : FileEntry → ℕ
put_bytes_of (Commit editor edits outcome) = put_bytes edits
put_bytes_of (Draw asked generation first count) = 0

abbrev pub journal_of : FileCatalogue → ℕ
journal_of c = sum_by put_bytes_of c.entries

abbrev pub unless_edit : ℕ → Result FileTree (ℕ × EditFault) → Result ℕ Refusal
unless_edit number (Err fault) = Err (refusals.Edit fault.0 fault.1)
unless_edit number (Ok t) = unless_limit number (limit_of t)

abbrev pub outcome_of : FileCatalogue → List FileEdit → Result ℕ Refusal
outcome_of c edits =
    if (current_of c).number == LAST_GENERATION then Err (refusals.SeasonFull LAST_GENERATION)
    else (if nat_lt MOST_PUT_BYTES (journal_of c + put_bytes edits) then Err (refusals.JournalFull (cap_at_u64 (journal_of c + put_bytes edits)))
    else unless_edit ((current_of c).number + 1) (apply_all (last_tree (trees_of c)) edits))

-- ---- what the next draw gives

abbrev pub cycle_in : FileCatalogue → List Item
cycle_in c = cycle_of c.weights (lines_in (current_of c).layout)

abbrev pub cursor_of : FileCatalogue → ℕ
cursor_of c = drawn_since 0 (map as_entry c.entries) % length (cycle_in c)

abbrev pub count_drawn : FileCatalogue → ℕ → ℕ
count_drawn c asked = min asked (length (cycle_in c) - cursor_of c)

abbrev pub items_drawn : FileCatalogue → ℕ → List Item
items_drawn c asked = take (count_drawn c asked) (drop (cursor_of c) (cycle_in c))

pub record FileBatch : Type 0 where
  pub generation : GenerationState
  pub first : ℕ
  pub items : List Item

-- the items from the cursor on, of the current generation, unless so many draws are entered already
abbrev pub batch_of : FileCatalogue → ℕ → Result FileBatch ℕ
batch_of c asked =
    if nat_le MOST_DRAWS (draws_of (as_catalogue c)) then Err MOST_DRAWS
    else Ok (record { generation = current_of c; first = cursor_of c; items = items_drawn c asked })

-- ---- the catalogue after them

abbrev pub with_entry : FileCatalogue → FileEntry → FileCatalogue
with_entry c e = record c { entries = c.entries ++ e ∷ [] }

-- that a season or a journal is full makes no entry
abbrev pub with_commit : FileCatalogue → ℕ → List FileEdit → FileCatalogue
with_commit c editor edits =
    if is_entered (outcome_of c edits) then with_entry c (Commit editor edits (outcome_of c edits)) else c

-- nor that there are too many draws
abbrev pub with_draw : FileCatalogue → ℕ → FileCatalogue
with_draw c asked =
    if nat_le MOST_DRAWS (draws_of (as_catalogue c)) then c
    else with_entry c (Draw asked (current_of c).number (cursor_of c) (count_drawn c asked))
