-- A history of commits and draws: each entry is what the rules give after those before it. The limits are this project's own
-- rules.
use Rattle.std.specs.Prelude.{◌≡◌, ℕ, ◌+◌, ◌-◌, ◌%◌, ◌≤◌, min, drop, Bool, true, false, List, [], ◌∷◌, ◌++◌, length, take, Option, Some, None, Result, Ok, Err, slice_get, nat_lt, ◌==◌, if◌then◌else◌}
use Rattle.std.specs.Option.{unwrap_or}
use Rattle.std.specs.List.{All, last_or, sum_by, count_by}
use Rattle.oc_bytes.specs.Outcome.{cap_at_u64}
use Rattle.path_tree.specs.Trees.{Tree}
use Rattle.path_tree.specs.Edits.{apply_all}
use Rattle.path_tree.specs.declared.tree.Edit.{Edit}
use Rattle.path_tree.specs.declared.tree.Edit.TheVariants.{Put, Remove, MakeFolder, RemoveFolder}
use Rattle.path_tree.specs.declared.tree.EditFault.{EditFault}
use Rattle.generation.specs.Publication as limits
use Rattle.cycle_planner.specs.Cycle.{cycle_of}
use Rattle.cycle_planner.specs.Weights.{AreWeights}
use Rattle.cycle_planner.specs.declared.Item.{Item}
use Rattle.generation.specs.Lawful.{ArePublishable}
use Rattle.generation.specs.Layouts.{GenerationState, generation_of, lines_of}
use Rattle.generation_catalogue.specs.declared.entry.Refusal.{Refusal}
use Rattle.generation_catalogue.specs.declared.entry.Refusal.TheVariants as refusals
use Rattle.generation_catalogue.specs.declared.entry.Entry.{Entry}
use Rattle.generation_catalogue.specs.declared.entry.Entry.TheVariants as entries
use Rattle.dsi_dii.specs.declared.TheConstants.{LAST_GENERATION}
use Rattle.cycle_planner.specs.declared.TheConstants.{MOST_DRAWN}
use Rattle.generation_catalogue.specs.declared.journal.TheConstants.{MOST_PUT_BYTES, MOST_DRAWS}

-- a catalogue is its carousel, the weights of its modules and its entries; all else follows from them
pub record CatalogueState : Type 0 where
  pub carousel : ℕ
  pub weights : List ℕ
  pub entries : List Entry

-- the bytes that an edit puts
abbrev pub put_size : Edit → ℕ
put_size (Put p b) = length b
put_size (Remove p) = 0
put_size (MakeFolder p) = 0
put_size (RemoveFolder p) = 0

abbrev pub put_bytes : List Edit → ℕ
put_bytes edits = sum_by put_size edits

abbrev pub put_bytes_of : Entry → ℕ
put_bytes_of (entries.Commit editor edits outcome) = put_bytes edits
put_bytes_of (entries.Draw asked generation first count) = 0

abbrev pub or_same : Tree → Result Tree (ℕ × EditFault) → Tree
or_same t (Ok new) = new
or_same t (Err fault) = t

-- the tree of the last accepted commit, and the empty one before the first
abbrev pub last_tree : List Tree → Tree
last_tree trees = unwrap_or (last_or None trees) []

-- the trees with that of an accepted commit after them
abbrev pub with_tree : List Tree → List Edit → List Tree
with_tree trees edits = trees ++ or_same (last_tree trees) (apply_all (last_tree trees) edits) ∷ []

-- the trees of the accepted commits, the first of them first
abbrev pub trees_after : List Tree → List Entry → List Tree
trees_after trees [] = trees
trees_after trees (entries.Commit editor edits (Ok number) ∷ es) = trees_after (with_tree trees edits) es
trees_after trees (entries.Commit editor edits (Err refusal) ∷ es) = trees_after trees es
trees_after trees (entries.Draw asked generation first count ∷ es) = trees_after trees es

abbrev pub trees_of : CatalogueState → List Tree
trees_of c = trees_after [] c.entries

abbrev pub current_of : CatalogueState → GenerationState
current_of c = generation_of c.carousel (trees_of c)

-- the bytes that the entries put, of refused commits too
abbrev pub journal_of : CatalogueState → ℕ
journal_of c = sum_by put_bytes_of c.entries

-- ---- draws

abbrev pub is_draw : Entry → Bool
is_draw (entries.Draw asked generation first count) = true
is_draw (entries.Commit editor edits outcome) = false

abbrev pub draws_of : CatalogueState → ℕ
draws_of c = count_by is_draw c.entries

-- the items drawn since the last accepted commit
abbrev pub drawn_since : ℕ → List Entry → ℕ
drawn_since n [] = n
drawn_since n (entries.Commit editor edits (Ok number) ∷ es) = drawn_since 0 es
drawn_since n (entries.Commit editor edits (Err refusal) ∷ es) = drawn_since n es
drawn_since n (entries.Draw asked generation first count ∷ es) = drawn_since (n + count) es

-- the cycle of the current generation
abbrev pub cycle_in : CatalogueState → List Item
cycle_in c = cycle_of c.weights (lines_of (current_of c))

-- the place in the cycle at which the next draw begins
abbrev pub cursor_of : CatalogueState → ℕ
cursor_of c = drawn_since 0 c.entries % length (cycle_in c)

-- so many items, or as many as are left in the cycle
abbrev pub count_drawn : CatalogueState → ℕ → ℕ
count_drawn c asked = min asked (length (cycle_in c) - cursor_of c)

abbrev pub items_drawn : CatalogueState → ℕ → List Item
items_drawn c asked = take (count_drawn c asked) (drop (cursor_of c) (cycle_in c))

abbrev pub refusal_of : limits.Passed → Refusal
refusal_of (limits.Objects n) = refusals.TooManyObjects n
refusal_of (limits.Folder p) = refusals.FolderTooLarge p
refusal_of (limits.Total n) = refusals.TooManyBytes n
refusal_of (limits.Modules n) = refusals.TooManyModules n

abbrev pub unless_limit : ℕ → Option limits.Passed → Result ℕ Refusal
unless_limit number (Some p) = Err (refusal_of p)
unless_limit number None = Ok number

abbrev pub unless_edit : ℕ → Result Tree (ℕ × EditFault) → Result ℕ Refusal
unless_edit number (Err fault) = Err (refusals.Edit fault.0 fault.1)
unless_edit number (Ok t) = unless_limit number (limits.limit_of t)

-- what a commit answers: the first refusal that holds, or the new generation's number
abbrev pub outcome_of : CatalogueState → List Edit → Result ℕ Refusal
outcome_of c edits =
    if (current_of c).number == LAST_GENERATION then Err (refusals.SeasonFull LAST_GENERATION)
    else (if nat_lt MOST_PUT_BYTES (journal_of c + put_bytes edits) then Err (refusals.JournalFull (cap_at_u64 (journal_of c + put_bytes edits)))
    else unless_edit ((current_of c).number + 1) (apply_all (last_tree (trees_of c)) edits))

-- whether an outcome makes an entry: that a season or a journal is full makes none
abbrev pub is_entered : Result ℕ Refusal → Bool
is_entered (Err (refusals.SeasonFull n)) = false
is_entered (Err (refusals.JournalFull n)) = false
is_entered _ = true

abbrev pub with_entry : CatalogueState → Entry → CatalogueState
with_entry c e = record c { entries = c.entries ++ e ∷ [] }

-- the catalogue after a commit
abbrev pub with_commit : CatalogueState → ℕ → List Edit → CatalogueState
with_commit c editor edits =
    if is_entered (outcome_of c edits) then with_entry c (entries.Commit editor edits (outcome_of c edits)) else c

-- the catalogue after a draw
abbrev pub with_draw : CatalogueState → ℕ → CatalogueState
with_draw c asked = with_entry c (entries.Draw asked (current_of c).number (cursor_of c) (count_drawn c asked))

-- the entry that the rules give after these entries, for the same request
abbrev pub entry_after : CatalogueState → Entry → Entry
entry_after c (entries.Commit editor edits outcome) = entries.Commit editor edits (outcome_of c edits)
entry_after c (entries.Draw asked generation first count) = entries.Draw asked (current_of c).number (cursor_of c) (count_drawn c asked)

abbrev pub IsEntered : Entry → Type 0
IsEntered (entries.Commit editor edits outcome) = is_entered outcome ≡ true
IsEntered (entries.Draw asked generation first count) = (1 ≤ asked) × (asked ≤ MOST_DRAWN)

-- the weights are in their range, each entry is what the rules give after those before it, no entry is of an outcome that makes
-- none, there are at most so many draws, and the tree of each accepted commit is one of bytes that passes the limits
pub record IsHistory (c : CatalogueState) : Type 0 where
  pub weights : AreWeights c.weights
  pub entered : All IsEntered c.entries
  pub each : (k : ℕ) (e : Entry) → slice_get c.entries k ≡ Some e → e ≡ entry_after (record c { entries = take k c.entries }) e
  pub draws : draws_of c ≤ MOST_DRAWS
  pub published : ArePublishable c.carousel (trees_of c)
