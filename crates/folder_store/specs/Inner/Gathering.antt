-- A walk on its way: what is gathered, and what is still to be met.
use Rattle.std.specs.Prelude.{◌≡◌, ℕ, zero, suc, List, [], ◌∷◌, ◌++◌, map, Option, Some, None, Result, Err, ⊤, true, MatchResult, MatchOption}
use Rattle.std.specs.List.{All}
use Rattle.std.specs.Option.{option_map}
use Rattle.path_tree.specs.Paths.{Bytes, PathNames}
use Rattle.path_tree.specs.declared.tree.Edit.{Edit}
use Rattle.folder_store.specs.declared.folders.EntryKind.{EntryKind}
use Rattle.folder_store.specs.declared.reading.ReadTree.{ReadTree}
use Rattle.folder_store.specs.declared.reading.ReadTree.TheVariants as refusals
use Rattle.folder_store.specs.Folders.{Entry, FolderTree, entries_below, entry_at, is_folder_at, kind_of}
use Rattle.folder_store.specs.Walk.{Met, Walked, WalkFault, IsTooDeep, IsBadName, met_at, met_past, met_below, onto, sort_entries, walk_edits}

-- a folder's entries by name, and what stands at each
pub record IsSortedListing (t : FolderTree) (path : Bytes) (listed : List (Bytes × EntryKind)) : Type 0 where
  pub folder : is_folder_at t path ≡ true
  pub entries : listed ≡ map (λ e. (e.0, kind_of e.1)) (sort_entries (entries_below t path))
  pub stand : All (λ e. entry_at t (path ++ 47 ∷ e.0) ≡ Some e.1) (sort_entries (entries_below t path))

abbrev pub kind_at : FolderTree → Bytes → Option EntryKind
kind_at t path = option_map kind_of (entry_at t path)

-- what is met at one entry of a folder whose path leaves room for so many names more
abbrev pub met_one : FolderTree → ℕ → PathNames → Bytes → Bytes × Entry → List Met
met_one t zero path text e = met_past e
met_one t (suc room) path text e = met_at (met_below t room) path text e

abbrev pub after : List Edit → Walked → Walked
after [] rest = rest
after (e ∷ edits) rest = onto e (after edits rest)

-- what a walk gives that has these edits and so many bytes, and meets this from then on
abbrev pub going_on : List Edit → ℕ → List Met → Walked
going_on edits n met = after edits (walk_edits n met)

-- the rule that is broken where a walk answers so
abbrev pub broken_rule : ReadTree → Option WalkFault
broken_rule refusals.TooDeep = Some IsTooDeep
broken_rule refusals.BadName = Some IsBadName
broken_rule _ = None

-- A walk of these edits and so many bytes met all this, and has these edits and so many bytes now: what it gives in the
-- end stays the same, whatever is met from then on. Or what it met breaks a rule.
abbrev pub Walks : List Met → List Edit → ℕ → Result (Unit {0}) ReadTree → List Edit → ℕ → Type 0
Walks met before n result edits m =
    (rest : List Met) → MatchResult result (λ _. going_on before n (met ++ rest) ≡ going_on edits m rest)
    (λ e. MatchOption (broken_rule e) ⊤ (λ fault. going_on before n (met ++ rest) ≡ Err fault))
