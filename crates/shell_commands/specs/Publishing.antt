-- A folder of the outside as the tree of one commit, and how that ends.
use Rattle.std.specs.Prelude.{ℕ, List, [], Option, Some, None, Result, Ok, Err, if◌then◌else◌}
use Rattle.path_tree.specs.Trees.{Tree}
use Rattle.path_tree.specs.Edits.{apply_all}
use Rattle.path_tree.specs.declared.tree.Edit.{Edit}
use Rattle.path_tree.specs.declared.tree.EditFault.{EditFault}
use Rattle.generation_catalogue.specs.History.{CatalogueState, outcome_of}
use Rattle.generation_catalogue.specs.declared.entry.Refusal.{Refusal}
use Rattle.folder_store.specs.Folders.{FolderTree, is_folder_at}
use Rattle.folder_store.specs.Walk.{Walked, IsTooDeep, IsBadName, edits_of}
use Rattle.folder_store.specs.declared.reading.TreeFault.TheVariants as trees
use Rattle.shell_streams.specs.Cuts.{Bytes}
use Rattle.receiver_commands.specs.declared.status.Status.{Status}
use Rattle.receiver_commands.specs.declared.status.Status.TheVariants as status

-- ---- the end

-- a carousel with these weights of which nothing is committed yet
abbrev pub new_carousel : ℕ → List ℕ → CatalogueState
new_carousel carousel weights = record { carousel = carousel; weights = weights; entries = [] }

-- what a commit answers doesn't depend on the weights, so none are named here
abbrev pub first_outcome : ℕ → List Edit → Result ℕ Refusal
first_outcome carousel edits = outcome_of (new_carousel carousel []) edits

abbrev pub unless_refused : Result ℕ Refusal → Status
unless_refused (Ok number) = status.Done
unless_refused (Err refusal) = status.TreeRefused (trees.Commit refusal)

abbrev pub end_by : ℕ → Walked → Status
end_by carousel (Err IsTooDeep) = status.TreeRefused trees.TooDeep
end_by carousel (Err IsBadName) = status.TreeRefused trees.BadName
end_by carousel (Ok edits) = unless_refused (first_outcome carousel edits)

-- how publishing a folder ends where the outside has no fault and there is memory: the walk's first fault refuses the tree, or
-- else the commit's refusal
abbrev pub publish_end : (folder : Bytes) (carousel : ℕ) → FolderTree → Status
publish_end folder carousel t = if is_folder_at t folder then end_by carousel (edits_of t folder) else status.FolderFault

-- ---- the tree

-- the tree of an accepted commit
abbrev pub accepted_tree : Result ℕ Refusal → Result Tree (ℕ × EditFault) → Option Tree
accepted_tree (Ok number) (Ok tree) = Some tree
accepted_tree _ _ = None

abbrev pub tree_by : ℕ → Walked → Option Tree
tree_by carousel (Ok edits) = accepted_tree (first_outcome carousel edits) (apply_all [] edits)
tree_by carousel (Err fault) = None

-- the folder as a tree, where neither the walk nor the carousel refuses it
abbrev pub tree_of_folder : (folder : Bytes) (carousel : ℕ) → FolderTree → Option Tree
tree_of_folder folder carousel t = if is_folder_at t folder then tree_by carousel (edits_of t folder) else None
