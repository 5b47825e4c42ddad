-- What folders in memory hold, and which of their calls fail.
use Rattle.std.specs.Prelude.{ℕ, List, Option, Contains}
use Rattle.std.specs.Option.{option_map}
use Rattle.std.specs.String.{string_bytes}
use Rattle.path_tree.specs.Paths.{Bytes}
use Rattle.folder_store.specs.Folders.{FolderTree}
use Rattle.folder_store.specs.Memory.{entries_in, tree_of}
use Rattle.folder_store.specs.declared.memory.MemFolders.{MemFolders}

abbrev pub tree_in : MemFolders → FolderTree
tree_in f = tree_of (entries_in f.entries.items)

-- the numbers of the calls that fail, of the calls from the first on, which is number 0
abbrev pub failing_calls : MemFolders → List ℕ
failing_calls f = f.fail_at.items

-- how many calls were made
abbrev pub calls_made : MemFolders → ℕ
calls_made f = f.calls

-- how many calls failed as planned
abbrev pub calls_failed : MemFolders → ℕ
calls_failed f = f.failures

-- the path text of the last call that failed, where there was memory to keep it
abbrev pub last_refused : MemFolders → Option Bytes
last_refused f = option_map string_bytes f.refused

-- the next call is one of those that fail
abbrev pub NextCallFails : MemFolders → Type 0
NextCallFails f = Contains (failing_calls f) (calls_made f)
