-- What a store in memory has, and which of its calls fail.
use Rattle.std.specs.Prelude.{ℕ, List, Contains}
use Rattle.folder_store.specs.Folders.{FolderTree}
use Rattle.folder_store.specs.Stores.{tree_stored}
use Rattle.folder_store.specs.declared.mem_store.MemStore.{MemStore}

abbrev pub stored_in : MemStore → FolderTree
stored_in s = tree_stored s.entries.items

-- the numbers of the calls that fail, of the calls from the first on, which is number 0
abbrev pub store_plan : MemStore → List ℕ
store_plan s = s.calls.fail_at.items

-- how many calls were made
abbrev pub store_calls : MemStore → ℕ
store_calls s = s.calls.made

-- how many calls failed as planned
abbrev pub store_faults : MemStore → ℕ
store_faults s = s.calls.failed

-- the next call is one of those that fail
abbrev pub NextStoreFails : MemStore → Type 0
NextStoreFails s = Contains (store_plan s) (store_calls s)
