use Rattle.std.proofs.Common.{◌≡◌, map, take}
use Rattle.folder_store.specs.Folders.{view_entry}
use Rattle.folder_store.specs.Memory.{entries_in}
use Rattle.folder_store.specs.Inner.Memory.{folders_below}
use Rattle.folder_store.proofs.memory.list_folders.Given as goal

abbrev pub invariant-loop-text : goal.invariant-loop-text
invariant-loop-text l = map view_entry l.found.items ≡ folders_below l.path (entries_in (take l.text-index l.entries))
