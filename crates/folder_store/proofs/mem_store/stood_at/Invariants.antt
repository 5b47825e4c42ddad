use Rattle.std.proofs.Common.{◌≡◌, drop}
use Rattle.folder_store.specs.Folders.{entry_at}
use Rattle.folder_store.specs.Stores.{tree_stored}
use Rattle.folder_store.proofs.mem_store.stood_at.Given as goal

abbrev pub invariant-loop-text : goal.invariant-loop-text
invariant-loop-text l = entry_at (tree_stored l.entries) l.path ≡ entry_at (tree_stored (drop l.text-index l.entries)) l.path
