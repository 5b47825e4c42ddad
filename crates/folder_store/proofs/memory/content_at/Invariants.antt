use Rattle.std.proofs.Common.{◌≡◌, drop}
use Rattle.folder_store.specs.Memory.{entries_in}
use Rattle.folder_store.proofs.MemoryTrees.{bytes_at}
use Rattle.folder_store.proofs.memory.content_at.Given as goal

abbrev pub invariant-loop-text : goal.invariant-loop-text
invariant-loop-text l = bytes_at l.path (entries_in l.entries) ≡ bytes_at l.path (entries_in (drop l.text-index l.entries))
