use Rattle.folder_store.specs.Memory.{entries_in}
use Rattle.folder_store.proofs.MemoryTrees.{is-tree}
use Rattle.folder_store.proofs.memory.MemFolders.new.Goals as goal

pub returns-clause-lawful : goal.returns-clause-lawful
returns-clause-lawful c = is-tree (entries_in c.args.entries.items) c.requires
