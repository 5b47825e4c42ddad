use Rattle.folder_store.specs.Memory.{entries_in}
use Rattle.folder_store.proofs.MemoryTrees.{listed-whole}
use Rattle.folder_store.proofs.memory.listing.Goals as goal

pub returns : goal.returns
returns c =
    listed-whole (entries_in c.args.entries.now) c.args.path.now c.in_ok-found.found.items c.in_ok-folders.folders.items c.append.new.self.items c.requires.form c.requires.folder c.in_ok-found.ensures c.in_ok-folders.ensures c.in_ok-append.ensures.items
