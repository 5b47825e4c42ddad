use Rattle.folder_store.proofs.Files.{puts_files}
use Rattle.folder_store.proofs.reading.read_tree.Goals as goal

pub returns-in-Ok-clause-files : goal.returns-in-Ok-clause-files
returns-in-Ok-clause-files g c = λ t told tree. puts_files t c.args.root.now _ tree (c.in-Ok.ensures.edits t told)
