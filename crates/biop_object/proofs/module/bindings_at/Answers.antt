use Rattle.biop_object.proofs.Finding.{never_other, folder_there}
use Rattle.biop_object.proofs.module.bindings_at.Goals as goal

pub unreachable-requires : goal.unreachable-requires
unreachable-requires c = never_other c.args.index.now c.args.folder c.index-index-folder.result c.requires.below c.index-index-folder.is c.requires.folder c.in_default.not-Folder

pub returns : goal.returns
returns c = folder_there c.args.index.now c.args.folder c.index-index-folder.result c.in-Folder.bindings c.requires.below c.index-index-folder.is c.in-Folder.is
