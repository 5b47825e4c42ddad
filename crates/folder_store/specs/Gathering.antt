-- What a fault of the folders is to a walk.
use Rattle.folder_store.specs.declared.folders.FolderFault.{FolderFault}
use Rattle.folder_store.specs.declared.folders.FolderFault.TheVariants as folder_faults
use Rattle.folder_store.specs.declared.reading.ReadTree.{ReadTree}
use Rattle.folder_store.specs.declared.reading.ReadTree.TheVariants as refusals

abbrev pub read_fault : FolderFault → ReadTree
read_fault folder_faults.Failed = refusals.FolderFault
read_fault folder_faults.NoMemory = refusals.NoMemory
