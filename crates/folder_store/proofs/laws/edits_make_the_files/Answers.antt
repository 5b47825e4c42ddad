use Rattle.folder_store.proofs.Applied.{edits_make_files}
use Rattle.folder_store.proofs.laws.edits_make_the_files.Goals as goal

pub returns : goal.returns
returns c = λ t root edits tree folder walk few made. edits_make_files t root edits tree folder walk few made
