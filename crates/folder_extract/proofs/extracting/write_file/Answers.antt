use Rattle.folder_extract.proofs.Choosing.{none_breaks}
use Rattle.folder_extract.proofs.extracting.write_file.Goals as goal

pub returns-in-Err-NoMemory-clause-takes : goal.returns-in-Err-NoMemory-clause-takes
returns-in-Err-NoMemory-clause-takes g c = none_breaks _ _ _ _ _ c.in-Err-NoMemory.ensures.err
