use Rattle.folder_playout.proofs.Unchanged.{unchanged}
use Rattle.folder_playout.proofs.laws.unchanged_is_published.Goals as goal

pub returns : goal.returns
returns c = unchanged c.generations_are_of_the_lists.ensures
