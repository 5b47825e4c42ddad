use Rattle.watch_desk.proofs.Heard.{needed_at_changes}
use Rattle.watch_desk.proofs.laws.shots_are_needed_at_changes.Goals as goal

pub returns : goal.returns
returns c = needed_at_changes c.held_looks_back.ensures
