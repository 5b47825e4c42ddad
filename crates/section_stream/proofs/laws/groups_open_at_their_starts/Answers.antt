use Rattle.section_stream.proofs.GroupPlaces.{groups-open}
use Rattle.section_stream.proofs.laws.groups_open_at_their_starts.Goals as goal

pub returns : goal.returns
returns c = groups-open
