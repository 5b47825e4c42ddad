-- What holds of what the code keeps.
use Rattle.std.specs.Prelude.{◌≤◌, length}
use Rattle.watch_desk.specs.declared.TheConstants.{MOST_WATCHED}
use Rattle.watch_desk.specs.declared.watched.Watched.TheInside.{Inside}

abbrev pub IsWatched : Inside → Type 0
IsWatched w = length w.paths.items ≤ MOST_WATCHED
