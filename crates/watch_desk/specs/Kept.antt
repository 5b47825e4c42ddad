-- What the code keeps, as a state.
use Rattle.watch_desk.specs.Watching.{WatchedState}
use Rattle.watch_desk.specs.declared.watched.Watched.TheInside.{Inside}

abbrev pub view_watched : Inside → WatchedState
view_watched w = record { paths = w.paths.items; last = w.last.items }
