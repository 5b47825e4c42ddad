-- What holds of a table of mounts as the code keeps it.
use Rattle.std.specs.Prelude.{map}
use Rattle.mount_table.specs.Inner.Places.{pids_of, ArePlaces}
use Rattle.mount_table.specs.declared.mounts.Mounts.TheInside.{Inside}

-- for each PID the table keeps the place of the one receiver that is on it, and none where no receiver is
abbrev pub HasPlaces : Inside → Type 0
HasPlaces m = ArePlaces (pids_of (map (λ r. r.mount) m.receivers.items)) m.places.items
