-- What a desk stands for.
use Rattle.watch_desk.specs.Prefixes.{prefixes_of}
use Rattle.watch_desk.specs.Watching.{DeskState}
use Rattle.watch_desk.specs.declared.desk.Desk.{Desk}

abbrev pub state : {X : _} {F : _} {g : _} → Desk X F g → DeskState
state d = record { prefixes = prefixes_of d.filters.items; paths = d.watched.paths; last = d.watched.last }
