use Rattle.std.proofs.Common.{take}
use Rattle.mount_table.specs.Inner.Places.{pids_of, ArePlaces}
use Rattle.mount_table.proofs.places.places_of.Given as goal

abbrev pub invariant-loop-place : goal.invariant-loop-place
invariant-loop-place l = ArePlaces (pids_of (take l.place l.mounts)) l.places.items
