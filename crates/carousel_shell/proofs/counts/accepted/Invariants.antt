use Rattle.std.proofs.Common.{◌≡◌, map, take}
use Rattle.history_merge.specs.Merging.{known_view}
use Rattle.session.specs.Sessions.{accepted_in}
use Rattle.carousel_shell.proofs.counts.accepted.Given as goal

abbrev pub invariant-loop-one : goal.invariant-loop-one
invariant-loop-one l = l.commits ≡ accepted_in (map known_view (take l.one-index l.told))
