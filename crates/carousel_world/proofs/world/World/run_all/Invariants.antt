use Rattle.std.proofs.Common.{◌≡◌, length, map, take}
use Rattle.carousel_world.specs.Events.{view}
use Rattle.carousel_world.specs.World.{WorldState, replies_to, after_all}
use Rattle.carousel_world.specs.View.{kept_in, StandsFor}
use Rattle.carousel_world.proofs.world.World.run_all.Given as goal

-- the events so far happened, and these are their replies
abbrev pub invariant-loop-event : goal.invariant-loop-event
invariant-loop-event g l = (w : WorldState) → StandsFor (kept_in l.fn.self) w
    → StandsFor (kept_in l.self) (after_all w (map view (take (length l.yielded) l.fn.events.items)))
    × (l.replies.items ≡ replies_to w (map view (take (length l.yielded) l.fn.events.items)))
