use Rattle.session.proofs.Words.{◌≡◌, [], map, view_happening, before_steps, CastStands, Setting}
use Rattle.session.proofs.cast.Cast.act_all.Given as goal

abbrev pub invariant-loop-deed : goal.invariant-loop-deed
invariant-loop-deed g l = (setting : Setting) → map view_happening l.fn.before.items ≡ before_steps setting.parts → CastStands setting l.station [] l.fn.shower l.fn.self
    → CastStands setting l.station (map view_happening l.yielded) l.shower l.self
