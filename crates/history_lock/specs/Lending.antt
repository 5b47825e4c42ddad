-- What becomes of a hold, once what `value` lent is written.
use Rattle.std.specs.Prelude.{[]}
use Rattle.std.specs.Borrow.{Lends, MutBor, Fml}
use mir.Syntax.{named}
use denote.RattleType.{RattleType}
use Rattle.history_lock.specs.declared.chronicled.Chronicled.{Ghosts}
use Rattle.history_lock.specs.declared.hold.Hold.{Hold}
use Rattle.history_lock.specs.contracts.hold.Hold.{the_row}

abbrev pub with_value : {V E : Type 0} → Hold V E → V → Hold V E
with_value h v = record h { value = v }

-- the hold ends with the last value after r. Its lifetime is the second of the signature
abbrev pub LendsValue : (V E : RattleType) → Ghosts V.Denot E.Denot → MutBor (Hold V.Denot E.Denot) → MutBor V.Denot → Fml
LendsValue V E g h r = Lends (the_row (record { mir = named 1; lft = [] }) V E g) V h r (with_value h.now)
