use Rattle.std.proofs.Common.{◌≡◌, ◌++◌, drop}
use Rattle.watch_desk.specs.Inner.Showing.{changes}
use Rattle.watch_desk.proofs.watched.changes.Given as goal

-- what was found so far, and what is left
abbrev pub invariant-loop-i : goal.invariant-loop-i
invariant-loop-i l = l.changed.items ++ changes (drop l.i l.last) (drop l.i l.now) ≡ changes l.last l.now
