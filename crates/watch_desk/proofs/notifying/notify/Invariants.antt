use Rattle.std.proofs.Common.{◌≡◌, ◌++◌, drop}
use Rattle.watch_desk.specs.Inner.Showing.{told_from}
use Rattle.watch_desk.proofs.notifying.notify.Given as goal

-- what was told so far, and what is left
abbrev pub invariant-loop-i : goal.invariant-loop-i
invariant-loop-i g l =
    l.notices.items ++ told_from l.watcher l.filter.prefix l.i (drop l.i l.paths) (drop l.i l.changed) ≡ l.fn.notices.items ++ told_from l.watcher l.filter.prefix 0 l.paths l.changed
