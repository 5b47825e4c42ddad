use Rattle.std.proofs.Common.{◌≡◌, ◌++◌, drop}
use Rattle.watch_desk.specs.Prefixes.{prefixes_of}
use Rattle.watch_desk.specs.Inner.Showing.{told_to_all}
use Rattle.watch_desk.proofs.notifying.notify_all.Given as goal

-- what was told so far, and what is left
abbrev pub invariant-loop-watcher : goal.invariant-loop-watcher
invariant-loop-watcher g l =
    l.notices.items ++ told_to_all l.watcher (prefixes_of (drop l.watcher l.filters)) l.paths l.changed ≡ told_to_all 0 (prefixes_of l.filters) l.paths l.changed
