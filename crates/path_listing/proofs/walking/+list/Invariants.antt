use Rattle.std.proofs.Common.{◌*◌, ◌+◌, ◌-◌, ◌≤◌, true, take, length}
use Rattle.path_resolver.specs.Resolving.{answer_of}
use Rattle.path_resolver.specs.Shots.{held_of}
use Rattle.path_listing.specs.Inner.Walk.{Lists, paths_below}
use Rattle.path_listing.proofs.walking.+list.Given as goal

abbrev pub decreases-list_from : goal.decreases-list_from
decreases-list_from l = 3 * (17 - length l.path)

abbrev pub decreases-list_names : goal.decreases-list_names
decreases-list_names l = 3 * (16 - length l.path.now) + 2

abbrev pub decreases-list_below : goal.decreases-list_below
decreases-list_below l = 3 * (16 - length l.path.now) + 1

abbrev pub invariant-list_names-loop-i : goal.invariant-list_names-loop-i
invariant-list_names-loop-i l = record {
  lists : Lists (paths_below (answer_of (held_of l.shot)) (15 - length l.path) l.path (take l.i l.folder)) l.fn.paths.items l.paths.items true;
  few : length l.paths.items ≤ 65536;
}
