-- Which paths a watcher wants (this project's own rule).
use Rattle.std.specs.Prelude.{Bool, ◌||◌}
use Rattle.path_tree.specs.Paths.{PathNames, same_path, is_below}

-- the prefix itself, and each path below it
abbrev pub is_wanted : (prefix path : PathNames) → Bool
is_wanted prefix path = same_path prefix path || is_below prefix path
