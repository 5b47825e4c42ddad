-- What watchers are told when answers to paths change (this project's own rules).
use Rattle.std.specs.Prelude.{◌≡◌, ◌≢◌, ◌⊎◌, ◌↔◌, ℕ, ◌<◌, Bool, true, not, ◌&&◌, List, map, Some, slice_get}
use Rattle.std.specs.List.{AllPairs, Contains, enumerate_from, filter, flat_map}
use Rattle.path_tree.specs.Paths.{PathNames}
use Rattle.path_resolver.specs.declared.answer.Answer.{Answer}
use Rattle.path_resolver.specs.Comparing.{same_answer}
use Rattle.watch_desk.specs.declared.notice.Notice.{Notice}
use Rattle.watch_desk.specs.Wanting.{is_wanted}

-- a path to a watcher, both by their places
abbrev pub notice : (watcher path : ℕ) → Notice
notice watcher path = record { watcher = watcher; path = path }

-- the answer to a path isn't the one that it was
abbrev pub differs : (before now : PathNames → Answer) → PathNames → Bool
differs before now path = not (same_answer (before path) (now path))

-- a path is wanted and its answer isn't the one that it was
abbrev pub is_told : (before now : PathNames → Answer) (prefix path : PathNames) → Bool
is_told before now prefix path = differs before now path && is_wanted prefix path

-- the notices to one watcher, by path
abbrev pub notices_to : (watcher : ℕ) (prefix : PathNames) (paths : List PathNames) (before now : PathNames → Answer) → List Notice
notices_to watcher prefix paths before now =
    map (λ (x : ℕ × PathNames). notice watcher x.0) (filter (λ (x : ℕ × PathNames). is_told before now prefix x.1) (enumerate_from 0 paths))

-- all notices, by watcher and then by path
abbrev pub notices : (prefixes paths : List PathNames) (before now : PathNames → Answer) → List Notice
notices prefixes paths before now = flat_map (λ (w : ℕ × PathNames). notices_to w.0 w.1 paths before now) (enumerate_from 0 prefixes)

-- ---- the same in other words

-- the path at the notice's place is wanted by the watcher at its place, and has another answer than before
pub record IsDue (prefixes paths : List PathNames) (before now : PathNames → Answer) (n : Notice) : Type 0 where
  pub prefix : PathNames
  pub path : PathNames
  pub watches : slice_get prefixes n.watcher ≡ Some prefix
  pub stands : slice_get paths n.path ≡ Some path
  pub wanted : is_wanted prefix path ≡ true
  pub changed : before path ≢ now path

-- by watcher, and then by path
abbrev pub ComesBefore : Notice → Notice → Type 0
ComesBefore a b = (a.watcher < b.watcher) ⊎ ((a.watcher ≡ b.watcher) × (a.path < b.path))

-- the notices are those that are due, and no others; they are in order, so each is there once
pub record AreThoseDue (prefixes paths : List PathNames) (before now : PathNames → Answer) : Type 0 where
  pub each : (n : Notice) → Contains (notices prefixes paths before now) n ↔ IsDue prefixes paths before now n
  pub order : AllPairs ComesBefore (notices prefixes paths before now)

abbrev pub EachChangeIsTold : Type 0
EachChangeIsTold = (prefixes paths : List PathNames) (before now : PathNames → Answer) → AreThoseDue prefixes paths before now
