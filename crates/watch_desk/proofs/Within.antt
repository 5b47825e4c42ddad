-- Each notice is of a path that is there.
use Rattle.std.proofs.Common.{ℕ, ◌≡◌, ◌+◌, ◌<◌, Bool, true, false, cond, ◌&&◌, List, [], ◌∷◌, length, arith}
use Rattle.std.specs.List.{All}
use Rattle.std.proofs.lemmas.List.Elements.{All-append, All-cons, All-nil}
use Rattle.path_tree.specs.Paths.{PathNames}
use Rattle.path_resolver.specs.Resolving.{Held}
use Rattle.watch_desk.specs.declared.notice.Notice.{Notice}
use Rattle.watch_desk.specs.Notices.{notice}
use Rattle.watch_desk.specs.Inner.Showing.{answers_for, changes, told_from, told_of, told_to_all}
use Rattle.watch_desk.specs.Wanting.{is_wanted}
use Rattle.watch_desk.specs.Watching.{DeskState}

abbrev IsOf : ℕ → Notice → Type 0
IsOf m n = n.path < m

told_or_not : (m : ℕ) (n : Notice) (rest : List Notice) (b : Bool) → n.path < m → All (IsOf m) rest → All (IsOf m) (cond b (n ∷ rest) rest)
told_or_not m n rest true h all = All-cons (IsOf m) n rest h all
told_or_not m n rest false h all = all

to_one : (watcher : ℕ) (prefix : PathNames) (m i : ℕ) (paths : List PathNames) (changed : List Bool) → i + length paths ≡ m → All (IsOf m) (told_from watcher prefix i paths changed)
to_one watcher prefix m i [] changed e = All-nil (IsOf m)
to_one watcher prefix m i (p ∷ ps) [] e = All-nil (IsOf m)
to_one watcher prefix m i (p ∷ ps) (c ∷ cs) e =
    told_or_not m (notice watcher i) (told_from watcher prefix (i + 1) ps cs) (c && is_wanted prefix p) (omega (arith, e)) (to_one watcher prefix m (i + 1) ps cs (omega (arith, e)))

to_all : (watcher : ℕ) (prefixes paths : List PathNames) (changed : List Bool) → All (IsOf (length paths)) (told_to_all watcher prefixes paths changed)
to_all watcher [] paths changed = All-nil (IsOf (length paths))
to_all watcher (prefix ∷ prefixes) paths changed =
    All-append (IsOf (length paths)) (told_from watcher prefix 0 paths changed) (told_to_all (watcher + 1) prefixes paths changed)
    (to_one watcher prefix (length paths) 0 paths changed (omega arith)) (to_all (watcher + 1) prefixes paths changed)

pub told_within : (d : DeskState) (shot : Held) → All (λ n. n.path < length d.paths) (told_of d shot)
told_within d shot = to_all 0 d.prefixes d.paths (changes d.last (answers_for d shot))
