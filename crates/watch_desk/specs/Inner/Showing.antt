-- A shot as a desk goes through it: which answers changed, and then the notices, watcher by watcher and path by path.
use Rattle.std.specs.Prelude.{ℕ, ◌+◌, Bool, not, ◌&&◌, List, [], ◌∷◌, ◌++◌, map, slice_index_or, if◌then◌else◌}
use Rattle.path_tree.specs.Paths.{PathNames}
use Rattle.path_resolver.specs.Comparing.{same_answer}
use Rattle.path_resolver.specs.Resolving.{Held, answer_of}
use Rattle.path_resolver.specs.declared.answer.Answer.{Answer}
use Rattle.path_resolver.specs.declared.answer.Answer.TheVariants as answers
use Rattle.watch_desk.specs.declared.notice.Notice.{Notice}
use Rattle.watch_desk.specs.Notices.{notice}
use Rattle.watch_desk.specs.Wanting.{is_wanted}
use Rattle.watch_desk.specs.Watching.{DeskState}

-- of answers those that aren't the ones kept, one by one, where none counts as no carousel
abbrev pub changes : (last now : List Answer) → List Bool
changes last [] = []
changes [] (a ∷ more) = not (same_answer answers.NoCarousel a) ∷ changes [] more
changes (b ∷ kept) (a ∷ more) = not (same_answer b a) ∷ changes kept more

-- an answer isn't the one that is kept at a place
abbrev pub differs_at : (last : List Answer) → ℕ → Answer → Bool
differs_at last i answer = not (same_answer (slice_index_or last i answers.NoCarousel) answer)

-- the notices to a watcher of the paths from a place on
abbrev pub told_from : (watcher : ℕ) (prefix : PathNames) → ℕ → List PathNames → List Bool → List Notice
told_from watcher prefix i [] changed = []
told_from watcher prefix i (p ∷ ps) [] = []
told_from watcher prefix i (p ∷ ps) (c ∷ cs) =
    if c && is_wanted prefix p then notice watcher i ∷ told_from watcher prefix (i + 1) ps cs else told_from watcher prefix (i + 1) ps cs

-- the notices to the watchers from a place on
abbrev pub told_to_all : ℕ → (prefixes paths : List PathNames) → List Bool → List Notice
told_to_all watcher [] paths changed = []
told_to_all watcher (prefix ∷ prefixes) paths changed = told_from watcher prefix 0 paths changed ++ told_to_all (watcher + 1) prefixes paths changed

-- the answers to the watched paths on a shot
abbrev pub answers_for : DeskState → Held → List Answer
answers_for d shot = map (answer_of shot) d.paths

-- the notices of a shot
abbrev pub told_of : DeskState → Held → List Notice
told_of d shot = told_to_all 0 d.prefixes d.paths (changes d.last (answers_for d shot))

-- the desk that keeps the answers on a shot
abbrev pub keeping : DeskState → Held → DeskState
keeping d shot = record d { last = answers_for d shot }
