-- What a reader's lines leave in its pass.
use Rattle.std.specs.Prelude.{◌≡◌, ℕ, ◌+◌, ◌≤◌, List, [], ◌∷◌, length}
use Rattle.path_tree.specs.Paths.{PathNames}
use Rattle.open_history.specs.Opens.{ReaderView}
use Rattle.open_history.specs.declared.entry.OpenEntry.{OpenEntry}

-- a path that was asked for, and the least number that its shot may have
pub record Asked : Type 0 where
  pub path : PathNames
  pub least : ℕ

-- each path was opened, in order, on a shot of no lower number than its least
abbrev pub AreOpened : List Asked → List OpenEntry → Type 0
AreOpened [] [] = Unit {0}
AreOpened (a ∷ asked) (e ∷ es) = (e.path ≡ a.path) × (a.least ≤ e.shot) × AreOpened asked es
AreOpened _ _ = ⊥

-- How many shots were known never falls along the opens: it was `first` before them and is `last` after them, and each is on the last one known
abbrev pub Rises : ℕ → List OpenEntry → ℕ → Type 0
Rises first [] last = first ≤ last
Rises first (e ∷ es) last = (first ≤ e.shot + 1) × Rises (e.shot + 1) es last

-- all that a reader was asked for so far was opened
pub record HasOpened (asked : List Asked) (r : ReaderView) : Type 0 where
  pub opened : AreOpened asked r.opens
  pub rises : Rises 0 r.opens (length r.known)
