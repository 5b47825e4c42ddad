-- What an actor's lines leave in a station's history, one after another.
use Rattle.std.specs.Prelude.{◌≡◌, ℕ, ◌<◌, List, [], ◌∷◌, ◌++◌}
use Rattle.path_tree.specs.declared.tree.Edit.{Edit}
use Rattle.ts_packet.specs.declared.Fate.{Fate}
use Rattle.history_lock.specs.History.{Begins, new_places}
use Rattle.history_lock.specs.declared.pass.Pass.{Pass}
use Rattle.generation_catalogue.specs.History.{CatalogueState, IsHistory, with_commit, with_draw, draws_of}
use Rattle.generation_catalogue.specs.declared.entry.Entry.{Entry}
use Rattle.station.specs.declared.kept.Kept.{Kept}
use Rattle.station.specs.declared.kept.KeptItem.{KeptItem}
use Rattle.station.specs.Passes.{entries_seen, own_entries}
use Rattle.carousel_world.specs.World.{Drawing, drawing_of}
use Rattle.generation_catalogue.specs.declared.journal.TheConstants.{MOST_DRAWS}

-- the entries that a pass has seen, and the places of its own ones
pub record Seen : Type 0 where
  pub entries : List Entry
  pub own : List ℕ

abbrev pub nothing_seen : Seen
nothing_seen = record { entries = []; own = [] }

abbrev pub seen_in : Pass Kept KeptItem → Seen
seen_in p = record { entries = entries_seen p; own = own_entries p }

-- a history of this carousel and of these weights that goes on with the entries that were seen
pub record GoesOnWith (id : ℕ) (weights : List ℕ) (s : Seen) (c : CatalogueState) : Type 0 where
  pub carousel : c.carousel ≡ id
  pub weighs : c.weights ≡ weights
  pub history : IsHistory c
  pub begins : Begins s.entries c.entries

-- after a call that left d of c: all of d was seen, and what the call entered is the pass's own
abbrev pub seen_after : Seen → CatalogueState → CatalogueState → Seen
seen_after s c d = record { entries = d.entries; own = s.own ++ new_places c.entries d.entries }

-- from s to t an editor makes these commits in order, each on a history that goes on with what was seen. The editor is entered by its place
abbrev pub Commits : (id : ℕ) (weights : List ℕ) (place : ℕ) → Seen → List (List Edit) → Seen → Type 0
Commits id weights place s [] t = t ≡ s
Commits id weights place s (edits ∷ lines) t =
    (c : CatalogueState) × (GoesOnWith id weights s c) × (Commits id weights place (seen_after s c (with_commit c place edits)) lines t)

-- what is asked of a draw, and what becomes of its packets
pub record DrawFields : Type 0 where
  pub asked : ℕ
  pub fates : List Fate

-- from s to t the feeder makes these draws in order, each on a history that goes on with what was seen and has room for it; these are
-- the drawings
abbrev pub Draws : (id : ℕ) (weights : List ℕ) → Seen → List DrawFields → List Drawing → Seen → Type 0
Draws id weights s [] [] t = t ≡ s
Draws id weights s (l ∷ lines) (d ∷ ds) t =
    (c : CatalogueState) × (GoesOnWith id weights s c) × (draws_of c < MOST_DRAWS) × (d ≡ drawing_of c l.asked l.fates)
    × (Draws id weights (seen_after s c (with_draw c l.asked)) lines ds t)
Draws id weights s _ _ t = ⊥
