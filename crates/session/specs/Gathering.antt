-- From what each actor did to the entries of the station's catalogue.
use Rattle.std.specs.Prelude.{◌≡◌, ◌⊎◌, ℕ, suc, ◌+◌, ◌<◌, ◌≤◌, Bool, true, false, List, [], ◌∷◌, ◌++◌, map, length, slice_get, Some, Result, Ok, if◌then◌else◌, filter, count_by, sum_by}
use Rattle.path_tree.specs.declared.tree.Edit.{Edit}
use Rattle.history_lock.specs.History.{Begins, total, times, once_within}
use Rattle.history_lock.specs.History as histories
use Rattle.generation_catalogue.specs.History.{CatalogueState, IsHistory, put_bytes, put_bytes_of, with_draw, draws_of}
use Rattle.generation_catalogue.specs.declared.entry.Entry.{Entry}
use Rattle.generation_catalogue.specs.declared.entry.Entry.TheVariants as entries
use Rattle.generation_catalogue.specs.declared.entry.Refusal.{Refusal}
use Rattle.carousel_world.specs.World.{Drawing, drawing_of}
use Rattle.history_merge.specs.Merging.{Each}
use Rattle.history_merge.specs.Merged.{drawings_of, IsPlaced, is_commit_at}
use Rattle.session.specs.Chains.{Seen, nothing_seen, Commits, Draws, DrawFields}
use Rattle.cycle_planner.specs.declared.TheConstants.{MOST_DRAWN}
use Rattle.dsi_dii.specs.declared.TheConstants.{LAST_GENERATION}
use Rattle.generation_catalogue.specs.declared.journal.TheConstants.{MOST_DRAWS, MOST_PUT_BYTES}

abbrev pub is_made : Entry → Bool
is_made (entries.Commit editor edits (Ok number)) = true
is_made _ = false

-- after these entries there is no room for a commit of these edits
abbrev pub IsFullAfter : List Entry → List Edit → Type 0
IsFullAfter part edits = (LAST_GENERATION ≤ count_by is_made part) ⊎ (MOST_PUT_BYTES < sum_by put_bytes_of part + put_bytes edits)

-- the entries before the next commit of this place's editor
abbrev pub entries_to_next : ℕ → List Entry → List Entry
entries_to_next place [] = []
entries_to_next place (e ∷ es) = if is_commit_at place e then [] else e ∷ entries_to_next place es

-- of an editor's commits, in order, each is entered as its next one, or found no room
abbrev pub AreEntered : ℕ → List Entry → List (List Edit) → List Entry → Type 0
AreEntered place before [] es = filter (is_commit_at place) es ≡ []
AreEntered place before (edits ∷ lines) es =
    ((between : List Entry) × (outcome : Result ℕ Refusal) × (later : List Entry) × (es ≡ between ++ entries.Commit place edits outcome ∷ later)
    × (filter (is_commit_at place) between ≡ []) × (AreEntered place (before ++ between ++ entries.Commit place edits outcome ∷ []) lines later))
    ⊎ (IsFullAfter (before ++ entries_to_next place es) edits × AreEntered place before lines es)

-- how many items each draw asked for, in order
abbrev pub asked_in : List Entry → List ℕ
asked_in [] = []
asked_in (entries.Commit editor edits outcome ∷ es) = asked_in es
asked_in (entries.Draw asked generation first count ∷ es) = asked ∷ asked_in es

-- The entries are of so many editors' commits, and of the feeder's draws, and of nobody else's; these are the drawings.
pub record IsGathered (editors : List (List (List Edit))) (draws : List DrawFields) (c : CatalogueState) (drawings : List Drawing) : Type 0 where
  pub history : IsHistory c
  pub placed : Each (IsPlaced (length editors)) c.entries
  pub commits : (place : ℕ) (lines : List (List Edit)) → slice_get editors place ≡ Some lines → AreEntered place [] lines c.entries
  pub asked : asked_in c.entries ≡ map (λ (d : DrawFields). d.asked) draws
  pub drawn : drawings_of c (map (λ (d : DrawFields). d.fates) draws) ≡ drawings

-- the actors at these places and further ones made these commits, and have seen this much
abbrev pub AllCommitted : (id : ℕ) (weights : List ℕ) (place : ℕ) → List (List (List Edit)) → List Seen → Type 0
AllCommitted id weights place [] [] = Unit {0}
AllCommitted id weights place (lines ∷ more) (s ∷ ss) = Commits id weights place nothing_seen lines s × AllCommitted id weights (suc place) more ss
AllCommitted id weights place _ _ = ⊥

-- What all passes have seen begins the history, and each entry is one pass's own. Then the history is gathered of what the actors did.
abbrev pub ActorsGather : Type 0
ActorsGather = (editors : List (List (List Edit))) (draws : List DrawFields) (drawings : List Drawing) (c : CatalogueState) (editors_seen : List Seen) (feeder_seen : Seen)
    → IsHistory c
    → AllCommitted c.carousel c.weights 0 editors editors_seen
    → Draws c.carousel c.weights nothing_seen draws drawings feeder_seen
    → histories.Each (λ (s : Seen). Begins s.entries c.entries) (editors_seen ++ feeder_seen ∷ [])
    → ((place : ℕ) → total (λ (s : Seen). times place s.own) (editors_seen ++ feeder_seen ∷ []) ≡ once_within 0 (length c.entries) place)
    → IsGathered editors draws c drawings

-- a draw more, by who has the whole catalogue
abbrev pub GatherGrows : Type 0
GatherGrows = (editors : List (List (List Edit))) (draws : List DrawFields) (drawings : List Drawing) (c : CatalogueState) (line : DrawFields)
    → IsGathered editors draws c drawings → draws_of c < MOST_DRAWS → 1 ≤ line.asked → line.asked ≤ MOST_DRAWN
    → IsGathered editors (draws ++ line ∷ []) (with_draw c line.asked) (drawings ++ drawing_of c line.asked line.fates ∷ [])
