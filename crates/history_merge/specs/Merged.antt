-- What a session's history owes its parts: that it is a run of the world, and where the opens stand in it.
use Rattle.std.specs.Prelude.{◌≡◌, ◌≢◌, ℕ, suc, ◌<◌, ◌≤◌, ◌==◌, Bool, true, false, List, [], ◌∷◌, ◌++◌, length, map, take, drop, get_or, slice_get, Some, All, if◌then◌else◌, filter, count_by}
use Rattle.path_tree.specs.Paths.{Bytes}
use Rattle.ts_packet.specs.declared.Fate.{Fate}
use Rattle.generation_catalogue.specs.History.{CatalogueState, IsHistory, is_draw}
use Rattle.generation_catalogue.specs.declared.entry.Entry.{Entry}
use Rattle.generation_catalogue.specs.declared.entry.Entry.TheVariants as entries
use Rattle.section_stream.specs.Cuts.{candidates}
use Rattle.tuner_core.specs.LookBack.{answer_after}
use Rattle.open_history.specs.Opens.{ReaderView}
use Rattle.open_history.specs.declared.entry.OpenEntry.{OpenEntry}
use Rattle.carousel_world.specs.Events.{Step, Commit, Draw}
use Rattle.carousel_world.specs.Events.{Open as Opens}
use Rattle.carousel_world.specs.Receptions.{label_after}
use Rattle.carousel_world.specs.World.{Drawing, drawing_of, arrivals, initial_world, after_all, replies_to, InRange}
use Rattle.carousel_world.specs.Promises.{MeetsHeadline}
use Rattle.carousel_world.specs.Runs.{lossy_run}
use Rattle.carousel_world.specs.declared.event.Reply.{Reply}
use Rattle.history_merge.specs.Merging.{Each, event_of, opened_of, opens_by, merge_entries, merge_of, drawn_with}

abbrev pub is_draw_step : Step → Bool
is_draw_step (Draw asked fates) = true
is_draw_step _ = false

abbrev pub is_commit_of : ℕ → Step → Bool
is_commit_of number (Commit editor edits) = editor == number
is_commit_of number _ = false

abbrev pub is_open_by : ℕ → Step → Bool
is_open_by number (Opens reader path) = reader == number
is_open_by number _ = false

-- whether an entry is a commit of the editor at this place
abbrev pub is_commit_at : ℕ → Entry → Bool
is_commit_at place (entries.Commit editor edits outcome) = editor == place
is_commit_at place (entries.Draw asked generation first count) = false

-- a commit's editor is a place of the editors
abbrev pub IsPlaced : ℕ → Entry → Type 0
IsPlaced editors (entries.Commit editor edits outcome) = editor < editors
IsPlaced editors (entries.Draw asked generation first count) = Unit {0}

-- the editors' numbers are 1 to 64, and no two share one
pub record AreNumbers (editors : List ℕ) : Type 0 where
  pub some : (i : ℕ) → i < length editors → 1 ≤ get_or editors i 0
  pub most : (i : ℕ) → i < length editors → get_or editors i 0 ≤ 64
  pub apart : (i j : ℕ) → i < length editors → j < length editors → get_or editors i 0 ≡ get_or editors j 0 → i ≡ j

-- no open's count of draws is below the one before it; the first is b or above, and none is above the last
abbrev pub NeverFall : ℕ → ℕ → List OpenEntry → Type 0
NeverFall b last [] = Unit {0}
NeverFall b last (o ∷ os) = (b ≤ o.draws) × (o.draws ≤ last) × NeverFall o.draws last os

-- a reader's number is 1 to 64, and along its opens the count of draws never falls and is at most this last
pub record IsInOrder (last : ℕ) (p : ReaderView) : Type 0 where
  pub some : 1 ≤ p.reader
  pub most : p.reader ≤ 64
  pub rising : NeverFall 0 last p.opens

-- no two readers share a number
abbrev pub AreApart : List ReaderView → Type 0
AreApart [] = Unit {0}
AreApart (p ∷ ps) = Each (λ (q : ReaderView). q.reader ≢ p.reader) ps × AreApart ps

-- what fits together: each draw has a list of fates, each commit's editor is a place of the editors, and the readers' opens are in order
pub record AreParts (entries : List Entry) (fates : List (List Fate)) (editors : List ℕ) (readers : List ReaderView) : Type 0 where
  pub drawn : length fates ≡ count_by is_draw entries
  pub placed : Each (IsPlaced (length editors)) entries
  pub in_order : Each (IsInOrder (count_by is_draw entries)) readers
  pub apart : AreApart readers

abbrev pub state_of : ℕ → List ℕ → List Entry → CatalogueState
state_of carousel weights entries = record { carousel = carousel; weights = weights; entries = entries }

-- the drawings that further entries make, each under its own fates
abbrev pub drawings_after : ℕ → List ℕ → List Entry → List (List Fate) → List Entry → List Drawing
drawings_after carousel weights before fates [] = []
drawings_after carousel weights before fates (entries.Commit editor edits outcome ∷ es) =
    drawings_after carousel weights (before ++ entries.Commit editor edits outcome ∷ []) fates es
drawings_after carousel weights before fates (entries.Draw asked generation first count ∷ es) =
    drawing_of (state_of carousel weights before) asked (get_or fates 0 [])
    ∷ drawings_after carousel weights (before ++ entries.Draw asked generation first count ∷ []) (drop 1 fates) es

abbrev pub drawings_of : CatalogueState → List (List Fate) → List Drawing
drawings_of c fates = drawings_after c.carousel c.weights [] fates c.entries

-- what is heard of the first k of the drawings
abbrev pub candidates_after : List Drawing → ℕ → List Bytes
candidates_after drawings k = candidates 256 (map (λ a. a.1) (arrivals (take k drawings)))

-- the open has the label and the answer after as many drawings as its shot had heard
abbrev pub IsAnswered : List Drawing → OpenEntry → Type 0
IsAnswered drawings o =
    (o.label ≡ label_after (candidates_after drawings o.draws)) × (o.answer ≡ answer_after (candidates_after drawings o.draws) o.path)

abbrev pub AreAnswered : List Drawing → List ReaderView → Type 0
AreAnswered drawings passes = Each (λ (p : ReaderView). Each (IsAnswered drawings) p.opens) passes

-- the replies are those that the world gives
abbrev pub IsRunOfWorld : ℕ → List ℕ → List (Step × Reply) → Type 0
IsRunOfWorld carousel weights told = map (λ x. x.1) told ≡ replies_to (initial_world carousel weights) (map (λ x. x.0) told)

-- what a catalogue, when all actors are done, and the readers' passes give a merge: a history, whose draws were heard as the opens say
pub record IsReady (c : CatalogueState) (editors : List ℕ) (fates : List (List Fate)) (readers : List ReaderView) : Type 0 where
  pub history : IsHistory c
  pub parts : AreParts c.entries fates editors readers
  pub numbers : AreNumbers editors
  pub answered : AreAnswered (drawings_of c fates) readers

-- the events at which `picked` holds, each with how many before it are draws: n were drawn before the list
abbrev pub with_draws_before : {X : Type 0} → (picked drawn : X → Bool) → ℕ → List X → List (ℕ × X)
with_draws_before picked drawn n [] = []
with_draws_before picked drawn n (x ∷ xs) =
    (if picked x then (n, x) ∷ [] else []) ++ with_draws_before picked drawn (if drawn x then suc n else n) xs

pub record IsMerged (c : CatalogueState) (editors : List ℕ) (fates : List (List Fate)) (readers : List ReaderView) (told : List (Step × Reply)) : Type 0 where
  pub run : IsRunOfWorld c.carousel c.weights told
  -- its events are such as every run of the world may have
  pub steps : All InRange (map (λ x. x.0) told)
  -- it keeps what every run of the world keeps
  pub headline : MeetsHeadline c.carousel c.weights (map (λ x. x.0) told)
  -- what was drawn is what the catalogue's entries drew
  pub drawings : (after_all (initial_world c.carousel c.weights) (map (λ x. x.0) told)).drawings ≡ drawings_of c fates
  -- the commits under an editor's number are the entries of its place, in their order, each once
  pub commits : (place : ℕ) → place < length editors
      → filter (λ x. is_commit_of (get_or editors place 0) x.0) told ≡ map (λ e. event_of editors e []) (filter (is_commit_at place) c.entries)
  -- the draws are all draw entries in their order, each once, each under its own fates
  pub draws : filter (λ x. is_draw_step x.0) told ≡ drawn_with editors fates (filter is_draw c.entries)
  -- the opens under a reader's number are its own in their order, each once, each with as many draws before it as its shot had heard
  pub opens : (reader : ℕ) → 1 ≤ reader → reader ≤ 64
      → with_draws_before (λ x. is_open_by reader x.0) (λ x. is_draw_step x.0) 0 told ≡ map (λ o. (o.draws, opened_of reader o)) (opens_by reader readers)
  -- and a reader's own opens are those of its pass
  pub own : (place : ℕ) (p : ReaderView) → slice_get readers place ≡ Some p → opens_by p.reader readers ≡ p.opens

abbrev pub EveryMergeIsMerged : Type 0
EveryMergeIsMerged = (c : CatalogueState) (editors : List ℕ) (fates : List (List Fate)) (readers : List ReaderView)
    → IsReady c editors fates readers
    → IsMerged c editors fates readers (merge_of editors readers fates c.entries)

-- two editors' commits, draws of which packets are lost and damaged, and two readers' opens; their merge is a known run of the world
abbrev pub AMergeIsReady : Type 0
AMergeIsReady = (c : CatalogueState) × (editors : List ℕ) × (fates : List (List Fate)) × (readers : List ReaderView)
    × IsReady c editors fates readers × (map (λ x. x.0) (merge_of editors readers fates c.entries) ≡ lossy_run)

-- more entries come after the merge of the first, with the opens after their draws
abbrev pub MergesGrow : Type 0
MergesGrow = (editors : List ℕ) (readers : List ReaderView) (fates : List (List Fate)) (entries more : List Entry)
    → merge_of editors readers fates (entries ++ more)
    ≡ merge_of editors readers fates entries ++ merge_entries editors readers (count_by is_draw entries) (drop (count_by is_draw entries) fates) more

-- An open that stands at a place of a reader's list stands in the history with as many draws before it, and its reader's earlier
-- opens are before it. One that has all draws of the history before it has none after it.
abbrev pub OpensHavePlaces : Type 0
OpensHavePlaces = (reader : ℕ) (told : List (Step × Reply)) (early late : List (ℕ × (Step × Reply))) (k : ℕ) (x : Step × Reply)
    → with_draws_before (λ y. is_open_by reader y.0) (λ y. is_draw_step y.0) 0 told ≡ early ++ (k, x) ∷ late
    → (before : List (Step × Reply)) × (after : List (Step × Reply)) × (told ≡ before ++ x ∷ after)
    × (count_by (λ y. is_draw_step y.0) before ≡ k) × (filter (λ y. is_open_by reader y.0) before ≡ map (λ y. y.1) early)
    × (count_by (λ y. is_draw_step y.0) told ≡ k → filter (λ y. is_draw_step y.0) (x ∷ after) ≡ [])
