-- What a session is: a history of its script's commits, draws and opens. The order in which a script's actors run is this project's own.
use Rattle.std.specs.Prelude.{◌≡◌, ◌⊎◌, ℕ, ◌+◌, ◌<◌, ◌≤◌, Bool, true, false, List, [], ◌∷◌, ◌++◌, map, length, Some, slice_get, if◌then◌else◌, All, filter, count_by, sum_by}
use Rattle.path_tree.specs.Paths.{PathNames}
use Rattle.path_tree.specs.Trees.{node_at}
use Rattle.path_tree.specs.declared.tree.Edit.{Edit}
use Rattle.generation.specs.Lawful.{tree_at}
use Rattle.path_resolver.specs.declared.shot.Shot.{Shot}
use Rattle.path_resolver.specs.Resolving.{answer_of}
use Rattle.path_resolver.specs.Shots.{held_of}
use Rattle.generation_catalogue.specs.History.{put_bytes, trees_of}
use Rattle.carousel_world.specs.Events.{Step, Commit, Draw, Open}
use Rattle.carousel_world.specs.World.{InRange, candidates_in}
use Rattle.carousel_world.specs.Premises.{IsWhole}
use Rattle.carousel_world.specs.Promises.{MeetsHeadline, IsUndamaged, world_after, broadcast_of}
use Rattle.carousel_world.specs.Settling.{IsOpening, Answers}
use Rattle.carousel_world.specs.declared.event.Reply.{Reply}
use Rattle.carousel_world.specs.declared.event.Reply.TheVariants as replies
use Rattle.history_merge.specs.Merged.{with_draws_before, is_draw_step, is_commit_of, is_open_by, IsRunOfWorld}
use Rattle.session_script.specs.Scripts.{Fields}
use Rattle.rehearsal.specs.Lines.{events_of, settling_step}
use Rattle.session.specs.Opened.{Asked}
use Rattle.session.specs.Shown.{AreShots}
use Rattle.session.specs.Lines.{commits_by, draws_in, asked_of, settles}
use Rattle.dsi_dii.specs.declared.TheConstants.{LAST_GENERATION}
use Rattle.generation_catalogue.specs.declared.journal.TheConstants.{MOST_PUT_BYTES}

-- an event with its reply
abbrev pub Told : Type 0
Told = Step × Reply

abbrev pub steps_told : List Told → List Step
steps_told told = map (λ (x : Told). x.0) told

-- a reader's opens, each with how many draws are before it
abbrev pub opens_told : ℕ → List Told → List (ℕ × Told)
opens_told reader told = with_draws_before (λ (x : Told). is_open_by reader x.0) (λ (x : Told). is_draw_step x.0) 0 told

-- ---- commits

abbrev pub is_accepted : Reply → Bool
is_accepted (replies.Committed number) = true
is_accepted _ = false

abbrev pub put_by_step : Step → ℕ
put_by_step (Commit editor edits) = put_bytes edits
put_by_step (Draw asked fates) = 0
put_by_step (Open reader path) = 0

-- how many commits were accepted
abbrev pub accepted_in : List Told → ℕ
accepted_in told = count_by (λ (x : Told). is_accepted x.1) told

-- after these events there is no room for a commit of these edits: the season is full, or the journal would be
abbrev pub IsFull : List Told → List Edit → Type 0
IsFull part edits = (LAST_GENERATION ≤ accepted_in part) ⊎ (MOST_PUT_BYTES < sum_by (λ (x : Told). put_by_step x.0) part + put_bytes edits)

-- what comes before this editor's next commit; all of it where there is none
abbrev pub up_to_next : ℕ → List Told → List Told
up_to_next editor [] = []
up_to_next editor (x ∷ xs) = if is_commit_of editor x.0 then [] else x ∷ up_to_next editor xs

-- Of an editor's commit lines, in order, each stands in the history as its next commit, or is missing: it found no room, and there is
-- none in the history up to the editor's next commit. `before` is the history up to here, and `told` what follows.
abbrev pub AreCommitted : ℕ → List Told → List (List Edit) → List Told → Type 0
AreCommitted editor before [] told = filter (λ (x : Told). is_commit_of editor x.0) told ≡ []
AreCommitted editor before (edits ∷ lines) told =
    ((between : List Told) × (reply : Reply) × (later : List Told) × (told ≡ between ++ (Commit editor edits, reply) ∷ later)
    × (filter (λ (x : Told). is_commit_of editor x.0) between ≡ []) × (AreCommitted editor (before ++ between ++ (Commit editor edits, reply) ∷ []) lines later))
    ⊎ (IsFull (before ++ up_to_next editor told) edits × AreCommitted editor before lines told)

-- ---- opens

-- each path that a reader is asked for is opened, in order, after at least so many draws
abbrev pub AreKnown : ℕ → List Asked → List (ℕ × Told) → Type 0
AreKnown reader [] [] = Unit {0}
AreKnown reader (a ∷ asked) (x ∷ xs) = (x.1.0 ≡ Open reader a.path) × (a.least ≤ x.0) × AreKnown reader asked xs
AreKnown reader _ _ = ⊥

-- The opens stand right after the last draw that they answer by, or before all else: none right after a commit, and those after one draw
-- in the order of their readers' numbers. Only a reader of `least` or above may open at the front; 65 is above all readers.
abbrev pub OpensInPlace : ℕ → List Step → Type 0
OpensInPlace least [] = Unit {0}
OpensInPlace least (Commit editor edits ∷ steps) = OpensInPlace 65 steps
OpensInPlace least (Draw asked fates ∷ steps) = OpensInPlace 0 steps
OpensInPlace least (Open reader path ∷ steps) = (least ≤ reader) × OpensInPlace reader steps

-- ---- the whole

-- the last events but opens are the two draws of `settle`
abbrev pub EndsSettled : List Step → Type 0
EndsSettled events = (before : List Step) × (between : List Step) × (after : List Step) × (events ≡ before ++ settling_step ∷ (between ++ settling_step ∷ after))
    × All IsOpening between × All IsOpening after

-- the last generation was heard whole
abbrev pub EndsWhole : List ℕ → List Step → Type 0
EndsWhole weights events =
    let w = world_after 1 weights events in
    IsWhole 1 (broadcast_of w).layouts (length (trees_of w.catalogue)) (candidates_in w)

-- so each open after all draws answers the path's lookup in the last generation, if damaged sections failed their CRC and blocks are near
abbrev pub EndsAnswered : List ℕ → List Told → Type 0
EndsAnswered weights told =
    let w = world_after 1 weights (steps_told told) in
    IsUndamaged w → (before after : List Told) (reader : ℕ) (path : PathNames) (reply : Reply) → told ≡ before ++ (Open reader path, reply) ∷ after
    → filter (λ (x : Told). is_draw_step x.0) after ≡ []
    → Answers reply (node_at (tree_at (broadcast_of w).trees (length (trees_of w.catalogue))) path)

-- ---- shots

-- an open that was answered on the shot of this number
abbrev pub IsOnShot : List Shot → ℕ → Told → Type 0
IsOnShot shots k (Open reader path, replies.Opened label answer) =
    (shot : Shot) × (slice_get shots k ≡ Some shot) × (label ≡ shot.label) × (answer ≡ answer_of (held_of shot) path)
IsOnShot shots k _ = ⊥

-- each of them, with so many draws before it, was answered on the shot of that number
abbrev pub AreOnShots : List Shot → List (ℕ × Told) → Type 0
AreOnShots shots [] = Unit {0}
AreOnShots shots (x ∷ xs) = IsOnShot shots x.0 x.1 × AreOnShots shots xs

-- There were these shots: one before the first draw, and one after each. That of number k is what is held after the first k draws, and
-- each open is answered on the one whose number is that of the draws before it.
pub record IsShown (weights : List ℕ) (told : List Told) : Type 0 where
  pub shots : List Shot
  pub are : AreShots (world_after 1 weights (steps_told told)).drawings shots
  pub opens : (reader : ℕ) → 1 ≤ reader → reader ≤ 64 → AreOnShots shots (opens_told reader told)

-- ---- all of it

-- The events are those of the script: each editor's commits in written order, but for those that found no room; the draws in written
-- order; each reader's opens in written order, an open above `start` after the draws above it, one below `start` after those above
-- `start`, and a finale after all. Each open stands right after the draw that it answers by, in the order of the readers' numbers, and is
-- answered on the shot that was shown after that draw, which is what is held then. The draws of `settle` are the last events but opens.
-- Together they are one run of a world of carousel 1 with these weights, which keeps what is promised of every run; and after `settle`
-- the last generation was heard whole, and finales answer it.
pub record IsSession (weights : List ℕ) (script : Fields) (told : List Told) : Type 0 where
  pub run : IsRunOfWorld 1 weights told
  pub steps : All InRange (steps_told told)
  pub headline : MeetsHeadline 1 weights (steps_told told)
  pub commits : (editor : ℕ) → 1 ≤ editor → editor ≤ 64 → AreCommitted editor [] (commits_by editor (events_of script)) told
  pub draws : draws_in (steps_told told) ≡ draws_in (events_of script)
  pub opens : (reader : ℕ) → 1 ≤ reader → reader ≤ 64 → AreKnown reader (asked_of reader script) (opens_told reader told)
  pub shown : IsShown weights told
  pub in_place : OpensInPlace 0 (steps_told told)
  pub settled : settles script ≡ true → EndsSettled (steps_told told)
  pub whole : settles script ≡ true → EndsWhole weights (steps_told told)
  pub answered : settles script ≡ true → EndsAnswered weights told
