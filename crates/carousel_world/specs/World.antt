-- A world is a list of events: what each replies, and what it leaves, follows from those before it.
use Rattle.std.specs.Prelude.{◌≡◌, ℕ, ◌+◌, ◌<◌, ◌≤◌, true, IsTrue, List, [], ◌∷◌, ◌++◌, length, map, Result, Ok, Err, nat_le, if◌then◌else◌}
use Rattle.std.specs.List.{flat_map}
use Rattle.path_tree.specs.Paths.{Bytes}
use Rattle.ts_packet.specs.declared.Fate.{Fate}
use Rattle.cycle_planner.specs.declared.Item.{Item}
use Rattle.generation.specs.Layouts.{GenerationState, section_of}
use Rattle.generation_catalogue.specs.History.{CatalogueState, outcome_of, with_commit, with_draw, draws_of, current_of, cursor_of, count_drawn, items_drawn, is_entered}
use Rattle.generation_catalogue.specs.declared.entry.Refusal.{Refusal}
use Rattle.section_stream.specs.Cuts.{candidates}
use Rattle.section_stream.specs.Packing.{MuxState, idle}
use Rattle.section_stream.specs.Groups.{packets_of_group, past_group}
use Rattle.path_resolver.specs.Resolving.{is_shared}
use Rattle.tuner_core.specs.LookBack.{answer_after}
use Rattle.carousel_world.specs.Receptions.{label_after}
use Rattle.carousel_world.specs.Fates.{Arrival, under}
use Rattle.carousel_world.specs.Events.{Step, Commit, Draw, Open}
use Rattle.carousel_world.specs.declared.event.Reply.{Reply}
use Rattle.carousel_world.specs.declared.event.Reply.TheVariants as replies
use Rattle.cycle_planner.specs.declared.TheConstants.{MOST_DRAWN}
use Rattle.generation_catalogue.specs.declared.journal.TheConstants.{MOST_DRAWS}

-- one draw: the generation that it was of, its items, and the fates of its packets
pub record Drawing : Type 0 where
  pub generation : GenerationState
  pub items : List Item
  pub fates : List Fate

-- the history, and the draws with their fates
pub record WorldState : Type 0 where
  pub catalogue : CatalogueState
  pub drawings : List Drawing

abbrev pub initial_world : ℕ → List ℕ → WorldState
initial_world carousel weights = record { catalogue = record { carousel = carousel; weights = weights; entries = [] }; drawings = [] }

abbrev pub sections_of : Drawing → List Bytes
sections_of d = map (section_of d.generation) d.items

-- all sections that were sent
abbrev pub sections_sent : List Drawing → List Bytes
sections_sent ds = flat_map sections_of ds

-- the same: each draw is a group of sections
abbrev pub groups_sent : List Drawing → List (List Bytes)
groups_sent ds = map sections_of ds

-- what arrives of draws, of which the first packet is number n of all
abbrev pub arrivals_from : MuxState → ℕ → List Drawing → List Arrival
arrivals_from m n [] = []
arrivals_from m n (d ∷ ds) =
    let packets = packets_of_group m (sections_of d) in
    under d.fates 0 n packets ++ arrivals_from (past_group m (sections_of d)) (n + length packets) ds

abbrev pub first_packet : MuxState
first_packet = idle 256 0

abbrev pub arrivals : List Drawing → List Arrival
arrivals ds = arrivals_from first_packet 0 ds

abbrev pub received_in : WorldState → List Bytes
received_in w = map (λ a. a.1) (arrivals w.drawings)

-- what was heard: the candidates cut from all packets that arrived
abbrev pub candidates_in : WorldState → List Bytes
candidates_in w = candidates 256 (received_in w)

abbrev pub commit_reply : Result ℕ Refusal → Reply
commit_reply (Ok number) = replies.Committed number
commit_reply (Err refusal) = replies.Refused refusal

-- what an event replies
abbrev pub reply_to : WorldState → Step → Reply
reply_to w (Commit editor edits) = commit_reply (outcome_of w.catalogue edits)
reply_to w (Draw asked fates) =
    if nat_le MOST_DRAWS (draws_of w.catalogue) then replies.DrawsFull MOST_DRAWS
    else replies.Drawn (current_of w.catalogue).number (cursor_of w.catalogue) (count_drawn w.catalogue asked)
reply_to w (Open reader path) = replies.Opened (label_after (candidates_in w)) (answer_after (candidates_in w) path)

-- a draw of so many items, or of as many as are left in the cycle
abbrev pub drawing_of : CatalogueState → ℕ → List Fate → Drawing
drawing_of c asked fates = record { generation = current_of c; items = items_drawn c asked; fates = fates }

-- and what it leaves
abbrev pub happens : WorldState → Step → WorldState
happens w (Commit editor edits) = record { catalogue = with_commit w.catalogue editor edits; drawings = w.drawings }
happens w (Draw asked fates) =
    if nat_le MOST_DRAWS (draws_of w.catalogue) then w
    else record { catalogue = with_draw w.catalogue asked; drawings = w.drawings ++ drawing_of w.catalogue asked fates ∷ [] }
happens w (Open reader path) = w

abbrev pub after_all : WorldState → List Step → WorldState
after_all w [] = w
after_all w (e ∷ es) = after_all (happens w e) es

abbrev pub replies_to : WorldState → List Step → List Reply
replies_to w [] = []
replies_to w (e ∷ es) = reply_to w e ∷ replies_to (happens w e) es

-- ---- what a caller keeps to: editors and readers are numbered 1 to 64, and a draw asks for 1 to 1,048,576 items

abbrev pub InRange : Step → Type 0
InRange (Commit editor edits) = (1 ≤ editor) × (editor ≤ 64)
InRange (Draw asked fates) = (1 ≤ asked) × (asked ≤ MOST_DRAWN)
InRange (Open reader path) = (1 ≤ reader) × (reader ≤ 64)

-- ---- what may ask for memory: a commit that makes an entry, a draw where there is room for one more, and an open that a file or a folder
-- answers, which shares the module that holds it

abbrev pub AsksForMemory : WorldState → Step → Type 0
AsksForMemory w (Commit editor edits) = is_entered (outcome_of w.catalogue edits) ≡ true
AsksForMemory w (Draw asked fates) = draws_of w.catalogue < MOST_DRAWS
AsksForMemory w (Open reader path) = IsTrue (is_shared (answer_after (candidates_in w) path))
