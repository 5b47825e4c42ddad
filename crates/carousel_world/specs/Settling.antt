-- What a receiver has heard after two whole draws, whatever came before them.
use Rattle.std.specs.Prelude.{ℕ, ◌+◌, ◌≤◌, List, [], ◌∷◌, ◌++◌, length}
use Rattle.path_tree.specs.Paths.{PathNames}
use Rattle.path_tree.specs.Trees.{Node, node_at}
use Rattle.cycle_planner.specs.Weights.{AreWeights}
use Rattle.generation.specs.Lawful.{ArePublishable, tree_at}
use Rattle.generation_catalogue.specs.History.{trees_of, draws_of}
use Rattle.carousel_world.specs.Events.{Step, Commit, Draw, Open}
use Rattle.carousel_world.specs.Headline.{IsNodeAnswer}
use Rattle.carousel_world.specs.Premises.{IsWhole}
use Rattle.carousel_world.specs.Promises.{broadcast_of, world_after, IsUndamaged}
use Rattle.carousel_world.specs.World.{candidates_in, reply_to}
use Rattle.carousel_world.specs.declared.event.Reply.{Reply}
use Rattle.carousel_world.specs.declared.event.Reply.TheVariants as replies
use Rattle.cycle_planner.specs.declared.TheConstants.{MOST_DRAWN}
use Rattle.generation_catalogue.specs.declared.journal.TheConstants.{MOST_DRAWS}

-- A draw of the most items that one may ask for, of which all packets arrive. A cycle has fewer items, so it goes to the cycle's end,
-- wherever in the cycle it begins.
abbrev pub whole_draw : Step
whole_draw = Draw MOST_DRAWN []

-- Two of them after these events: the first goes on with the cycle, and brings a receiver in step; the second is a whole cycle.
abbrev pub with_settling : List Step → List Step
with_settling events = events ++ whole_draw ∷ whole_draw ∷ []

-- The last generation's number is that of the accepted commits. Whatever the weights, each 1 to 8, whatever was lost, damaged or repeated
-- before, and at whatever item of the cycle the next draw begins: after two whole draws, for which the history has room, a whole cycle of
-- that generation was heard.
abbrev pub EverySettledRunIsWhole : Type 0
EverySettledRunIsWhole =
    (carousel : ℕ) (weights : List ℕ) (events : List Step) → AreWeights weights
    → ArePublishable (world_after carousel weights events).catalogue.carousel (trees_of (world_after carousel weights events).catalogue)
    → draws_of (world_after carousel weights events).catalogue + 2 ≤ MOST_DRAWS
    → let w = world_after carousel weights (with_settling events) in
    IsWhole carousel (broadcast_of w).layouts (length (trees_of w.catalogue)) (candidates_in w)

-- an open's reply is a file's bytes, a folder's names, or that nothing is there, as the tree has it
abbrev pub Answers : Reply → Node → Type 0
Answers (replies.Opened label answer) node = IsNodeAnswer answer node
Answers _ node = ⊥

-- So, where no damage passed the CRC and each block was near its DII, each open then answers the lookup in the last generation's tree.
abbrev pub EverySettledRunOpens : Type 0
EverySettledRunOpens =
    (carousel : ℕ) (weights : List ℕ) (events : List Step) → AreWeights weights
    → ArePublishable (world_after carousel weights events).catalogue.carousel (trees_of (world_after carousel weights events).catalogue)
    → draws_of (world_after carousel weights events).catalogue + 2 ≤ MOST_DRAWS
    → let w = world_after carousel weights (with_settling events) in
    IsUndamaged w → (reader : ℕ) (p : PathNames) → Answers (reply_to w (Open reader p)) (node_at (tree_at (broadcast_of w).trees (length (trees_of w.catalogue))) p)

-- ---- opens change nothing of this

abbrev pub IsOpening : Step → Type 0
IsOpening (Commit editor edits) = ⊥
IsOpening (Draw asked fates) = ⊥
IsOpening (Open reader path) = Unit {0}
