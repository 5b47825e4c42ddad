-- A list of events with losses and damage after which the premises hold.
use Rattle.std.specs.Prelude.{◌≡◌, ℕ, List, [], ◌∷◌, Some, replicate}
use Rattle.path_tree.specs.Paths.{Bytes, PathNames}
use Rattle.path_tree.specs.declared.tree.Edit.{Edit}
use Rattle.path_tree.specs.declared.tree.Edit.TheVariants as edits
use Rattle.ts_packet.specs.declared.Fate.TheVariants.{Keep, Lose, Flip}
use Rattle.generation.specs.Lawful.{ArePublishable}
use Rattle.generation_catalogue.specs.History.{trees_of}
use Rattle.path_resolver.specs.declared.answer.Answer.TheVariants as answers
use Rattle.carousel_world.specs.Premises.{IsWhole}
use Rattle.carousel_world.specs.Events.{Step, Commit, Draw, Open}
use Rattle.carousel_world.specs.World.{candidates_in, initial_world, replies_to}
use Rattle.carousel_world.specs.Promises.{broadcast_of, IsUndamaged, world_after}
use Rattle.carousel_world.specs.declared.event.Reply.TheVariants as replies
use Rattle.cycle_planner.specs.declared.TheConstants.{MOST_DRAWN}
use Rattle.module_groups.specs.declared.TheConstants.{GREATEST_ID}

-- the weight 1 for every module
abbrev pub ones : List ℕ
ones = replicate GREATEST_ID 1

-- `/a`
abbrev pub the_path : PathNames
the_path = (97 ∷ []) ∷ []

abbrev pub puts : Bytes → List Edit
puts content = edits.Put the_path content ∷ []

-- Two editors put the file `/a`, one after the other. A cycle is three packets: the DSI and the DII begin in the first, the one block begins
-- in the second and ends in the third. Of generation 1's cycle a bit of the DSI is inverted and the third packet is lost. Of generation 2's
-- two cycles one bit of the first's block is inverted; then all arrive.
abbrev pub lossy_run : List Step
lossy_run =
    Commit 1 (puts (1 ∷ 2 ∷ 3 ∷ [])) ∷ Draw MOST_DRAWN (Flip 800 ∷ Keep ∷ Lose ∷ []) ∷ Open 1 the_path ∷ Commit 2 (puts (4 ∷ 5 ∷ 6 ∷ []))
    ∷ Draw MOST_DRAWN (Keep ∷ Flip 800 ∷ Keep ∷ []) ∷ Open 1 the_path ∷ Draw MOST_DRAWN [] ∷ Open 2 the_path ∷ []

pub record RunIsPremised : Type 0 where
  pub published : ArePublishable 1 (trees_of (world_after 1 ones lossy_run).catalogue)
  pub undamaged : IsUndamaged (world_after 1 ones lossy_run)
  pub whole : IsWhole 1 (broadcast_of (world_after 1 ones lossy_run)).layouts 2 (candidates_in (world_after 1 ones lossy_run))
  -- without the DSI there is no carousel; the damaged block is missing after generation 2's DII turned; then the file opens
  pub replies : replies_to (initial_world 1 ones) lossy_run
      ≡ replies.Committed 1 ∷ replies.Drawn 1 0 3 ∷ replies.Opened (Some 1) answers.NoCarousel ∷ replies.Committed 2 ∷ replies.Drawn 2 0 3
      ∷ replies.Opened (Some 2) (answers.NotYet 1) ∷ replies.Drawn 2 0 3 ∷ replies.Opened (Some 2) (answers.File (4 ∷ 5 ∷ 6 ∷ [])) ∷ []
