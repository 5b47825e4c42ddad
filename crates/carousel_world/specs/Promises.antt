-- What holds of every list of events.
use Rattle.std.specs.Prelude.{◌≡◌, ℕ, List, [], ◌∷◌, ◌++◌, map, Option, slice_get}
use Rattle.std.specs.Option.{option_map}
use Rattle.path_tree.specs.Paths.{PathNames}
use Rattle.generation.specs.Kept.{layouts_of}
use Rattle.generation.specs.Lawful.{Lawful, ArePublishable}
use Rattle.generation_catalogue.specs.History.{trees_of}
use Rattle.carousel_world.specs.Broadcasts.{Broadcast, Group, sections, SendsInOrder, NeverBack, Ascription, IsAscribed}
use Rattle.carousel_world.specs.Premises.{AcceptedAreSent, BlocksAreNear}
use Rattle.carousel_world.specs.Receptions.{GoesOn, TellsOne, Meets, label_after}
use Rattle.carousel_world.specs.Fates.{Arrival}
use Rattle.carousel_world.specs.Events.{Step, Open}
use Rattle.carousel_world.specs.World.{WorldState, Drawing, sections_sent, arrivals, received_in, candidates_in, reply_to, initial_world, after_all}
use Rattle.carousel_world.specs.declared.event.Reply.{Reply}
use Rattle.carousel_world.specs.declared.event.Reply.TheVariants as replies

-- ---- a world as a broadcast and what is received of it

-- each draw is a group
abbrev pub group_of : Drawing → Group
group_of d = record { generation = d.generation.number; items = d.items }

-- generation 0 has the empty tree, and each accepted commit makes one generation more
abbrev pub broadcast_of : WorldState → Broadcast
broadcast_of w = record {
  carousel = w.catalogue.carousel;
  trees = [] ∷ trees_of w.catalogue;
  layouts = layouts_of w.catalogue.carousel (trees_of w.catalogue);
  groups = map group_of w.drawings;
}

-- which sent packet each received one is from, by the fates
abbrev pub from_in : List Arrival → Ascription
from_in received i = option_map (λ a. a.0) (slice_get received i)

abbrev pub from_of : WorldState → Ascription
from_of w = from_in (arrivals w.drawings)

-- candidate number i is from section number k
abbrev pub IsAscribedIn : WorldState → ℕ → ℕ → Type 0
IsAscribedIn w = IsAscribed (broadcast_of w) 256 (received_in w) (from_of w)

-- damaged sections failed their CRC so far, and fewer than 256 commits separate a heard block from the DII heard before it
pub record IsUndamaged (w : WorldState) : Type 0 where
  pub accepted : AcceptedAreSent (broadcast_of w) (candidates_in w) (IsAscribedIn w)
  pub near : BlocksAreNear (broadcast_of w) (candidates_in w) (IsAscribedIn w)

-- ---- what holds after events

-- an open's reply tells of one generation
abbrev pub IsOpened : Reply → WorldState → PathNames → Type 0
IsOpened (replies.Opened label answer) w p = TellsOne (broadcast_of w) (candidates_in w) p label answer
IsOpened _ w p = ⊥

-- Whatever was damaged, lost or repeated, the layouts carry the trees, what was sent are sections of the published generations in
-- order, and what is received keeps that order. While damaged sections fail their CRC and blocks are near, all that is held is of one
-- generation, each open tells of it, and after a whole cycle of a generation each of its paths opens.
pub record HoldsAfter (w : WorldState) : Type 0 where
  pub lawful : Lawful w.catalogue.carousel (layouts_of w.catalogue.carousel (trees_of w.catalogue)) ([] ∷ trees_of w.catalogue)
  pub in_order : SendsInOrder (broadcast_of w)
  pub sent : sections (broadcast_of w) ≡ sections_sent w.drawings
  pub never_back : NeverBack (from_of w)
  pub meets : IsUndamaged w → Meets (broadcast_of w) (candidates_in w)
  pub each : IsUndamaged w → (reader : ℕ) (p : PathNames) → IsOpened (reply_to w (Open reader p)) w p

abbrev pub world_after : ℕ → List ℕ → List Step → WorldState
world_after carousel weights events = after_all (initial_world carousel weights) events

abbrev pub label_in_world : WorldState → Option ℕ
label_in_world w = label_after (candidates_in w)

-- it holds after each of the events, and the generation that is held never goes back
pub record MeetsHeadline (carousel : ℕ) (weights : List ℕ) (events : List Step) : Type 0 where
  pub holds : (before after : List Step) → events ≡ before ++ after → HoldsAfter (world_after carousel weights before)
  pub forward : (before between after : List Step) → events ≡ before ++ (between ++ after)
      → GoesOn (label_in_world (world_after carousel weights before)) (label_in_world (world_after carousel weights (before ++ between)))

-- of every list of events after which the published trees are of bytes and within the limits
abbrev pub EveryRunMeetsTheHeadline : Type 0
EveryRunMeetsTheHeadline =
    (carousel : ℕ) (weights : List ℕ) (events : List Step) → ArePublishable (world_after carousel weights events).catalogue.carousel (trees_of (world_after carousel weights events).catalogue)
    → MeetsHeadline carousel weights events
