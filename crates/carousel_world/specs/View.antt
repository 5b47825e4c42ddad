-- What the code keeps of a world.
use Rattle.std.specs.Prelude.{◌≡◌, true, [], List}
use Rattle.generation_catalogue.specs.History.{CatalogueState}
use Rattle.carousel_world.specs.Events.{Step, Draw}
use Rattle.carousel_world.specs.DownView.{DownlinkState, DownlinkStands}
use Rattle.carousel_world.specs.World.{WorldState, received_in, groups_sent, happens, after_all, reply_to, replies_to, AsksForMemory}
use Rattle.carousel_world.specs.declared.event.Reply.{Reply}
use Rattle.carousel_world.specs.declared.world.World.{World}

pub record Kept : Type 0 where
  pub catalogue : CatalogueState
  pub down : DownlinkState

abbrev pub kept_in : {X : _} {F : _} {g : _} → World X F g → Kept
kept_in w = record { catalogue = w.journal; down = w.downlink }

-- the world's parts stand for the state that the events left
pub record StandsFor (k : Kept) (w : WorldState) : Type 0 where
  pub catalogue : k.catalogue ≡ w.catalogue
  pub down : DownlinkStands k.down 256 (groups_sent w.drawings) [] (received_in w)

-- a refused draw leaves a spent world, and each other refused event leaves it as it was
abbrev pub IsLeft : Step → Kept → Kept → Type 0
IsLeft (Draw asked fates) old new = new.down.spent ≡ true
IsLeft _ old new = new ≡ old

-- ---- what holds of a call on what is kept of a world, whatever world that stands for

-- it left what stands for the world after the event
abbrev pub Follows : Kept → Kept → Step → Type 0
Follows old new event = (w : WorldState) → StandsFor old w → StandsFor new (happens w event)

abbrev pub FollowsAll : Kept → Kept → List Step → Type 0
FollowsAll old new events = (w : WorldState) → StandsFor old w → StandsFor new (after_all w events)

-- this is the world's reply to the event
abbrev pub IsReply : Kept → Step → Reply → Type 0
IsReply old event reply = (w : WorldState) → StandsFor old w → reply ≡ reply_to w event

abbrev pub AreReplies : Kept → List Step → List Reply → Type 0
AreReplies old events replies = (w : WorldState) → StandsFor old w → replies ≡ replies_to w events

-- the event may find no memory in that world
abbrev pub WantsMemory : Kept → Step → Type 0
WantsMemory old event = (w : WorldState) → StandsFor old w → AsksForMemory w event
