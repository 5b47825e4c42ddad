-- A playout as a broadcast: what holds of whatever is heard of it.
use Rattle.std.specs.Prelude.{◌≡◌, ℕ, suc, ◌+◌, ◌<◌, ◌≤◌, true, false, List, [], ◌∷◌, length, Ok, Err}
use Rattle.std.specs.List.{All}
use Rattle.path_tree.specs.Trees.{Tree}
use Rattle.path_tree.specs.declared.tree.Edit.{Edit}
use Rattle.biop_object.specs.Names.{Layout}
use Rattle.cycle_planner.specs.Cycle.{cycle_of}
use Rattle.generation.specs.Kept.{layouts_of}
use Rattle.generation.specs.Layouts.{lines_in}
use Rattle.generation.specs.Lawful.{IsPublishable, Lawful, layout_at}
use Rattle.generation_catalogue.specs.History.{CatalogueState, outcome_of}
use Rattle.generation_catalogue.specs.declared.entry.Refusal.{Refusal}
use Rattle.folder_store.specs.Folders.{FolderTree}
use Rattle.section_stream.specs.Cuts.{Bytes, candidates}
use Rattle.section_stream.specs.Packing.{IsSectionLike}
use Rattle.carousel_world.specs.Broadcasts.{Broadcast, Group, Ascription, IsAscribed, NeverBack, SendsInOrder, section_groups}
use Rattle.carousel_world.specs.Premises.{AcceptedAreSent, BlocksAreNear}
use Rattle.carousel_world.specs.Publishing.{published_bytes, repeat_list}
use Rattle.carousel_world.specs.Receptions.{Meets}
use Rattle.dsi_dii.specs.declared.TheConstants.{LAST_GENERATION}
use Rattle.folder_playout.specs.OnAir.{OnAir, air_bytes, groups_of, on_air, same_tree, taken}
use Rattle.folder_playout.specs.Readings.{AreOfFolder, Reading, Found, Refused, Failed, judged, reading_of}

-- trees that can be sent
abbrev pub CanBeSent : Reading → Type 0
CanBeSent (Found tree) = IsPublishable tree
CanBeSent (Refused fault path) = Unit {0}
CanBeSent (Failed path) = Unit {0}

-- the items of a group are one or more whole cycles of its generation
abbrev pub IsOfCycles : List ℕ → List Layout → Group → Type 0
IsOfCycles weights ls g = (n : ℕ) × (g.items ≡ repeat_list (suc n) (cycle_of weights (lines_in (layout_at ls g.generation))))

-- What a playout sends is a broadcast: groups of whole cycles of the generations, in their order, whose trees are those that were read and
-- are lawful for their layouts, generation 0 having the empty tree.
pub record IsBroadcast (carousel : ℕ) (weights : List ℕ) (s : OnAir) : Type 0 where
  pub broadcast : Broadcast
  pub id : broadcast.carousel ≡ carousel
  pub trees : broadcast.trees ≡ [] ∷ s.trees
  pub layouts : broadcast.layouts ≡ layouts_of carousel s.trees
  pub lawful : Lawful carousel broadcast.layouts broadcast.trees
  pub cycles : All (IsOfCycles weights broadcast.layouts) broadcast.groups
  pub in_order : SendsInOrder broadcast
  pub sections : section_groups broadcast ≡ groups_of s

-- each list of readings whose trees can be sent gives one, while there are numbers for its generations
abbrev pub PlayoutsAreBroadcasts : Type 0
PlayoutsAreBroadcasts = (carousel : ℕ) (weights : List ℕ) (tree : Tree) (readings : List Reading) → carousel < 4294967296 → IsPublishable tree → All CanBeSent readings
    → length (on_air carousel weights tree readings).trees ≤ LAST_GENERATION → IsBroadcast carousel weights (on_air carousel weights tree readings)

-- the sections of such a one are as a packer asks
abbrev pub PlayoutsCanBePacked : Type 0
PlayoutsCanBePacked = (carousel : ℕ) (weights : List ℕ) (s : OnAir) → IsBroadcast carousel weights s → All (All IsSectionLike) (groups_of s)

-- So whatever is heard of a playout, lost, damaged, repeated or interleaved: while each section that is accepted is one that was sent, in the order of
-- sending, and fewer than 256 generations separate a block from the DII heard before it, each answer tells of one generation, whose tree was read.
abbrev pub PlayoutsMeet : Type 0
PlayoutsMeet = (carousel : ℕ) (weights : List ℕ) (s : OnAir) (is : IsBroadcast carousel weights s) (pid : ℕ) (packets : List Bytes) (from : Ascription) → NeverBack from
    → AcceptedAreSent is.broadcast (candidates pid packets) (IsAscribed is.broadcast pid packets from)
    → BlocksAreNear is.broadcast (candidates pid packets) (IsAscribed is.broadcast pid packets from)
    → Meets is.broadcast (candidates pid packets)

-- ---- changes

-- neighbours in the list of trees differ
abbrev pub Change : List Tree → Type 0
Change [] = Unit {0}
Change (t ∷ []) = Unit {0}
Change (t ∷ u ∷ us) = (same_tree u t ≡ false) × Change (u ∷ us)

-- Equal trees are those with the same files and kept folders. The generation on the air after a reading of a tree carries just
-- this tree, and none carries the tree of the one before.
pub record TreesChange : Type 0 where
  pub same : (t u : Tree) → same_tree t u ≡ true → t ≡ u
  pub alike : (t : Tree) → same_tree t t ≡ true
  pub carries : (s : OnAir) (t : Tree) → (taken s (Found t)).generation.tree ≡ t
  pub each : (carousel : ℕ) (weights : List ℕ) (tree : Tree) (readings : List Reading) → Change (on_air carousel weights tree readings).trees

-- this tree was read, or none
abbrev pub Stays : Tree → Reading → Type 0
Stays tree (Found t) = t ≡ tree
Stays tree (Refused fault path) = Unit {0}
Stays tree (Failed path) = Unit {0}

-- While no other tree is read than the first, the bytes are those of so many cycles of its publication. So it is with a known folder.
pub record UnchangedIsPublished : Type 0 where
  pub bytes : (pid carousel : ℕ) (weights : List ℕ) (tree : Tree) (readings : List Reading) → All (Stays tree) readings
      → air_bytes pid (on_air carousel weights tree readings) ≡ published_bytes pid carousel weights (length readings + 1) tree
  pub of_folder : (t : FolderTree) (folder : Bytes) (tree : Tree) (readings : List Reading) → AreOfFolder t folder (Found tree ∷ readings)
      → (reading_of t folder ≡ Found tree) × All (Stays tree) readings

-- a folder's edits are judged as a carousel's first commit is
pub record JudgedAsFirst : Type 0 where
  pub accepted : (c : CatalogueState) (edits : List Edit) (tree : Tree) → c.entries ≡ [] → judged edits ≡ Ok tree → outcome_of c edits ≡ Ok 1
  pub refused : (c : CatalogueState) (edits : List Edit) (refusal : Refusal) → c.entries ≡ [] → judged edits ≡ Err refusal → outcome_of c edits ≡ Err refusal
