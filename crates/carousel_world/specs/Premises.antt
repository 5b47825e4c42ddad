-- Under which conditions what is heard is what was sent, and what it is to hear a whole cycle.
use Rattle.std.specs.Prelude.{◌≡◌, ℕ, ◌+◌, ◌<◌, List, ◌∷◌, ◌++◌, length, map, Some, slice_get, IsTrue}
use Rattle.std.specs.List.{Contains}
use Rattle.path_tree.specs.Paths.{Bytes}
use Rattle.biop_object.specs.Names.{Layout}
use Rattle.dsi_dii.specs.Controls.{DiiFields}
use Rattle.ddb_block.specs.Blocks as ddb
use Rattle.cycle_planner.specs.declared.Item.TheVariants.{Dsi, Dii, Block}
use Rattle.generation.specs.Groups.{group_of}
use Rattle.generation.specs.Lawful.{Lawful, HasDii, dii_in, section_in, IsItem}
use Rattle.tuner_core.specs.Heard.{ADii, ABlock, as_heard, is_accepted}
use Rattle.carousel_world.specs.Broadcasts.{Broadcast, Sending, sections, sendings, SendsInOrder}

-- which candidate is from which section that was sent
abbrev pub Ascribed : Type 1
Ascribed = ℕ → ℕ → Type 0

-- damaged sections fail their CRC: each accepted candidate is from a section that was sent, and equals it
abbrev pub AcceptedAreSent : Broadcast → List Bytes → Ascribed → Type 0
AcceptedAreSent b candidates is_from = (i : ℕ) (bytes : Bytes) → slice_get candidates i ≡ Some bytes → IsTrue (is_accepted bytes)
    → (k : ℕ) × is_from i k × (slice_get (sections b) k ≡ Some bytes)

-- candidate number i is accepted
abbrev pub IsAcceptedAt : List Bytes → ℕ → Type 0
IsAcceptedAt candidates i = (bytes : Bytes) × (slice_get candidates i ≡ Some bytes) × IsTrue (is_accepted bytes)

-- candidate number i is an accepted DII, or an accepted block
abbrev pub IsDiiAt : List Bytes → ℕ → Type 0
IsDiiAt candidates i = (bytes : Bytes) × (d : DiiFields) × (slice_get candidates i ≡ Some bytes) × (as_heard bytes ≡ ADii d)

abbrev pub IsBlockAt : List Bytes → ℕ → Type 0
IsBlockAt candidates i = (bytes : Bytes) × (x : ddb.Block) × (slice_get candidates i ≡ Some bytes) × (as_heard bytes ≡ ABlock x)

-- the last accepted DII before candidate j is candidate i
pub record IsLastDiiBefore (candidates : List Bytes) (i j : ℕ) : Type 0 where
  pub before : i < j
  pub there : IsDiiAt candidates i
  pub last : (k : ℕ) → i < k → k < j → IsDiiAt candidates k → ⊥

-- the candidate is from a section of this generation
abbrev pub IsFromGeneration : Broadcast → Ascribed → ℕ → ℕ → Type 0
IsFromGeneration b is_from i g = (k : ℕ) × (s : Sending) × is_from i k × (slice_get (sendings b) k ≡ Some s) × (s.0 ≡ g)

-- fewer than 256 commits separate an accepted block from the last accepted DII before it
abbrev pub BlocksAreNear : Broadcast → List Bytes → Ascribed → Type 0
BlocksAreNear b candidates is_from = (i j g h : ℕ) → IsBlockAt candidates j → IsLastDiiBefore candidates i j
    → IsFromGeneration b is_from i g → IsFromGeneration b is_from j h → h < g + 256

-- The candidates are of a lawful broadcast, of which generation 0 is there before anything is published; those that are accepted were
-- sent, and no block is too far from its DII.
pub record IsHeardOf (b : Broadcast) (candidates : List Bytes) (is_from : Ascribed) : Type 0 where
  pub first : 0 < length b.layouts
  pub lawful : Lawful b.carousel b.layouts b.trees
  pub in_order : SendsInOrder b
  pub accepted : AcceptedAreSent b candidates is_from
  pub near : BlocksAreNear b candidates is_from

-- ---- a whole cycle

-- at some place DII j of generation g is heard, and after it every block of the modules that it lists
pub record HasRound (carousel : ℕ) (ls : List Layout) (g j : ℕ) (candidates : List Bytes) : Type 0 where
  pub before : List Bytes
  pub after : List Bytes
  pub place : candidates ≡ before ++ section_in carousel ls g (Dii j) ∷ after
  pub blocks : (m b : ℕ) → group_of m ≡ j → IsItem ls g (Block m b) → Contains after (section_in carousel ls g (Block m b))

-- A whole undamaged cycle of generation g was heard, in any order and over any time: the carousel's DSI, each of the generation's
-- DIIs, and after it each block of its modules. No DII of a later generation was accepted.
pub record IsWhole (carousel : ℕ) (ls : List Layout) (g : ℕ) (candidates : List Bytes) : Type 0 where
  pub generation : g < length ls
  pub gateway : Contains candidates (section_in carousel ls g Dsi)
  pub rounds : (j : ℕ) → HasDii ls g j → HasRound carousel ls g j candidates
  pub no_later : (h j : ℕ) → g < h → h < length ls → HasDii ls h j → Contains (map as_heard candidates) (ADii (dii_in carousel ls h j)) → ⊥
