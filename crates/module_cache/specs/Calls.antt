-- A list of calls of a cache, and what it holds and answers, looking back over them.
use Rattle.std.specs.Prelude.{◌≡◌, ◌≢◌, ℕ, Bool, false, List, [], ◌∷◌, ◌++◌, map, Option, Some}
use Rattle.std.specs.List.{fold}
use Rattle.ddb_block.specs.Blocks as ddb
use Rattle.dsi_dii.specs.Controls.{DiiFields}
use Rattle.module_cache.specs.Joining.{CacheState, outline_held, is_there, AreOnce, AreApart, joined, turned, offered, taken_of, slot_at, state_in, taken_among, slot_among}
use Rattle.module_cache.specs.Turns.{Turn, continued, with_turning, with_joined}
use Rattle.module_cache.specs.declared.taken.Taken.TheVariants.{New}

pub data Call : Type 0 where
  -- a DII was held from then on in the place of all others, and whether what was there before was kept
  Turned : DiiFields → Bool → Call
  -- a DII was held from then on beside the others
  Joined : DiiFields → Call
  Offered : ddb.Block → Call

abbrev pub turn_after : List (Turn ddb.Block) → Call → List (Turn ddb.Block)
turn_after ts (Turned d keep) = with_turning ts d keep
turn_after ts (Joined d) = with_joined ts d
turn_after ts (Offered b) = continued ts b

-- the turns of the calls, the newest first
abbrev pub turns_of : List Call → List (Turn ddb.Block)
turns_of calls = fold turn_after [] calls

abbrev pub itself : ddb.Block → Option ddb.Block
itself b = Some b

-- The cache stands for these calls: of each module of a DII that is held it has the blocks that were offered in the module's stretch.
abbrev pub StandsFor : CacheState → List Call → Type 0
StandsFor c calls = c ≡ state_in itself (turns_of calls)

-- one call more: what the calls' own rules make of the state is what looking back over all of them gives
pub record CallsLookBack : Type 0 where
  pub turned_so : (c : CacheState) (calls : List Call) (d : DiiFields) (keep : Bool) → StandsFor c calls → StandsFor (turned c d keep) (calls ++ Turned d keep ∷ [])
  pub joined_so : (c : CacheState) (calls : List Call) (d : DiiFields) → is_there (map outline_held c.held) d ≡ false → StandsFor c calls → StandsFor (joined c d) (calls ++ Joined d ∷ [])
  pub offered_so : (c : CacheState) (calls : List Call) (b : ddb.Block) → AreOnce (map outline_held c.held) → AreApart (map outline_held c.held) → StandsFor c calls
      → StandsFor (offered c b) (calls ++ Offered b ∷ [])
  pub taken_so : (c : CacheState) (calls : List Call) (b : ddb.Block) → StandsFor c calls → taken_of c b ≡ taken_among itself (turns_of calls) b
  pub kept_so : (c : CacheState) (b : ddb.Block) → taken_of c b ≢ New → offered c b ≡ c
  pub slot_so : (c : CacheState) (calls : List Call) (id : ℕ) → StandsFor c calls → slot_at c id ≡ slot_among itself (turns_of calls) id
