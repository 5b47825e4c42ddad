-- What a receiver takes out of what it hears: DIIs that it can hold, gateways, and blocks.
use Rattle.std.specs.Prelude.{ℕ, Bool, not, ◌&&◌, List, Option, Some, None, ◌==◌, if◌then◌else◌}
use Rattle.std.specs.List.{filter_map, last_or}
use Rattle.std.specs.Option.{option_and_then}
use Rattle.path_tree.specs.Paths.{Bytes}
use Rattle.ior_tap.specs.Iors.{biop_of_profiles}
use Rattle.ddb_block.specs.Blocks as ddb
use Rattle.dsi_dii.specs.Controls.{DiiFields, identification_of}
use Rattle.dsi_dii.specs.declared.ModuleLine.{ModuleLine}
use Rattle.module_cache.specs.Joining.{is_within}
use Rattle.module_cache.specs.Turns.{fits}
use Rattle.module_cache.specs.Turns as back
use Rattle.path_resolver.specs.Resolving.{Target, target_of}
use Rattle.tuner_core.specs.Heard.{Heard, ADsi, ADii, ABlock}
pub use Rattle.module_cache.specs.Turns.{fits}

-- of an identification, and within the receiver's limits
abbrev pub is_sound : DiiFields → Bool
is_sound d = not (identification_of d.transaction == 0) && is_within d

abbrev pub if_sound : DiiFields → Option DiiFields
if_sound d = if is_sound d then Some d else None

-- the sound DII that a candidate says
abbrev pub sound_in : Heard → Option DiiFields
sound_in (ADii d) = if_sound d
sound_in _ = None

abbrev pub root_in : Heard → Option Target
root_in (ADsi d) = target_of (biop_of_profiles d.gateway.profiles)
root_in _ = None

-- the gateway of the last DSI that has one
abbrev pub gateway_of : List Heard → Option Target
gateway_of hs = last_or None (filter_map root_in hs)

abbrev pub block_in : Heard → Option ddb.Block
block_in (ABlock b) = Some b
block_in _ = None

-- the bytes of a block of this number of a module that the DII lists
abbrev pub bytes_if_fits : DiiFields → ModuleLine → ℕ → Heard → Option Bytes
bytes_if_fits held l b h = option_and_then (λ x. if fits held l b x then Some x.bytes else None) (block_in h)

-- the first block that fits
abbrev pub block_among : List Heard → DiiFields → ModuleLine → ℕ → Option Bytes
block_among since held l b = back.block_among block_in since held l b
