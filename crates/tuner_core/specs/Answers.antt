-- What a candidate does, looking back over those before it alone: the first rule that holds. And the law that the rules on the state
-- give what looking back gives.
use Rattle.std.specs.Prelude.{◌≡◌, ◌≢◌, ℕ, Bool, false, ◌&&◌, List, [], ◌∷◌, ◌++◌, map, Option, Some, None, if◌then◌else◌}
use Rattle.path_tree.specs.Paths.{Bytes}
use Rattle.ior_tap.specs.Iors.{biop_of_profiles}
use Rattle.dsi_dii.specs.Controls.{DiiFields}
use Rattle.module_cache.specs.Joining.{taken_among}
use Rattle.module_cache.specs.Turns.{newest, Turn}
use Rattle.path_resolver.specs.Resolving.{Target, target_of}
use Rattle.tuner_core.specs.Heard.{Heard, Skipped, NoControl, NoBlock, ADsi, ADii, ABlock, as_heard}
use Rattle.tuner_core.specs.Said.{gateway_of, block_in}
use Rattle.tuner_core.specs.Stands.{TunerState, StandsFor, same_location, same_number, ruled, fed_by, with_next_mark, step, snapshot_of}
use Rattle.tuner_core.specs.Turns.{outlines, turns_of, snapshot_after}
use Rattle.tuner_core.specs.declared.told.Cause.TheVariants as causes
use Rattle.tuner_core.specs.declared.told.Fed.{Fed}
use Rattle.tuner_core.specs.declared.told.Fed.TheVariants.{Changed, Nothing}

abbrev pub same_root : Option Target → Target → Bool
same_root (Some held) root = same_location held.0 root.0 && same_number held.1 root.1
same_root None root = false

abbrev pub fed_root : Option Target → Option Target → Fed
fed_root held None = Nothing causes.NoGateway
fed_root held (Some root) = if same_root held root then Nothing causes.SameDsi else Changed

-- by the DIIs that were admitted in the newest turn
abbrev pub fed_dii : List (Turn Heard) → DiiFields → Fed
fed_dii ts d = ruled (outlines (newest ts)) d Changed Changed (λ fed. fed)

abbrev pub fed_heard : List Heard → Heard → Fed
fed_heard hs (Skipped skip) = Nothing (causes.Section skip)
fed_heard hs (NoControl place) = Nothing (causes.NotControl place)
fed_heard hs (NoBlock place) = Nothing (causes.NotDdb place)
fed_heard hs (ADsi d) = fed_root (gateway_of hs) (target_of (biop_of_profiles d.gateway.profiles))
fed_heard hs (ADii d) = fed_dii (turns_of hs) d
fed_heard hs (ABlock b) = fed_by (taken_among block_in (turns_of hs) b)

-- what a candidate does after these
abbrev pub fed_after : List Bytes → Bytes → Fed
fed_after candidates c = fed_heard (map as_heard candidates) (as_heard c)

-- The rules of one candidate more keep the state what looking back over all candidates gives, and answer what it gives. What answers
-- `Nothing` changes nothing, and a shot is all that is held.
pub record LooksBack : Type 0 where
  pub stands : (t : TunerState) (candidates : List Bytes) (c : Bytes) → StandsFor t candidates → StandsFor (step t c).0 (candidates ++ c ∷ [])
  pub fed : (t : TunerState) (candidates : List Bytes) (c : Bytes) → StandsFor t candidates → (step t c).1 ≡ fed_after candidates c
  pub nothing : (t : TunerState) (c : Bytes) → (step t c).1 ≢ Changed → (step t c).0 ≡ with_next_mark t
  pub shot : (number draws : ℕ) (t : TunerState) (candidates : List Bytes) → StandsFor t candidates → snapshot_of number draws t ≡ snapshot_after number draws candidates
