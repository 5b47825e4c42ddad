-- The version that is held, and a DII of it.
use Rattle.std.specs.Prelude.{ℕ, List, [], ◌∷◌, Option, Some, None}
use Rattle.dsi_dii.specs.Controls.{DiiFields}
use Rattle.module_cache.specs.Joining.{Outline}
use Rattle.tuner_core.specs.declared.told.Fed.{Fed}
use Rattle.tuner_core.specs.declared.told.Fed.TheVariants.{Changed}
use Rattle.tuner_core.specs.Stands.{ruled_same, TurnState, held_outlines, join_from}

abbrev pub first_version : List Outline → Option ℕ
first_version [] = None
first_version (o ∷ os) = Some o.version

-- a DII of the held version
abbrev pub after_same : TurnState → DiiFields → TurnState × Fed
after_same t d = ruled_same {X = TurnState × Fed} (held_outlines t.cache) d (join_from t d, Changed) (λ fed. (t, fed))
