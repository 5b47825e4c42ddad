-- The setting that the items of a kept catalogue begin with.
use Rattle.std.specs.Prelude.{ℕ, Bool, true, false, List, [], ◌∷◌}
use Rattle.station.specs.declared.kept.KeptItem.{KeptItem}
use Rattle.station.specs.declared.kept.KeptItem.TheVariants.{Setting}

-- the weights of the setting that the items begin with
abbrev pub weights_in : List KeptItem → List ℕ
weights_in (Setting carousel weights ∷ items) = weights
weights_in items = []

-- the items of a catalogue with no entry
abbrev pub is_opening : List KeptItem → Bool
is_opening (Setting carousel weights ∷ []) = true
is_opening items = false
