-- The range of ids that lines lie in.
use Rattle.std.specs.Prelude.{◌≡◌, Bool, true, ◌&&◌, nat_le, List, Option, IfSome}
use Rattle.std.specs.List.{list_all}
use Rattle.dsi_dii.specs.declared.ModuleLine.{ModuleLine}
use Rattle.module_cache.specs.declared.reach.Reach.{Reach}

abbrev pub is_within : Reach → ModuleLine → Bool
is_within r l = nat_le r.least l.id && nat_le l.id r.greatest

-- where a range is known, each line's id is in it
abbrev pub AreWithin : Option Reach → List ModuleLine → Type 0
AreWithin reach lines = IfSome reach (λ r. list_all (is_within r) lines ≡ true)
