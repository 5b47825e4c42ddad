-- What holds of the modules while objects are placed.
use Rattle.std.specs.Prelude.{◌≤◌, MatchOption, ⊤}
use Rattle.module_packer.specs.declared.packing.TheConstants.{ROOM}
use Rattle.module_packer.specs.declared.packing.Packing.{Packing}

-- the module that small objects go to is one of those opened, and isn't overfull
abbrev pub IsSound : Packing → Type 0
IsSound s = MatchOption s.shared ⊤ (λ o. (1 ≤ o.number) × (o.number ≤ s.count) × (o.sum ≤ ROOM))
