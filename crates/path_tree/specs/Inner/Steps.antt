-- What the steps of reading a text say of each other.
use Rattle.std.specs.Prelude.{◌≡◌, ℕ, ◌+◌, ◌*◌, ◌<◌, ◌++◌, [], ◌∷◌, length, Option, Some, None, Result, Ok, Err, ⊤}
use Rattle.std.specs.List.{slice_split}
use Rattle.path_tree.specs.Paths.{Bytes, PathNames, IsName}
use Rattle.path_tree.specs.Texts.{TextFault, Plain, undo_all, if_plain, name_of, is_slash}
use Rattle.path_tree.specs.declared.path.PathFault.{PathFault}
use Rattle.path_tree.specs.declared.path.PathFault.TheVariants as faults

-- the byte that two digits write, where both are digits
abbrev pub byte_of_digits : Option ℕ → Option ℕ → Option ℕ
byte_of_digits (Some high) (Some low) = Some (16 * high + low)
byte_of_digits _ _ = None

-- A text stands for a byte and then for what the rest stands for; or its first byte begins an escape
-- that isn't one.
abbrev pub Undoes : Bytes → Option (ℕ × Bytes) → Type 0
Undoes text None = (out : Bytes) → if_plain (undo_all (Plain, out) text) ≡ None
Undoes text (Some p) = (length p.1 < length text) × ((out : Bytes) → undo_all (Plain, out) text ≡ undo_all (Plain, out ++ p.0 ∷ []) p.1)

-- the text up to its first slash, and what follows that slash
abbrev pub Cuts : Bytes → Bytes → Option Bytes → Type 0
Cuts text piece None = slice_split is_slash text ≡ piece ∷ []
Cuts text piece (Some rest) = (slice_split is_slash text ≡ piece ∷ slice_split is_slash rest) × (length text ≡ length piece + 1 + length rest)

-- a text's name, or that it has none and where it begins; or there was no memory
abbrev pub IsNameAt : Bytes → ℕ → Result Bytes PathFault → Type 0
IsNameAt text place (Ok name) = (name_of text ≡ Some name) × IsName name
IsNameAt text place (Err (faults.BadName at)) = (name_of text ≡ None) × (at ≡ place)
IsNameAt text place (Err faults.TooDeep) = ⊥
IsNameAt text place (Err faults.NoMemory) = Unit {0}

-- whether there are names, or the fault
abbrev pub verdict_of : Result PathNames TextFault → Result ⊤ TextFault
verdict_of (Ok names) = Ok tt
verdict_of (Err fault) = Err fault
