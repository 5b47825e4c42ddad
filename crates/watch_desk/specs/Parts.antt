-- What can't change an answer: a candidate after which the same is held, and among sections of blocks each that makes no module whole.
use Rattle.std.specs.Prelude.{◌≡◌, ℕ, Bool, false, List, [], ◌∷◌, ◌++◌, length, map, is_some, ◌==◌}
use Rattle.std.specs.List.{filter}
use Rattle.path_tree.specs.Paths.{Bytes}
use Rattle.path_resolver.specs.Resolving.{Held, HeldModule}
use Rattle.tuner_core.specs.Heard.{as_heard}
use Rattle.tuner_core.specs.Turns.{held_after}

-- all blocks of the module are there
abbrev pub is_whole : HeldModule → Bool
is_whole m = is_some m.bytes

-- how many modules are whole
abbrev pub whole_modules : Held → ℕ
whole_modules held = length (filter is_whole held.table)

abbrev pub whole_after : List Bytes → ℕ
whole_after candidates = whole_modules (held_after (map as_heard candidates))

-- the candidate's table_id is that of block messages (ISO/IEC 13818-6, the DSM-CC section)
abbrev pub is_of_blocks : Bytes → Bool
is_of_blocks [] = false
is_of_blocks (id ∷ rest) = id == 0x3C

-- after one candidate more the same is held
abbrev pub HeldStays : List Bytes → Bytes → Type 0
HeldStays candidates c = held_after (map as_heard (candidates ++ c ∷ [])) ≡ held_after (map as_heard candidates)
