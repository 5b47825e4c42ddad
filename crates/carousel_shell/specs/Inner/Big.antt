-- The lengths of what the finales answer, one event after another.
use Rattle.std.specs.Prelude.{ℕ, ◌||◌, not, nat_lt, List, [], ◌∷◌, Option, Some, None, if◌then◌else◌}
use Rattle.carousel_world.specs.Events.{Step}
use Rattle.carousel_world.specs.declared.event.Reply.{Reply}
use Rattle.carousel_shell.specs.Big.{is_first, length_in}

abbrev pub option_list : Option ℕ → List ℕ
option_list (Some n) = n ∷ []
option_list None = []

-- what one event more adds to them, where reader 1 made so many opens above it
abbrev pub length_more : ℕ → Step × Reply → List ℕ
length_more opens x = if nat_lt opens 64 || not (is_first x) then [] else option_list (length_in x)
