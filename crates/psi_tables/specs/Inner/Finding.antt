-- What sections list that one packet completed.
use Rattle.std.specs.Prelude.{ℕ, List, [], ◌∷◌, Option, Some, None}
use Rattle.std.specs.List.{flat_map}
use Rattle.section_stream.specs.Cuts.{Bytes}
use Rattle.psi_tables.specs.Finding.{pat_in, lines_in_section, listed_pids}

-- a list of none or one
abbrev pub list_of : {A : Type 0} → Option A → List A
list_of None = []
list_of (Some x) = x ∷ []

-- the PIDs that sections list which the k-th packet completed
abbrev pub listed_by : ℕ → List Bytes → List (ℕ × ℕ)
listed_by k sections = flat_map (λ s. listed_pids k (lines_in_section (pat_in s))) sections
