-- One block after another: the run that has begun, and the text of one that ends.
use Rattle.std.specs.Prelude.{ℕ, ◌<◌, Bool, Option, IfSome}
use Rattle.path_tree.specs.Paths.{Bytes}
use Rattle.reception_report.specs.Missing.{ended_by, runs_text}

-- a run has begun further in front
abbrev pub IsBegun : Option ℕ → ℕ → Type 0
IsBegun begun b = IfSome begun (λ first. first < b)

abbrev pub ended_text : Option ℕ → ℕ → Bool → Bytes
ended_text begun b there = runs_text (ended_by begun b there)
