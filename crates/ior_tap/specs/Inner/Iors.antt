-- Reading a tap alone.
use Rattle.std.specs.Prelude.{ℕ, List}
use Rattle.oc_bytes.specs.Grammar.{Reads as ReadsBy}
use Rattle.ior_tap.specs.Iors.{TapFields, tap}

-- the bytes, all of them, are read as the tap
abbrev pub ReadsTap : List ℕ → TapFields → Type 0
ReadsTap = ReadsBy tap
