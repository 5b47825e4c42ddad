-- Whether bytes stand after a place.
use Rattle.std.proofs.Common.{◌≡◌, ℕ, ◌-◌, [], ◌∷◌, length, drop, not, nat_lt, arith, length-drop}
use Rattle.section_stream.specs.Cuts.{Bytes}
use Rattle.section_stream.specs.Packing.{is_none}

pub some_behind : (at : ℕ) (bytes : Bytes) → nat_lt at (length bytes) ≡ not (is_none (drop at bytes))
some_behind at bytes = go (drop at bytes) (length-drop at bytes) where
  go : (xs : Bytes) → length xs ≡ length bytes - at → nat_lt at (length bytes) ≡ not (is_none xs)
  go [] e = grind (arith, e)
  go (x ∷ xs) e = grind (arith, e)
