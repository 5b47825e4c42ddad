-- The receiver's rules over many packets.
use Rattle.std.specs.Prelude.{◌≡◌, List, [], ◌∷◌, ◌++◌}
use Rattle.section_stream.specs.Cuts.{Bytes}
use Rattle.section_stream.specs.Rules.{Receiving, step, after_all}

-- all that comes out of these packets
abbrev pub outputs : Receiving → List Bytes → List Bytes
outputs s [] = []
outputs s (x ∷ xs) = (step s x).1 ++ outputs (step s x).0 xs

-- from one state these packets lead to the other, and their candidates stand after those before them
pub record HasRun (s t : Receiving) (packets before after : List Bytes) : Type 0 where
  pub state : after_all s packets ≡ t
  pub out : after ≡ before ++ outputs s packets
