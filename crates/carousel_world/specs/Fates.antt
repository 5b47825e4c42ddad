-- What becomes of the packets of a draw.
use Rattle.std.specs.Prelude.{ℕ, ◌+◌, ◌%◌, List, [], ◌∷◌, length, map, slice_index_or, Option, Some, None}
use Rattle.path_tree.specs.Paths.{Bytes}
use Rattle.ts_packet.specs.Fates.{arrival_of}
use Rattle.ts_packet.specs.declared.Fate.{Fate}
use Rattle.ts_packet.specs.declared.Fate.TheVariants.{Keep}

-- the fate of packet i of a draw: the list goes round, and an empty one keeps all
abbrev pub fate_of : List Fate → ℕ → Fate
fate_of fates i = slice_index_or fates (i % length fates) Keep

-- a received packet and the number of the air's packet that it is from
abbrev pub Arrival : Type 0
Arrival = ℕ × Bytes

abbrev pub onto_arrivals : ℕ → Option Bytes → List Arrival → List Arrival
onto_arrivals n (Some packet) rest = (n, packet) ∷ rest
onto_arrivals n None rest = rest

-- what arrives of packets of a draw, of which the first is packet i of the draw and packet n of the air
abbrev pub under : List Fate → ℕ → ℕ → List Bytes → List Arrival
under fates i n [] = []
under fates i n (p ∷ ps) = onto_arrivals n (arrival_of (fate_of fates i) p) (under fates (i + 1) (n + 1) ps)

-- the packets that arrive
abbrev pub received_under : List Fate → ℕ → List Bytes → List Bytes
received_under fates i packets = map (λ a. a.1) (under fates i 0 packets)
