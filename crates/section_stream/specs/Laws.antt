-- What is packed and what is cut are one.
use Rattle.std.specs.Prelude.{◌≡◌, ◌<◌, ℕ, ◌-◌, ◌≤◌, ◌⊎◌, List, ◌++◌, length, take, drop, Some, slice_get}
use Rattle.std.specs.List.{All, AllPairs}
use Rattle.carousel_profile.specs.declared.TheConstants.{PACKET_LENGTH}
use Rattle.section_stream.specs.Cuts.{Bytes, Cut, cuts, candidates}

-- with more packets the candidates so far stay, and others may follow
abbrev pub CandidatesGrow : Type 0
CandidatesGrow = (pid : ℕ) (packets more : List Bytes) → (rest : List Bytes) × (candidates pid (packets ++ more) ≡ candidates pid packets ++ rest)

-- ---- places

-- the candidate opened before the other one: in an earlier packet, or in the same at an earlier byte
abbrev pub IsBefore : Cut → Cut → Type 0
IsBefore c d = (c.packet < d.packet) ⊎ ((c.packet ≡ d.packet) × (c.offset < d.offset))

-- the packet of a candidate's place is one of these, and the candidate's first bytes are the packet's from its byte on, up to the
-- end of the shorter of them
pub record StandsThere (packets : List Bytes) (c : Cut) : Type 0 where
  pub packet : Bytes
  pub there : slice_get packets c.packet ≡ Some packet
  pub begins : take (length c.bytes) (drop c.offset packet) ≡ take (PACKET_LENGTH - c.offset) c.bytes

-- Candidates come in the order in which they opened, and stand where their places say. Places within a packet are meant for
-- packets of 188 bytes, which are all that there are; of longer lists of bytes only the order of packets is said.
pub record CutsComeInOrder : Type 0 where
  pub packets_rise : (pid : ℕ) (packets : List Bytes) → AllPairs (λ c d. c.packet ≤ d.packet) (cuts pid packets)
  pub rise : (pid : ℕ) (packets : List Bytes) → All (λ p. length p ≡ PACKET_LENGTH) packets → AllPairs IsBefore (cuts pid packets)
  pub stand : (pid : ℕ) (packets : List Bytes) → All (λ p. length p ≡ PACKET_LENGTH) packets → All (StandsThere packets) (cuts pid packets)
