-- The packets of groups of sections that stand back to back (ISO/IEC 13818-1, 2.4.4). That a section follows another one in the same
-- packet within a group alone is this project's own rule.
use Rattle.std.specs.Prelude.{◌≡◌, ◌≤◌, ◌⊎◌, ℕ, zero, suc, ◌+◌, ◌-◌, ◌%◌, ◌<◌, Bool, true, false, ◌&&◌, ◌||◌, List, [], ◌∷◌, ◌++◌, length, map, take, drop, nat_le, nat_lt, ◌==◌, if◌then◌else◌}
use Rattle.std.specs.List.{All, flat_map, fold, sum_by}
use Rattle.ts_packet.specs.Packets.{packet_bytes}
use Rattle.section_stream.specs.Cuts.{Bytes, candidates, cuts}
use Rattle.section_stream.specs.Packing.{MuxState, IsSectionLike, with_stuffing, idle, is_none, packets_of_all, past, last_of, after_finish}

-- what goes into the room of a packet, what isn't sent yet of the section that was begun last, the sections after it, and the bytes of
-- the packet at which sections begin
pub record Filling : Type 0 where
  pub bytes : Bytes
  pub begun : Bytes
  pub rest : List Bytes
  pub offsets : List ℕ

-- `at` is the byte of the packet at which the room begins
abbrev pub fill : ℕ → ℕ → List Bytes → Filling
fill at room [] = record { bytes = []; begun = []; rest = []; offsets = [] }
fill at room (s ∷ ss) =
    if room == 0 then record { bytes = []; begun = []; rest = s ∷ ss; offsets = [] }
    else (if nat_le (length s) room then onto at s (fill (at + length s) (room - length s) ss)
    else record { bytes = take room s; begun = drop room s; rest = ss; offsets = at ∷ [] }) where
      onto : ℕ → Bytes → Filling → Filling
      onto at s f = record { bytes = s ++ f.bytes; begun = f.begun; rest = f.rest; offsets = at ∷ f.offsets }

-- one packet of a group: whether a section begins in it, the bytes that stand in its payload before the stuffing, and what is left
pub record Laid : Type 0 where
  pub start : Bool
  pub bytes : Bytes
  pub begun : Bytes
  pub rest : List Bytes
  pub offsets : List ℕ

abbrev pub with_start : Bytes → Filling → Laid
with_start begun f = record { start = true; bytes = length begun ∷ begun ++ f.bytes; begun = f.begun; rest = f.rest; offsets = f.offsets }

abbrev pub lay_packet : Bytes → List Bytes → Laid
lay_packet begun rest =
    if nat_le 184 (length begun) then record { start = false; bytes = take 184 begun; begun = drop 184 begun; rest = rest; offsets = [] }
    else (if (length begun == 183) || (nat_lt 0 (length begun) && is_none rest) then record { start = false; bytes = begun; begun = []; rest = rest; offsets = [] }
    else with_start begun (fill (5 + length begun) (183 - length begun) rest))

-- nothing of the group is left
abbrev pub is_done : Bytes → List Bytes → Bool
is_done begun rest = is_none begun && is_none rest

abbrev pub layout_from : ℕ → Bytes → List Bytes → List Laid
layout_from zero begun rest = []
layout_from (suc steps) begun rest =
    if is_done begun rest then [] else lay_packet begun rest ∷ layout_from steps (lay_packet begun rest).begun (lay_packet begun rest).rest

-- a group, packet by packet: each packet takes at least a byte of it
abbrev pub layout_of : List Bytes → List Laid
layout_of group = layout_from (sum_by length group) [] group

abbrev pub packets_from : ℕ → ℕ → List Laid → List Bytes
packets_from pid counter [] = []
packets_from pid counter (l ∷ ls) = packet_bytes pid l.start counter (with_stuffing l.bytes) ∷ packets_from pid ((counter + 1) % 16) ls

abbrev pub packets_of_group : MuxState → List Bytes → List Bytes
packets_of_group m group = packets_from m.pid m.counter (layout_of group)

abbrev pub past_group : MuxState → List Bytes → MuxState
past_group m group = idle m.pid ((m.counter + length (layout_of group)) % 16)

abbrev pub packets_of_groups : MuxState → List (List Bytes) → List Bytes
packets_of_groups m [] = []
packets_of_groups m (g ∷ gs) = packets_of_group m g ++ packets_of_groups (past_group m g) gs

abbrev pub places_in : ℕ → List Laid → List (ℕ × ℕ)
places_in n [] = []
places_in n (l ∷ ls) = map (λ o. (n, o)) l.offsets ++ places_in (n + 1) ls

-- where each section begins: the number of its packet, and the byte of that packet
abbrev pub starts_from : ℕ → List (List Bytes) → List (ℕ × ℕ)
starts_from n [] = []
starts_from n (g ∷ gs) = places_in n (layout_of g) ++ starts_from (n + length (layout_of g)) gs

abbrev pub starts : List (List Bytes) → List (ℕ × ℕ)
starts groups = starts_from 0 groups

-- the cuts of all packets of a list of groups, unbroken and with nothing before them, are their sections, group after group
abbrev pub PacketsGiveTheGroups : Type 0
PacketsGiveTheGroups = (m : MuxState) (groups : List (List Bytes)) → m.pid < 8192 → m.counter < 16 → All (All IsSectionLike) groups
    → candidates m.pid (packets_of_groups m groups) ≡ flat_map (λ g. g) groups

-- and each of these cuts opens where its section begins
abbrev pub GroupsOpenAtTheirStarts : Type 0
GroupsOpenAtTheirStarts = (m : MuxState) (groups : List (List Bytes)) → m.pid < 8192 → m.counter < 16 → All (All IsSectionLike) groups
    → map (λ c. (c.packet, c.offset)) (cuts m.pid (packets_of_groups m groups)) ≡ starts groups

-- Whatever came before: after the packets of some groups those of others, unbroken, give the sections of these others, as the last
-- candidates. Where the first of all these packets repeats the one before it, only the first groups can suffer.
abbrev pub LaterGroupsAreGiven : Type 0
LaterGroupsAreGiven = (m : MuxState) (before : List Bytes) (first second : List (List Bytes)) → m.pid < 8192 → m.counter < 16 → 0 < length (packets_of_groups m first)
    → All (All IsSectionLike) second
    → (earlier : List Bytes) × (candidates m.pid ((before ++ packets_of_groups m first) ++ packets_of_groups (fold past_group m first) second) ≡ earlier ++ flat_map (λ g. g) second)

-- places from packet n and its byte o on, each in a later packet than the one before it or at a later byte of the same
abbrev pub Rise : ℕ → ℕ → List (ℕ × ℕ) → Type 0
Rise n o [] = Unit {0}
Rise n o (p ∷ ps) = ((n < p.0) ⊎ ((p.0 ≡ n) × (o ≤ p.1))) × Rise p.0 (p.1 + 1) ps

abbrev pub StartsRise : Type 0
StartsRise = (groups : List (List Bytes)) → All (All IsSectionLike) groups → Rise 0 0 (starts groups)

-- no group is under way: nothing is held back
pub record IsBetween (m : MuxState) : Type 0 where
  pub tail : m.tail ≡ []
  pub body : m.body ≡ []
  pub counter : m.counter < 16

-- then the packets that the sections of a group give and the one that its end gives are the group's
abbrev pub CallsGiveTheGroup : Type 0
CallsGiveTheGroup = (m : MuxState) (group : List Bytes) → IsBetween m → All IsSectionLike group
    → (packets_of_all m group ++ last_of (fold past m group) ≡ packets_of_group m group) × (after_finish (fold past m group) ≡ past_group m group)
