-- How sections are packed back to back, one after another (ISO/IEC 13818-1, 2.4.4): each packet is given as soon as no further section can
-- change it, and what isn't given yet is held back. That a section follows another one in the same packet within a group alone, and that a
-- packet with one free byte is filled rather than begun with a pointer field, are this project's own rules.
use Rattle.std.specs.Prelude.{◌≡◌, ℕ, zero, suc, ◌+◌, ◌-◌, ◌%◌, ◌≤◌, ◌≢◌, Bool, true, false, List, [], ◌∷◌, ◌++◌, length, take, drop, replicate, slice_index, nat_le, nat_lt, ◌==◌, if◌then◌else◌}
use Rattle.ts_packet.specs.Packets.{packet_bytes}
use Rattle.section_stream.specs.Cuts.{Bytes}
use Rattle.oc_bytes.specs.declared.lengths.TheConstants.{MOST_SECTION}
use Rattle.oc_bytes.specs.Numbers.{section_length}

-- the PID, the counter of the next packet, the bytes left of a section that was begun in packets already given, and the bytes of the
-- sections that begin in the packet under way
pub record MuxState : Type 0 where
  pub pid : ℕ
  pub counter : ℕ
  pub tail : Bytes
  pub body : Bytes

-- nothing is held back
abbrev pub idle : ℕ → ℕ → MuxState
idle pid counter = record { pid = pid; counter = counter; tail = []; body = [] }

-- 12 bytes at least and those of a section at most, of which the second and third say how many follow them, and which don't begin as
-- stuffing does
pub record IsSectionLike (section : Bytes) : Type 0 where
  pub size : (12 ≤ length section) × (length section ≤ MOST_SECTION)
  pub length_field : section_length section + 3 ≡ length section
  pub first : slice_index section 0 ≢ 0xFF

-- a payload with stuffing after these bytes
abbrev pub with_stuffing : Bytes → Bytes
with_stuffing piece = piece ++ replicate (184 - length piece) 0xFF

abbrev pub is_none : {A : Type 0} → List A → Bool
is_none [] = true
is_none (x ∷ xs) = false

-- what is held back
pub record Back : Type 0 where
  pub tail : Bytes
  pub body : Bytes

-- what a section more leaves: the packets that are given, each with whether a section begins in it and its bytes before the stuffing, and
-- what is held back then
pub record Held : Type 0 where
  pub given : List (Bool × Bytes)
  pub tail : Bytes
  pub body : Bytes

abbrev pub give : Bool × Bytes → Held → Held
give p h = record { given = p ∷ h.given; tail = h.tail; body = h.body }

-- what is left of a begun section: packets that it fills, and one that 183 bytes end, are given
abbrev pub send_begun : ℕ → Bytes → Held
send_begun zero begun = record { given = []; tail = begun; body = [] }
send_begun (suc steps) begun =
    if nat_le 184 (length begun) then give (false, take 184 begun) (send_begun steps (drop 184 begun))
    else (if length begun == 183 then record { given = (false, begun) ∷ []; tail = []; body = [] } else record { given = []; tail = begun; body = [] })

unfoldable pub sent_of : Bytes → Held
sent_of begun = send_begun (suc (length begun)) begun

-- one section more: it is held back where it leaves room in the packet under way, and else that packet is given
abbrev pub put : Bytes → Bytes → Bytes → Held
put tail body s =
    let room = 183 - (length tail + length body) in
    if nat_lt (length s) room then record { given = []; tail = tail; body = body ++ s }
    else give (true, length tail ∷ (tail ++ (body ++ take room s))) (sent_of (drop room s))

-- the group ends
abbrev pub end_packets : Bytes → Bytes → List (Bool × Bytes)
end_packets tail body = if is_none body then (if is_none tail then [] else (false, tail) ∷ []) else (true, length tail ∷ (tail ++ body)) ∷ []

-- packets one after another, with counters that go on
abbrev pub number_packets : ℕ → ℕ → List (Bool × Bytes) → List Bytes
number_packets pid counter [] = []
number_packets pid counter (p ∷ ps) = packet_bytes pid p.0 counter (with_stuffing p.1) ∷ number_packets pid ((counter + 1) % 16) ps

-- the packets that a section gives, and what is held back after it
abbrev pub packets_of : MuxState → Bytes → List Bytes
packets_of m section = number_packets m.pid m.counter (put m.tail m.body section).given

abbrev pub past : MuxState → Bytes → MuxState
past m section = record {
  pid = m.pid;
  counter = (m.counter + length (put m.tail m.body section).given) % 16;
  tail = (put m.tail m.body section).tail;
  body = (put m.tail m.body section).body;
}

-- the packets that sections give, one after another
abbrev pub packets_of_all : MuxState → List Bytes → List Bytes
packets_of_all m [] = []
packets_of_all m (s ∷ ss) = packets_of m s ++ packets_of_all (past m s) ss

-- the packet that a group's end gives, where something is held back
abbrev pub last_of : MuxState → List Bytes
last_of m = number_packets m.pid m.counter (end_packets m.tail m.body)

abbrev pub after_finish : MuxState → MuxState
after_finish m = idle m.pid ((m.counter + length (end_packets m.tail m.body)) % 16)
