-- Sections of a program's map table (ISO/IEC 13818-1, 2.4.4.8): table_id 0x02; three reserved bits and the PID of the program's
-- clock, four reserved bits and the length of the program's descriptors, these; and the program's streams.
use Rattle.std.specs.Prelude.{◌≡◌, ℕ, ◌+◌, ◌-◌, ◌*◌, ◌%◌, ◌<◌, List, [], ◌∷◌, ◌++◌, length, map, take, drop, slice_index, Option, Some, None, Result, nat_lt, nat_le, ◌==◌, ◌&&◌, if◌then◌else◌}
use Rattle.std.specs.List.{filter, filter_map}
use Rattle.oc_bytes.specs.Numbers.{two_bytes, number_of}
use Rattle.carousel_profile.specs.declared.TheConstants.{STREAM_TYPE}
use Rattle.oc_bytes.specs.Descriptors.{run, descriptors_in}
use Rattle.psi_tables.specs.declared.tables.PmtLine.{PmtLine}
use Rattle.psi_tables.specs.declared.tables.Pmt.{Pmt}
use Rattle.long_section.specs.Frames.{Fields, IsFrame, fields_of}
use Rattle.psi_tables.specs.declared.frame.TheConstants.{MOST_LENGTH}
use Rattle.psi_tables.specs.Frames.{header_fault, crc_fault, or_else}
use Rattle.psi_tables.specs.Pats.{ok_unless}

-- a stream of type 0x0B, and the carousels that it names
pub record LineFields : Type 0 where
  pub pid : ℕ
  pub carousels : List ℕ

pub record PmtFields : Type 0 where
  pub program : ℕ
  pub lines : List LineFields

abbrev pub view_line : PmtLine → LineFields
view_line l = record { pid = l.pid; carousels = l.carousels.items }

abbrev pub view_pmt : Pmt → PmtFields
view_pmt p = record { program = p.program; lines = map view_line p.lines.items }

-- ---- descriptors

-- the carousel that a descriptor names: carousel_identifier_descriptor (ISO/IEC 13818-6, 11.5.1) has tag 0x13, and begins with the
-- carousel's id
abbrev pub carousel_of : ℕ × List ℕ → Option ℕ
carousel_of d = if (d.0 == 0x13) && nat_le 4 (length d.1) then Some (number_of (take 4 d.1)) else None

-- the carousels that a stream's descriptors name; a descriptor that runs past their end is passed over
abbrev pub carousels_in : List ℕ → List ℕ
carousels_in info = filter_map carousel_of (descriptors_in info)

-- ---- streams

-- a stream's type, PID and descriptors
pub record Stream : Type 0 where
  pub kind : ℕ
  pub pid : ℕ
  pub info : List ℕ

pub record ReadsStream (bytes : List ℕ) (s : Stream) : Type 0 where
  pub reserved : ℕ
  pub info_reserved : ℕ
  pub ranges : (s.kind < 256) × (s.pid < 8192) × (length s.info < 4096) × (reserved < 8) × (info_reserved < 16)
  pub whole : bytes ≡ s.kind ∷ two_bytes (8192 * reserved + s.pid) ++ two_bytes (4096 * info_reserved + length s.info) ++ s.info

-- the bytes are these streams one after another
abbrev pub ReadsStreams : List ℕ → List Stream → Type 0
ReadsStreams bytes [] = bytes ≡ []
ReadsStreams bytes (s ∷ ss) = (front : List ℕ) × (rest : List ℕ) × (bytes ≡ front ++ rest) × ReadsStream front s × ReadsStreams rest ss

-- the streams of type 0x0B
abbrev pub lines_of : List Stream → List LineFields
lines_of streams = map (λ s. record { pid = s.pid; carousels = carousels_in s.info }) (filter (λ s. s.kind == STREAM_TYPE) streams)

-- the body is read as the streams; the PID of the clock and the program's descriptors are any
pub record ReadsBody (body : List ℕ) (streams : List Stream) : Type 0 where
  pub clock : ℕ
  pub info_reserved : ℕ
  pub info : List ℕ
  pub rest : List ℕ
  pub ranges : (clock < 65536) × (info_reserved < 16) × (length info < 4096)
  pub whole : body ≡ two_bytes clock ++ two_bytes (4096 * info_reserved + length info) ++ info ++ rest
  pub each : ReadsStreams rest streams

-- the bytes are read as the table; its version and its section's numbers are any
pub record ReadsPmt (bytes : List ℕ) (p : PmtFields) : Type 0 where
  pub fields : Fields
  pub streams : List Stream
  pub section : IsFrame MOST_LENGTH 0x02 bytes fields
  pub body : ReadsBody fields.body streams
  pub program : p.program ≡ fields.extension
  pub lines : p.lines ≡ lines_of streams

-- ---- reading from left to right

-- the stream that stands whole at the front
abbrev pub next_stream : List ℕ → Option (Stream × List ℕ)
next_stream (kind ∷ a ∷ b ∷ c ∷ d ∷ bytes) =
    let n = c % 16 * 256 + d in
    if nat_le n (length bytes) then Some (record { kind = kind; pid = a % 32 * 256 + b; info = take n bytes }, drop n bytes) else None
next_stream _ = None

abbrev pub info_length : List ℕ → ℕ
info_length body = slice_index body 2 % 16 * 256 + slice_index body 3

abbrev pub stream_bytes : List ℕ → List ℕ
stream_bytes body = drop (4 + info_length body) body

abbrev pub streams_run : List ℕ → List Stream × List ℕ
streams_run bytes = run next_stream (length bytes) bytes

-- what is left after the last stream: the place of a stream that is cut, or of its descriptors
abbrev pub left_fault : (size : ℕ) → List ℕ → Option ℕ
left_fault size left = if length left == 0 then None else Some (8 + size - length left + (if nat_lt (length left) 5 then 0 else 5))

abbrev pub body_fault : List ℕ → Option ℕ
body_fault body =
    if nat_lt (length body) 2 then Some 8
    else (if nat_lt (length body) 4 then Some 10
    else (if nat_lt (length body) (4 + info_length body) then Some 12
    else left_fault (length body) (streams_run (stream_bytes body)).1))

abbrev pub pmt_fault : List ℕ → Option ℕ
pmt_fault bytes = or_else (header_fault 0x02 bytes) (or_else (body_fault (fields_of bytes).body) (crc_fault bytes))

abbrev pub pmt_of : Fields → PmtFields
pmt_of f = record { program = f.extension; lines = lines_of (streams_run (stream_bytes f.body)).0 }

-- what reading gives: the table, or the place of the first field that breaks its rule or is cut
abbrev pub read_pmt : List ℕ → Result PmtFields ℕ
read_pmt bytes = ok_unless (pmt_fault bytes) (pmt_of (fields_of bytes))
