-- The tables that are written. Their numbers are this project's own: transport stream 1, program 1 with its map table on PID 32, no
-- clock, and the carousel on PID 256, with the association tag 0x0001 that the taps of its objects name.
use Rattle.std.specs.Prelude.{ℕ, ◌+◌, List, [], ◌∷◌, ◌++◌}
use Rattle.carousel_profile.specs.declared.TheConstants.{CAROUSEL_PID, COMPONENT_TAG, NULL_PID}
use Rattle.carousel_profile.specs.declared.TheConstants.{PAT_PID, PMT_PID, PROGRAM, STREAM_TYPE, TRANSPORT_STREAM}
use Rattle.oc_bytes.specs.Numbers.{two_bytes, four_bytes}
use Rattle.section_stream.specs.Cuts.{Bytes}
use Rattle.section_stream.specs.Packing.{MuxState, after_finish, idle, last_of, packets_of, past}
use Rattle.psi_tables.specs.declared.tables.PatLine.{PatLine}
use Rattle.long_section.specs.Frames.{Fields, spelling}
use Rattle.psi_tables.specs.Pats.{PatFields, line_bytes}
use Rattle.psi_tables.specs.Pmts.{PmtFields}

abbrev pub written_line : PatLine
written_line = record { program = PROGRAM; pid = PMT_PID }

abbrev pub written_pat_fields : Fields
written_pat_fields = record { extension = TRANSPORT_STREAM; version = 0; number = 0; last = 0; body = line_bytes 7 written_line }

-- the PAT: one section that lists program 1 on PID 32
abbrev pub pat_spelling : Bytes
pat_spelling = spelling 0x00 written_pat_fields

abbrev pub pat_value : PatFields
pat_value = record { stream = TRANSPORT_STREAM; version = 0; number = 0; lines = written_line ∷ [] }

-- the descriptors of the carousel's stream: carousel_identifier_descriptor with the carousel's id and format 0x00, and
-- stream_identifier_descriptor with the component tag 0x01
abbrev pub stream_info : ℕ → Bytes
stream_info carousel = (0x13 ∷ 5 ∷ []) ++ four_bytes carousel ++ (0x00 ∷ 0x52 ∷ 1 ∷ COMPONENT_TAG ∷ [])

-- the PID of the clock 0x1FFF, which is none, and no descriptors of the program; then a stream of type 0x0B on PID 256
abbrev pub written_body : ℕ → Bytes
written_body carousel =
    two_bytes (0xE000 + NULL_PID) ++ two_bytes 0xF000 ++ STREAM_TYPE
    ∷ two_bytes (0xE000 + CAROUSEL_PID) ++ two_bytes 0xF00A ++ stream_info carousel

abbrev pub written_pmt_fields : ℕ → Fields
written_pmt_fields carousel = record { extension = PROGRAM; version = 0; number = 0; last = 0; body = written_body carousel }

-- the map table of program 1
abbrev pub pmt_spelling : ℕ → Bytes
pmt_spelling carousel = spelling 0x02 (written_pmt_fields carousel)

abbrev pub pmt_value : ℕ → PmtFields
pmt_value carousel = record { program = PROGRAM; lines = record { pid = CAROUSEL_PID; carousels = carousel ∷ [] } ∷ [] }

-- ---- the tables as packets

-- the carousel, and the packers of the PIDs 0 and 32
pub record AnnouncerState : Type 0 where
  pub carousel : ℕ
  pub tables : MuxState
  pub maps : MuxState

abbrev pub announcer_start : ℕ → AnnouncerState
announcer_start carousel = record { carousel = carousel; tables = idle PAT_PID 0; maps = idle PMT_PID 0 }

-- a table is a group of its own on its PID
abbrev pub packets_of_table : MuxState → Bytes → List Bytes
packets_of_table m table = packets_of m table ++ last_of (past m table)

abbrev pub past_table : MuxState → Bytes → MuxState
past_table m table = after_finish (past m table)

-- the packets of the PAT, and then those of the map table
abbrev pub announcer_packets : AnnouncerState → List Bytes
announcer_packets a = packets_of_table a.tables pat_spelling ++ packets_of_table a.maps (pmt_spelling a.carousel)

abbrev pub after_announcing : AnnouncerState → AnnouncerState
after_announcing a = record { carousel = a.carousel; tables = past_table a.tables pat_spelling; maps = past_table a.maps (pmt_spelling a.carousel) }
