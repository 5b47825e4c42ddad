-- Sections of the program association table (ISO/IEC 13818-1, 2.4.4.3): table_id 0x00, and lines of a program's number in 16
-- bits, three reserved bits and a PID of 13.
use Rattle.std.specs.Prelude.{◌≡◌, ℕ, ◌+◌, ◌*◌, ◌/◌, ◌%◌, ◌<◌, List, [], ◌∷◌, ◌++◌, length, Option, Some, None, Result, Ok, Err, ◌==◌, if◌then◌else◌}
use Rattle.oc_bytes.specs.Numbers.{two_bytes}
use Rattle.psi_tables.specs.declared.tables.PatLine.{PatLine}
use Rattle.psi_tables.specs.declared.tables.Pat.{Pat}
use Rattle.long_section.specs.Frames.{Fields, IsFrame, fields_of}
use Rattle.psi_tables.specs.declared.frame.TheConstants.{MOST_LENGTH}
use Rattle.psi_tables.specs.Frames.{header_fault, crc_fault, or_else}

pub record PatFields : Type 0 where
  pub stream : ℕ
  pub version : ℕ
  pub number : ℕ
  pub lines : List PatLine

abbrev pub view_pat : Pat → PatFields
view_pat p = record { stream = p.stream; version = p.version; number = p.number; lines = p.lines.items }

-- the bytes of a line, with these bits in its reserved field
abbrev pub line_bytes : ℕ → PatLine → List ℕ
line_bytes reserved l = two_bytes l.program ++ two_bytes (8192 * reserved + l.pid)

pub record ReadsLine (bytes : List ℕ) (l : PatLine) : Type 0 where
  pub reserved : ℕ
  pub ranges : (l.program < 65536) × (l.pid < 8192) × (reserved < 8)
  pub whole : bytes ≡ line_bytes reserved l

-- the bytes are these lines one after another
abbrev pub ReadsLines : List ℕ → List PatLine → Type 0
ReadsLines bytes [] = bytes ≡ []
ReadsLines bytes (l ∷ ls) = (front : List ℕ) × (rest : List ℕ) × (bytes ≡ front ++ rest) × ReadsLine front l × ReadsLines rest ls

-- the bytes are read as the section; last_section_number is any
pub record ReadsPat (bytes : List ℕ) (p : PatFields) : Type 0 where
  pub last : ℕ
  pub body : List ℕ
  pub section : IsFrame MOST_LENGTH 0x00 bytes (record { extension = p.stream; version = p.version; number = p.number; last = last; body = body })
  pub lines : ReadsLines body p.lines

-- ---- reading from left to right

abbrev pub line_of : (a b c d : ℕ) → PatLine
line_of a b c d = record { program = a * 256 + b; pid = c % 32 * 256 + d }

-- the lines at the front of these bytes, one after another
abbrev pub lines_in : List ℕ → List PatLine
lines_in (a ∷ b ∷ c ∷ d ∷ rest) = line_of a b c d ∷ lines_in rest
lines_in _ = []

-- a line that doesn't fit: the body is no whole number of lines
abbrev pub lines_fault : List ℕ → Option ℕ
lines_fault body = if length body % 4 == 0 then None else Some (8 + length body / 4 * 4)

abbrev pub pat_fault : List ℕ → Option ℕ
pat_fault bytes = or_else (header_fault 0x00 bytes) (or_else (lines_fault (fields_of bytes).body) (crc_fault bytes))

abbrev pub pat_of : Fields → PatFields
pat_of f = record { stream = f.extension; version = f.version; number = f.number; lines = lines_in f.body }

abbrev pub ok_unless : {A : Type 0} → Option ℕ → A → Result A ℕ
ok_unless (Some place) x = Err place
ok_unless None x = Ok x

-- what reading gives: the section, or the place of the first field that breaks its rule or is cut
abbrev pub read_pat : List ℕ → Result PatFields ℕ
read_pat bytes = ok_unless (pat_fault bytes) (pat_of (fields_of bytes))
