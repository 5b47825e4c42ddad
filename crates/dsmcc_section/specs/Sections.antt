-- Sections: what is read, the one spelling, and the first skip.
use Rattle.std.specs.Prelude.{◌≡◌, ◌≢◌, ℕ, ◌+◌, ◌%◌, ◌≤◌, List, length, slice_index, Option, Some, None, Result, Ok, Err, nat_lt, ◌==◌, not, ◌||◌, ◌&&◌, if◌then◌else◌}
use Rattle.oc_bytes.specs.Numbers.{section_length}
use Rattle.section_crc.specs.Crc.{crc_of}
use Rattle.long_section.specs.Frames as frames
use Rattle.dsmcc_section.specs.declared.Table.{Table}
use Rattle.dsmcc_section.specs.declared.Table.TheVariants.{Control, Blocks}
use Rattle.dsmcc_section.specs.declared.Section.{Section}
use Rattle.dsmcc_section.specs.declared.Header.{Header}
use Rattle.dsmcc_section.specs.declared.Skip.{Skip}
use Rattle.dsmcc_section.specs.declared.Skip.TheVariants as skips
use Rattle.dsmcc_section.specs.declared.SectionFault.{SectionFault}
use Rattle.dsmcc_section.specs.declared.SectionFault.TheVariants as faults
use Rattle.oc_bytes.specs.declared.lengths.TheConstants.{MOST_LENGTH, MOST_SECTION}

-- a section's fields, its payload as a list
pub record Fields : Type 0 where
  pub table : Table
  pub extension : ℕ
  pub version : ℕ
  pub number : ℕ
  pub last : ℕ
  pub payload : List ℕ

abbrev pub view : Section → Fields
view s = record { table = s.table; extension = s.extension; version = s.version; number = s.number; last = s.last; payload = s.payload.items }

-- the fields of a section with this payload
abbrev pub fields_with : Header → List ℕ → Fields
fields_with h payload = record { table = h.table; extension = h.extension; version = h.version; number = h.number; last = h.last; payload = payload }

abbrev pub table_id : Table → ℕ
table_id Control = 0x3B
table_id Blocks = 0x3C

-- the table that has this table_id
abbrev pub table_with : ℕ → Result Table Skip
table_with id = if id == 0x3B then Ok Control else (if id == 0x3C then Ok Blocks else Err skips.OtherTable)

-- what stands in the frame of a section
abbrev pub frame : Fields → frames.Fields
frame s = record {
  extension = s.extension;
  version = s.version;
  number = s.number;
  last = s.last;
  body = s.payload;
}

-- fields that have a spelling
abbrev pub Fits : Fields → Type 0
Fits s = frames.Fits MOST_LENGTH (frame s)

-- the bytes are read as the section
abbrev pub Reads : List ℕ → Fields → Type 0
Reads bytes s = frames.IsFrame MOST_LENGTH (table_id s.table) bytes (frame s)

-- the one spelling
abbrev pub spelling : Fields → List ℕ
spelling s = frames.spelling (table_id s.table) (frame s)

-- the bytes of the spelling before the CRC
abbrev pub before_crc : Fields → List ℕ
before_crc s = frames.prefix_with (table_id s.table) 0 3 3 (frame s)

-- the fields of a section of this table that takes all of the bytes
abbrev pub fields_of : Table → List ℕ → Fields
fields_of table bytes =
    let f = frames.fields_of bytes in
    record {
      table = table;
      extension = f.extension;
      version = f.version;
      number = f.number;
      last = f.last;
      payload = f.body;
    }

-- a frame that a stream of sections can be cut by: its length field counts the bytes after it, and it doesn't begin with stuffing
pub record IsFramed (bytes : List ℕ) : Type 0 where
  pub least : 12 ≤ length bytes
  pub most : length bytes ≤ MOST_SECTION
  pub counted : length bytes ≡ section_length bytes + 3
  pub begins : slice_index bytes 0 ≢ 0xFF

-- what reading gives: the fields, or the first skip that holds
abbrev pub read : List ℕ → Result Fields Skip
read bytes =
    if nat_lt (length bytes) 12 then Err skips.Short
    else (if nat_lt MOST_LENGTH (section_length bytes) || not (length bytes == section_length bytes + 3) then Err skips.Length
    else (if not (slice_index bytes 0 == 0x3B) && not (slice_index bytes 0 == 0x3C) then Err skips.OtherTable
    else (if nat_lt (slice_index bytes 1) 128 then Err skips.NoSyntax
    else (if slice_index bytes 5 % 2 == 0 then Err skips.NotCurrent
    else (if not (crc_of bytes == 0) then Err skips.BadCrc
    else Ok (fields_of (if slice_index bytes 0 == 0x3B then Control else Blocks) bytes))))))

abbrev pub cause : SectionFault → Option Skip
cause (faults.Skip skip) = Some skip
cause faults.NoMemory = None
