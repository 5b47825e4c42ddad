-- The first fault of what stands round the lines of a table's section, which is a long section of at most 1,024 bytes (ISO/IEC
-- 13818-1, 2.4.4.3 and 2.4.4.8).
use Rattle.std.specs.Prelude.{ℕ, ◌+◌, ◌-◌, ◌%◌, List, length, slice_index, Option, Some, None, Bool, nat_lt, nat_le, ◌==◌, not, ◌||◌, ◌&&◌, if◌then◌else◌}
use Rattle.oc_bytes.specs.Numbers.{section_length}
use Rattle.section_crc.specs.Crc.{crc_of}
use Rattle.psi_tables.specs.declared.tables.PsiFault.{PsiFault}
use Rattle.psi_tables.specs.declared.tables.PsiFault.TheVariants as faults
use Rattle.psi_tables.specs.declared.frame.TheConstants.{MOST_LENGTH}

-- the length field is the number of the bytes after it, and within its limit
abbrev pub is_counted : List ℕ → Bool
is_counted bytes = nat_le (section_length bytes) MOST_LENGTH && (length bytes == section_length bytes + 3)

-- table_id is cut or another one
abbrev pub other_table : ℕ → List ℕ → Bool
other_table id bytes = (length bytes == 0) || not (slice_index bytes 0 == id)

-- section_syntax_indicator is 0, or section_length is cut or wrong
abbrev pub wrong_length : List ℕ → Bool
wrong_length bytes = nat_lt (length bytes) 3 || nat_lt (slice_index bytes 1) 128 || not (is_counted bytes)

-- current_next_indicator is cut or 0
abbrev pub not_current : List ℕ → Bool
not_current bytes = nat_lt (length bytes) 6 || (slice_index bytes 5 % 2 == 0)

-- the place of the first field before the body that breaks its rule or is cut
abbrev pub header_fault : ℕ → List ℕ → Option ℕ
header_fault id bytes =
    if other_table id bytes then Some 0
    else (if wrong_length bytes then Some 1
    else (if nat_lt (length bytes) 5 then Some 3
    else (if not_current bytes then Some 5
    else (if nat_lt (length bytes) 7 then Some 6
    else (if nat_lt (length bytes) 8 then Some 7
    else (if nat_lt (length bytes) 12 then Some 8
    else None))))))

-- the CRC is wrong: its place
abbrev pub crc_fault : List ℕ → Option ℕ
crc_fault bytes = if crc_of bytes == 0 then None else Some (length bytes - 4)

-- the first of two faults
abbrev pub or_else : Option ℕ → Option ℕ → Option ℕ
or_else (Some place) other = Some place
or_else None other = other

abbrev pub cause : PsiFault → Option ℕ
cause (faults.NotPsi place) = Some place
cause faults.NoMemory = None
