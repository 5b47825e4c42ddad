-- The frame of long sections (ISO/IEC 13818-1, 2.4.4): table_id; section_syntax_indicator, one bit, two reserved bits and
-- section_length; table_id_extension; two reserved bits, version_number and current_next_indicator; section_number;
-- last_section_number; the body; and the CRC.
use Rattle.std.specs.Prelude.{◌≡◌, ℕ, ◌+◌, ◌*◌, ◌/◌, ◌%◌, ◌-◌, ◌<◌, ◌≤◌, List, [], ◌∷◌, ◌++◌, length, take, drop, slice_index}
use Rattle.oc_bytes.specs.Numbers.{two_bytes, four_bytes, number_of}
use Rattle.section_crc.specs.Crc.{crc_of}
use Rattle.long_section.specs.declared.Header.{Header}

-- a section's fields, its body as a list
pub record Fields : Type 0 where
  -- table_id_extension: transport_stream_id of a PAT, program_number of a PMT, of DSM-CC the low half of a transactionId or
  -- a module's id
  pub extension : ℕ
  pub version : ℕ
  pub number : ℕ
  pub last : ℕ
  pub body : List ℕ

-- the fields of a section with this body
abbrev pub fields_with : Header → List ℕ → Fields
fields_with h body = record {
  extension = h.extension;
  version = h.version;
  number = h.number;
  last = h.last;
  body = body;
}

-- section_length: the bytes after its field
abbrev pub length_of : Fields → ℕ
length_of f = length f.body + 9

-- the bytes of a section before its CRC, with these bits in the fields that reading passes over
abbrev pub prefix_with : (id private reserved version_reserved : ℕ) → Fields → List ℕ
prefix_with id private reserved version_reserved f =
    (id ∷ (128 + 64 * private + 16 * reserved + length_of f / 256) ∷ (length_of f % 256) ∷ [])
    ++ two_bytes f.extension
    ++ ((64 * version_reserved + 2 * f.version + 1) ∷ f.number ∷ f.last ∷ []) ++ f.body

-- fields that have a spelling with at most so many bytes after the length field
pub record Fits (most : ℕ) (f : Fields) : Type 0 where
  pub extension : f.extension < 65536
  pub version : f.version < 32
  pub number : f.number < 256
  pub last : f.last < 256
  pub body : length_of f ≤ most

-- the bytes are a whole section of this table with these fields
pub record IsFrame (most id : ℕ) (bytes : List ℕ) (f : Fields) : Type 0 where
  pub private : ℕ
  pub reserved : ℕ
  pub version_reserved : ℕ
  pub crc : ℕ
  pub bits : (private < 2) × (reserved < 4) × (version_reserved < 4)
  pub fits : Fits most f
  pub whole : bytes ≡ prefix_with id private reserved version_reserved f ++ four_bytes crc
  pub right : crc_of bytes ≡ 0

-- the one spelling: the private bit is 0, and reserved bits are 1
abbrev pub spelling : ℕ → Fields → List ℕ
spelling id f = let front = prefix_with id 0 3 3 f in front ++ four_bytes (crc_of front)

-- the fields that stand in the bytes of a section
abbrev pub fields_of : List ℕ → Fields
fields_of bytes = record {
  extension = number_of (take 2 (drop 3 bytes));
  version = slice_index bytes 5 / 2 % 32;
  number = slice_index bytes 6;
  last = slice_index bytes 7;
  body = take (length bytes - 12) (drop 8 bytes);
}
