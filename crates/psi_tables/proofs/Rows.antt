-- The written tables against their bytes, byte for byte, and small tables with each place of a fault.
use Rattle.std.specs.Prelude.{◌≡◌, [], ◌∷◌, Some, refl}
use Rattle.long_section.specs.Frames.{prefix_with}
use Rattle.psi_tables.specs.Frames.{header_fault}
use Rattle.psi_tables.specs.Pats.{lines_fault}
use Rattle.psi_tables.specs.Pmts.{body_fault, carousels_in}
use Rattle.psi_tables.specs.Written.{written_pat_fields, written_pmt_fields}

pat_bytes : prefix_with 0x00 0 3 3 written_pat_fields ≡ 0x00 ∷ 0xB0 ∷ 0x0D ∷ 0x00 ∷ 0x01 ∷ 0xC1 ∷ 0x00 ∷ 0x00 ∷ 0x00 ∷ 0x01 ∷ 0xE0 ∷ 0x20 ∷ []
pat_bytes = refl

pmt_bytes : prefix_with 0x02 0 3 3 (written_pmt_fields 0x12345678) ≡ 0x02 ∷ 0xB0 ∷ 0x1C ∷ 0x00 ∷ 0x01 ∷ 0xC1 ∷ 0x00 ∷ 0x00 ∷ 0xFF ∷ 0xFF ∷ 0xF0 ∷ 0x00 ∷ 0x0B ∷ 0xE1 ∷ 0x00 ∷ 0xF0 ∷ 0x0A ∷ 0x13 ∷ 0x05
    ∷ 0x12 ∷ 0x34 ∷ 0x56 ∷ 0x78 ∷ 0x00 ∷ 0x52 ∷ 0x01 ∷ 0x01 ∷ []
pmt_bytes = refl

-- a descriptor that runs past the end is passed over, and so is one of three bytes; each other one of tag 0x13 counts
names_two : carousels_in (0x13 ∷ 4 ∷ 0 ∷ 0 ∷ 0 ∷ 7 ∷ 0x13 ∷ 3 ∷ 0 ∷ 0 ∷ 9 ∷ 0x52 ∷ 1 ∷ 1 ∷ 0x13 ∷ 5 ∷ 0 ∷ 0 ∷ 1 ∷ 0 ∷ 9 ∷ 0x13 ∷ 4 ∷ 0 ∷ 0 ∷ 1 ∷ []) ≡ 7 ∷ 256 ∷ []
names_two = refl

nothing_reads : header_fault 0x00 [] ≡ Some 0
nothing_reads = refl

no_syntax : header_fault 0x00 (0x00 ∷ 0x30 ∷ 0x0D ∷ []) ≡ Some 1
no_syntax = refl

a_line_too_short : lines_fault (0 ∷ 1 ∷ 0xE0 ∷ 0x20 ∷ 0 ∷ 2 ∷ []) ≡ Some 12
a_line_too_short = refl

-- a stream of five bytes whose descriptors are cut, and one whose five bytes are
cut_descriptors : body_fault (0xFF ∷ 0xFF ∷ 0xF0 ∷ 0 ∷ 0x0B ∷ 0xE1 ∷ 0 ∷ 0xF0 ∷ 0x0A ∷ 0x13 ∷ []) ≡ Some 17
cut_descriptors = refl

cut_stream : body_fault (0xFF ∷ 0xFF ∷ 0xF0 ∷ 0 ∷ 0x0B ∷ 0xE1 ∷ []) ≡ Some 12
cut_stream = refl

cut_program_info : body_fault (0xFF ∷ 0xFF ∷ 0xF0 ∷ 1 ∷ []) ≡ Some 12
cut_program_info = refl
