-- Sections that stand back to back. The length field of a section is its bytes 1 and 2 without their first four bits
-- (ISO/IEC 13818-6, the DSM-CC section), and counts the bytes that follow it.
pub use Rattle.section_stream.specs.Cuts.{Bytes, back_to_back_in, back_to_back}
