-- Lemmas for those who use this crate.
-- How many bytes a folder's spelling has, and that a folder that isn't too large is read back.
pub use Rattle.biop_object.proofs.Spellings.{folder_length, folder_spellable}
-- What is spelled of bytes are bytes.
pub use Rattle.biop_object.proofs.Octets.{four_octets, flat_octets, file_octets, folder_octets}
