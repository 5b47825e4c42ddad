-- Lemmas for those who use this crate: text in parts, one for each item of a list.
pub use Rattle.shell_words.proofs.Parts.{parts_next, parts_all}
