-- Lemmas for those who use this crate: the test of two answers is true exactly where they are equal.
pub use Rattle.path_resolver.proofs.Alike.{tells_equal, same_answer-refl}
