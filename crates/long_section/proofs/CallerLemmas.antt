-- What crates above may cite: bytes that pass each test are a frame, and the other way round.
pub use Rattle.long_section.proofs.Frames.{AreBytes, Passes, is_frame, frame_passes, frame_fields, spelling_is_frame, spelling_size, body_bytes}
