use Rattle.std.proofs.Common.{refl}
use Rattle.section_stream.proofs.Pieces.{candidates-push}
use Rattle.section_stream.proofs.payload.complete.Goals as goal

-- the section is the last of the candidates
pub returns : goal.returns
returns c = candidates-push _ _ _ _ c.in_ok-push.ensures.items (rw (c.in_ok-extend_from_slice.ensures.items, c.in_ok-section.ensures.items) refl)
