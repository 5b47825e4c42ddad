use Rattle.long_section.proofs.Frames.{frame_passes, frame_fields, spelling_is_frame}
use Rattle.long_section.proofs.frames_are_read.Goals as goal

pub returns-clause-spelled : goal.returns-clause-spelled
returns-clause-spelled c = spelling_is_frame

pub returns-clause-read : goal.returns-clause-read
returns-clause-read c = frame_fields

pub returns-clause-counted : goal.returns-clause-counted
returns-clause-counted c = λ most id bytes f le s. let p = frame_passes most id bytes f le s in (p.within, p.counted)
