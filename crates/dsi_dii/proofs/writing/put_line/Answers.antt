use Rattle.std.proofs.Common.{append_assoc}
use Rattle.dsi_dii.proofs.writing.put_line.Goals as goal

pub returns-clause-bytes : goal.returns-clause-bytes
returns-clause-bytes c =
    rw (c.in_ok-put_bytes-2.ensures.ok, c.in_ok-put_bytes.ensures.ok)
    (rw (c.in_ok-put_u32.ensures.ok, c.in_ok-put_u16.ensures.ok) (simp append_assoc))
