use Rattle.std.proofs.Common.{◌≡◌, ◌+◌, length, ap, arith, refl}
use Rattle.ddb_block.specs.Message.{message}
use Rattle.dsi_dii.specs.Controls.{view_dsi, dsi_body}
use Rattle.dsi_dii.proofs.Spelled.{dsi_body_length, dsi_spelled}
use Rattle.dsi_dii.proofs.writing.encode_dsi.Goals as goal

spelled : (c : goal.After-drop-reference-2)
    → c.done.result.items ≡ message 0x1006 c.args.dsi.now.transaction.0 (dsi_body c.in_ok-reference.reference.items)
spelled c =
    let reference = c.in_ok-reference.reference.items in
    let size : c.len-size.result ≡ length reference = omega (arith, ap length c.deref.ensures.value) in
    let body : 28 + c.len-size.result ≡ length (dsi_body reference) = omega (arith, size, dsi_body_length reference) in
    rw (c.done.ensures, c.in_ok-put_u32.ensures.ok, c.in_ok-put_bytes-2.ensures.ok, c.deref.ensures.value)
    (rw (c.in_ok-put_u16-2.ensures.ok, c.in_ok-put_u16.ensures.ok, c.in_ok-put_bytes.ensures.ok)
    (rw (c.in_ok-put_header.ensures.bytes, c.new-writer.ensures, body, size) refl))

pub returns-clause-spells : goal.returns-clause-spells
returns-clause-spells c = λ l h. rw (spelled c, c.in_ok-reference.ensures.spells l h) refl

pub returns-clause-reads : goal.returns-clause-reads
returns-clause-reads c =
    let d = view_dsi c.args.dsi.now in
    let from = c.in_ok-reference in
    let transaction = c.in_ok-put_header.ensures.fits in
    rw (spelled c) (dsi_spelled d from.reference.items from.ensures.size transaction from.ensures.reads)
