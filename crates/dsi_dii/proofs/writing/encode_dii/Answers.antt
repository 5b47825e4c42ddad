use Rattle.std.proofs.Common.{◌≡◌, ◌+◌, ◌*◌, length, ap, refl, arith}
use Rattle.dsi_dii.specs.Controls.{view_dii}
use Rattle.dsi_dii.specs.Spellings.{IsSpellable}
use Rattle.dsi_dii.proofs.Spelled.{dii_bytes, dii_body_length, dii_spelled}
use Rattle.dsi_dii.proofs.writing.encode_dii.Goals as goal

pub returns-clause-spells : goal.returns-clause-spells
returns-clause-spells c =
    let d = view_dii c.args.dii.now in
    let count : c.len-count.result ≡ length d.modules = omega (arith, ap length c.deref.ensures.value) in
    let body : 22 + 29 * c.len-count.result ≡ length (dii_bytes d) = omega (arith, count, dii_body_length d) in
    rw (c.done.ensures, c.in_ok-put_u16.ensures.ok, c.in_ok-put_lines.ensures.bytes, c.deref.ensures.value)
    (rw (c.in_ok-put_head.ensures.bytes, c.in_ok-put_header.ensures.bytes, c.new-writer.ensures, body, count) refl)

pub returns-clause-reads : goal.returns-clause-reads
returns-clause-reads c =
    let d = view_dii c.args.dii.now in
    let spellable : IsSpellable d = record {
      written = c.requires;
      lines = rw c.deref.ensures.value at c.in_ok-put_lines.ensures.fit;
      few = omega (arith, ap length c.deref.ensures.value, c.if-count-gt-MOST_MODULES.false);
      download = c.in_ok-put_head.ensures.fits;
      transaction = c.in_ok-put_header.ensures.fits;
    } in
    rw (returns-clause-spells c) (dii_spelled d spellable)
