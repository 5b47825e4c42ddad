use Rattle.std.proofs.Common.{◌≡◌, length, refl, ap, ◌∙◌}
use Rattle.ior_tap.specs.declared.Location.{Location}
use Rattle.format_rows.proofs.references.reference.Goals as goal

pub returns : goal.returns
returns c =
    let location : Location = record { carousel = c.args.carousel; «module» = c.args.module_id; key = c.new-key.result } in
    let four : length c.new-key.result ≡ 4 = ap length (c.new-key.ensures ∙ c.in_ok-from_slice.ensures.items) in
    (location, record { form = rw (c.in_ok-vec-2.ensures.items, c.in_ok-vec.ensures.items, c.in_ok-selector.ensures) refl; four = refl; key = four; listed = c.requires })
