use Rattle.std.proofs.Common.{◌*◌, refl, ◌∙◌, ap}
use Rattle.std.specs.Prelude.{codes}
use Rattle.carousel_profile.specs.declared.TheConstants.{PACKET_LENGTH}
use Rattle.std.specs.String.{string_bytes}
use Rattle.shell_words.specs.Texts.{with_number}
use Rattle.publication_plan.proofs.Between.{same_pairs}
use Rattle.publication_plan.proofs.Telltale.{ok_as}
use Rattle.publication_plan.proofs.lines.cycle_text.Goals as goal

pub returns : goal.returns
returns c =
    let sections = with_number (codes "cycle sections") c.args.cycle.sections in
    let packets = with_number (codes "packets") c.args.cycle.packets in
    let bytes = with_number (codes "bytes") (PACKET_LENGTH * c.args.cycle.packets) in
    ok_as string_bytes _ _ c.four_fields.result
    (same_pairs _ _ sections packets bytes _ sections packets bytes _ (c.deref.ensures ∙ c.in_ok-front.ensures) (c.deref-2.ensures ∙ c.in_ok-back.ensures)
    refl refl refl (ap (with_number (codes "milliseconds")) c.time_of-time.ensures)) c.four_fields.ensures
