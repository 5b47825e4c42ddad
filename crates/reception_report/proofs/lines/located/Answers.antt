use Rattle.std.proofs.Common.{ap, ◌∙◌}
use Rattle.std.specs.Prelude.{codes, ◌++◌}
use Rattle.std.specs.String.{string_bytes}
use Rattle.hex.specs.Hex.{encode_lower}
use Rattle.reception_report.proofs.Parts.{line_of_parts}
use Rattle.reception_report.proofs.lines.located.Goals as goal

pub returns : goal.returns
returns c = line_of_parts string_bytes _ _ (codes " key ") (encode_lower c.args.location.now.key)
    (rw (c.from.ensures, c.from-2.ensures, c.as_str.ensures.value ∙ c.in_ok-key.ensures ∙ ap (λ k. codes " key " ++ encode_lower k) c.bytes.ensures.value) at c.numbers_line.ensures)
