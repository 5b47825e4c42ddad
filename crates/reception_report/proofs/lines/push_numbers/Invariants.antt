use Rattle.std.proofs.Common.{◌≡◌, take}
use Rattle.std.specs.List.{fold}
use Rattle.std.specs.String.{string_bytes}
use Rattle.reception_report.specs.Telling.{with_field}
use Rattle.reception_report.proofs.lines.push_numbers.Given as goal

abbrev pub invariant-loop-row : goal.invariant-loop-row
invariant-loop-row l = string_bytes l.text ≡ fold (λ text n. with_field text n.0.now n.1) (string_bytes l.fn.text) (take l.row-index l.numbers)
