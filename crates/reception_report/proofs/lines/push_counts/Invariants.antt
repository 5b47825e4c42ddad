use Rattle.std.proofs.Common.{◌≡◌, ◌++◌, List, take}
use Rattle.std.specs.List.{flat_map}
use Rattle.std.specs.String.{string_bytes}
use Rattle.path_tree.specs.Paths.{Bytes}
use Rattle.reception_report.specs.Outcomes.{CountsAre}
use Rattle.reception_report.specs.Telling.{count_text}
use Rattle.reception_report.proofs.lines.push_counts.Given as goal

abbrev pub invariant-loop-outcome : goal.invariant-loop-outcome
invariant-loop-outcome l = (cs : List Bytes) → CountsAre l.tally cs → string_bytes l.text ≡ string_bytes l.fn.text ++ flat_map (count_text cs) (take l.outcome-index l.outcomes)
