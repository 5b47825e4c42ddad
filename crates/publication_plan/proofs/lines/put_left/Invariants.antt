use Rattle.std.proofs.Common.{◌≡◌, ◌++◌, map, take}
use Rattle.std.specs.List.{flat_map}
use Rattle.std.specs.String.{string_bytes}
use Rattle.folder_store.specs.Surveys.{view_standing}
use Rattle.publication_plan.specs.Telling.{left_line}
use Rattle.publication_plan.proofs.lines.put_left.Given as goal

abbrev pub invariant-loop-standing : goal.invariant-loop-standing
invariant-loop-standing l = string_bytes l.text ≡ string_bytes l.fn.text ++ flat_map left_line (take l.standing-index (map view_standing l.left))
