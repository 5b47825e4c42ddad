use Rattle.std.proofs.Common.{◌≡◌, ◌++◌, take}
use Rattle.std.specs.List.{flat_map}
use Rattle.std.specs.String.{string_bytes}
use Rattle.publication_plan.specs.Telling.{module_line}
use Rattle.publication_plan.proofs.lines.put_modules.Given as goal

abbrev pub invariant-loop-id : goal.invariant-loop-id
invariant-loop-id g l = string_bytes l.text ≡ string_bytes l.fn.text ++ flat_map (module_line l.weigh.weights l.generation) (take l.id-index l.id-items)
