use Rattle.std.proofs.Common.{◌≡◌, ◌+◌, map, drop, max}
use Rattle.generation.proofs.Words.{fold, ids_counted, view_listed}
use Rattle.generation.proofs.made.ids_counted.Given as goal

abbrev pub invariant-loop-listed : goal.invariant-loop-listed
invariant-loop-listed l = ids_counted (map view_listed l.modules) l.counts ≡ fold (λ end m. max end (m.0 + 1)) l.end (map view_listed (drop l.listed-index l.modules))
