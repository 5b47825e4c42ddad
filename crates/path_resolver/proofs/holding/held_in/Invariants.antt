use Rattle.std.proofs.Common.{◌≡◌, ◌==◌, map, drop}
use Rattle.std.specs.List.{find}
use Rattle.path_resolver.specs.Shots.{view_held}
use Rattle.path_resolver.proofs.holding.held_in.Given as goal

abbrev pub invariant-loop-held : goal.invariant-loop-held
invariant-loop-held l = find (λ h. h.line.id == l.id) (map view_held (drop l.held-index l.table)) ≡ find (λ h. h.line.id == l.id) (map view_held l.table)
