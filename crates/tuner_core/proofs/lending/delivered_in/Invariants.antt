use Rattle.std.proofs.Common.{◌≡◌, ◌==◌, ◌&&◌, drop}
use Rattle.std.specs.List.{find, flat_map}
use Rattle.tuner_core.specs.Stands.{modules_of}
use Rattle.tuner_core.proofs.lending.delivered_in.Given as goal

-- the DIIs that are left decide
abbrev pub invariant-loop-tuned : goal.invariant-loop-tuned
invariant-loop-tuned l =
    find (λ h. (h.identification == l.identification) && (h.line.id == l.id)) (flat_map modules_of (drop l.tuned-index l.held))
    ≡ find (λ h. (h.identification == l.identification) && (h.line.id == l.id)) (flat_map modules_of l.held)
