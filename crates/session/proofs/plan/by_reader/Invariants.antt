use Rattle.session.proofs.Words.{◌≡◌, ℕ, map, lists_of, opens_by, finale_step}
use Rattle.session.proofs.plan.by_reader.Given as goal

abbrev pub invariant-loop-last : goal.invariant-loop-last
invariant-loop-last l = (n : ℕ) → lists_of l.lists n ≡ opens_by n (map finale_step l.yielded)
