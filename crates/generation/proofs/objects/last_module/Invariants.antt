use Rattle.std.proofs.Common.{◌≡◌, map, drop, max}
use Rattle.generation.proofs.Words.{fold, greatest}
use Rattle.generation.proofs.objects.last_module.Given as goal

abbrev pub invariant-loop-object : goal.invariant-loop-object
invariant-loop-object l = greatest (map (λ o. o.«module») l.objects) ≡ fold max l.last (map (λ o. o.«module») (drop l.object-index l.objects))
