use Rattle.std.proofs.Common.{subst, arith}
use Rattle.oc_bytes.specs.Outcome.{MakesList}
use Rattle.generation.proofs.Keyed.{free_is}
use Rattle.generation.proofs.keys.free.Goals as goal

pub returns : goal.returns
returns c =
    subst (MakesList c.unmarked.result) (free_is c.args.taken.now c.in_ok-is_taken.is_taken.items 2 c.args.count (λ k lt. c.in_ok-is_taken.ensures.marks k (omega (arith, lt))))
    (rw c.deref.ensures.value at c.unmarked.ensures)
