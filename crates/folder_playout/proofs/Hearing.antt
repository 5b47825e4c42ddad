-- What is heard of a playout is heard of its broadcast.
use Rattle.std.proofs.Common.{◌≡◌, ℕ, ◌+◌, List, length, subst, sym, ap, ◌∙◌, arith}
use Rattle.generation.specs.Lawful.{Lawful}
use Rattle.carousel_world.specs.Receptions.{EveryReceptionMeets}
use Rattle.folder_playout.specs.OnAir.{OnAir}
use Rattle.folder_playout.specs.Laws.{IsBroadcast, PlayoutsMeet}

lawful_own : (carousel : ℕ) (weights : List ℕ) (s : OnAir) (is : IsBroadcast carousel weights s) → Lawful is.broadcast.carousel is.broadcast.layouts is.broadcast.trees
lawful_own carousel weights s is = subst (λ c. Lawful c is.broadcast.layouts is.broadcast.trees) (sym is.id) is.lawful

pub meets_of : EveryReceptionMeets → PlayoutsMeet
meets_of law carousel weights s is pid packets from never accepted near =
    let b = is.broadcast in
    let some : length b.layouts ≡ length s.trees + 1 = is.lawful.as_many ∙ ap length is.trees ∙ (omega arith) in
    law.packets pid packets b from never (record {
      first = omega (arith, some);
      lawful = lawful_own carousel weights s is;
      in_order = is.in_order;
      accepted = accepted;
      near = near;
    })
