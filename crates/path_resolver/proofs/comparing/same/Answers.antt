use Rattle.std.proofs.Common.{◌≡◌, ◌↔◌, Bool, IsTrue, sym, subst}
use Rattle.path_resolver.proofs.Alike.{tells_equal}
use Rattle.path_resolver.proofs.comparing.same.Goals as goal

pub returns-clause-equal : goal.returns-clause-equal
returns-clause-equal c = subst (λ (r : Bool). IsTrue r ↔ (c.args.a.now ≡ c.args.b.now)) (sym c.is_same.ensures) (tells_equal c.args.a.now c.args.b.now)
