use Rattle.std.proofs.Common.{◌∙◌, refl, ap, arith, []}
use Rattle.history_lock.specs.declared.rule.View.{View}
use Rattle.history_lock.proofs.Steps.{free_after, freed_after}
use Rattle.history_lock.proofs.hold.Hold.put_back.Goals as goal

pub store-requires : goal.store-requires
store-requires g c =
    let o = c.requires.own in
    let x = c.exchange-old.ensures in
    let sized = c.args.self.lock.now.sized in
    (x.0 ∙ o.1, omega (arith, sized.0), free_after _ _ _ _ _ c.args.self.pass.now.seat.me _ c.args.self.value o.2 x.3 (omega (arith, sized.1)) o.3 o.4 c.requires.grows)

pub returns : goal.returns
returns g c =
    let o = c.requires.own in
    let x = c.exchange-old.ensures in
    let s = c.store.ensures in
    let list = g.V.Chronicled.list in
    let f = freed_after list 0 [] 0 0 c.args.self.pass.now.seat.me c.exchange-old.new.seat.me c.args.self.value o.2 x.3 c.store.new.seat.me s.2 in
    let is = f.0 in
    record {
      pass = (s.0 ∙ x.0 ∙ o.1, f.1, ap (λ (v : View _). v.parts) is ∙ o.3, ap (λ (v : View _). v.holds) is, ap (λ (v : View _). v.heard) is ∙ o.5);
      number = refl;
      seen = ap (λ (v : View _). v.seen) is;
      places = ap (λ (v : View _). v.own) is;
    }
