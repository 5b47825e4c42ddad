use Rattle.std.proofs.Common.{◌∙◌, eqb, ap, subst, sym, map}
use Rattle.std.specs.List.{position}
use Rattle.module_cache.specs.Inner.Reaches.{AreWithin}
use Rattle.module_cache.proofs.Places.{unplaced}
use Rattle.module_cache.proofs.Reaching.{outside}
use Rattle.module_cache.proofs.tuned.Tuned.place.Goals as goal

pub returns-in-Some : goal.returns-in-Some
returns-in-Some c =
    let lines = c.self.inside.lines.items in
    let within = subst (λ reach. AreWithin reach (map (λ x. x.line) lines)) c.in-Some.is c.self.invariant.within in
    let none = outside c.in-Some.reach c.args.id lines within (sym c.has.ensures ∙ c.if-not-has.true) in
    sym (ap (λ s. position (λ x. eqb x.line.id c.args.id) s.lines) (sym c.self.view_is) ∙ unplaced (λ x. eqb x.line.id c.args.id) lines none)
