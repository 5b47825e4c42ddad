use Rattle.std.proofs.Common.{◌≡◌, eqb, true, false, ap, sym, ◌∙◌}
use Rattle.std.specs.List.{list_any}
use Rattle.std.proofs.lemmas.Bool.{cond-true, cond-false}
use Rattle.dsi_dii.specs.Controls.{identification_of}
use Rattle.path_resolver.specs.Resolving.{unlisted}
use Rattle.path_resolver.proofs.walking.unlisted.Goals as goal

pub returns-then-is_held : goal.returns-then-is_held
returns-then-is_held g c =
    let held : list_any (λ i. eqb i (identification_of c.in-Some.transaction)) (g.H.Holding.state c.args.held.now).held ≡ true =
    ap (λ k. list_any (λ i. eqb i k) (g.H.Holding.state c.args.held.now).held) (sym c.identification.ensures) ∙ sym c.is_held.ensures ∙ c.if-is_held.true in
    sym (ap (λ d. unlisted (g.H.Holding.state c.args.held.now) (c.args.target.now.location.now, d)) c.in-Some.is ∙ cond-true _ _ _ held)

pub returns-else-is_held : goal.returns-else-is_held
returns-else-is_held g c =
    let held : list_any (λ i. eqb i (identification_of c.in-Some.transaction)) (g.H.Holding.state c.args.held.now).held ≡ false =
    ap (λ k. list_any (λ i. eqb i k) (g.H.Holding.state c.args.held.now).held) (sym c.identification.ensures) ∙ sym c.is_held.ensures ∙ c.if-is_held.false in
    sym (ap (λ d. unlisted (g.H.Holding.state c.args.held.now) (c.args.target.now.location.now, d)) c.in-Some.is ∙ cond-false _ _ _ held)
