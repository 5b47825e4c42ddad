-- A line of an id that lies outside of the range isn't there.
use Rattle.std.proofs.Common.{ℕ, ◌≡◌, Bool, true, false, ◌&&◌, ◌||◌, eqb, nat_le, List, [], ◌∷◌, map, refl, sym, ap, ◌∙◌}
use Rattle.std.specs.List.{list_all, list_any}
use Rattle.std.proofs.lemmas.Bool.{eqb-true, and_parts}
use Rattle.module_cache.specs.Inner.Reaches.{is_within}
use Rattle.module_cache.specs.declared.reach.Reach.{Reach}
use Rattle.module_cache.specs.declared.stored.Line.{Line}

pub outside : (r : Reach) (id : ℕ) (xs : List Line) → list_all (is_within r) (map (λ x. x.line) xs) ≡ true → (nat_le r.least id && nat_le id r.greatest) ≡ false → list_any (λ x. eqb x.line.id id) xs ≡ false
outside r id [] all out = refl
outside r id (x ∷ xs) all out = go (eqb x.line.id id) refl (outside r id xs (and_parts _ _ all).1 out) where
  go : (t : Bool) → eqb x.line.id id ≡ t → list_any (λ y. eqb y.line.id id) xs ≡ false → list_any (λ y. eqb y.line.id id) (x ∷ xs) ≡ false
  go true e rest =
      let same : x.line.id ≡ id = eqb-true _ _ e in
      let there : (nat_le r.least id && nat_le id r.greatest) ≡ true = ap (λ i. nat_le r.least i && nat_le i r.greatest) (sym same) ∙ (and_parts _ _ all).0 in
      cc
  go false e rest = ap (λ t. t || list_any (λ y. eqb y.line.id id) xs) e ∙ rest
