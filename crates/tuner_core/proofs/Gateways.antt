-- The gateway after one more candidate.
use Rattle.std.proofs.Common.{ℕ, ◌≡◌, Bool, true, false, List, Option, Some, None, refl, ap, subst, ◌∙◌}
use Rattle.std.specs.Option.{option_map}
use Rattle.std.proofs.lemmas.Bool.{cond-true, cond-false, eqb-true, eq-eqb, and_parts, and_from, both_ways}
use Rattle.path_tree.specs.Paths.{Bytes}
use Rattle.path_tree.proofs.CallerLemmas.{same_name-is, same_name-refl}
use Rattle.ior_tap.specs.Iors.{TapFields, biop_of_profiles, delivery_of_taps}
use Rattle.ior_tap.specs.declared.Location.{Location}
use Rattle.path_resolver.specs.Resolving.{target_of}
use Rattle.path_resolver.specs.Shots.{view_gateway}
use Rattle.path_resolver.specs.declared.shot.Gateway.{Gateway}
use Rattle.tuner_core.specs.declared.told.Fed.{Fed}
use Rattle.tuner_core.specs.declared.told.Fed.TheVariants.{Changed}
use Rattle.tuner_core.specs.Heard.{Heard, Skipped, NoControl, NoBlock, ADsi, ADii, ABlock}
use Rattle.tuner_core.specs.Said.{root_in}
use Rattle.tuner_core.specs.Stands.{TunerState, is_held, same_location, same_number, after_gateway, after_dsi, after_heard}
use Rattle.tuner_core.proofs.Lists.{last_of}

location_parts : (a b c d : ℕ) (k m : Bytes) → a ≡ c → b ≡ d → k ≡ m
    → ◌≡◌ {A = Location} (record { carousel = a; «module» = b; key = k }) (record { carousel = c; «module» = d; key = m })
location_parts a b c d k m e f g = cc

same_location_is : (a b : Location) → same_location a b ≡ true → a ≡ b
same_location_is a b e = let p = and_parts _ _ e in let q = and_parts _ _ p.0 in
    location_parts _ _ _ _ _ _ (eqb-true _ _ q.0) (eqb-true _ _ q.1) (same_name-is a.key b.key p.1)

same_number_is : (a b : Option ℕ) → same_number a b ≡ true → a ≡ b
same_number_is (Some a) (Some b) e = ap Some (eqb-true a b e)
same_number_is None None e = refl
same_number_is (Some a) None e = cc
same_number_is None (Some b) e = cc

number_is_same : (a : Option ℕ) → same_number a a ≡ true
number_is_same (Some a) = eq-eqb a a refl
number_is_same None = refl

root_parts : (a c : Location) (b d : Option ℕ) → a ≡ c → b ≡ d → ◌≡◌ {A = Location × Option ℕ} (a, b) (c, d)
root_parts a c b d e f = cc

held_gateway : (g : Option Gateway) (l : Location) (d : Option ℕ) → is_held g l d ≡ true → option_map view_gateway g ≡ Some (l, d)
held_gateway (Some g) l d e = let p = and_parts _ _ e in ap Some (root_parts g.location l g.delivery d (same_location_is g.location l p.0) (same_number_is g.delivery d p.1))
held_gateway None l d e = cc

pub gateway_is_held : (l : Location) (d : Option ℕ) → is_held (Some (record { location = l; delivery = d })) l d ≡ true
gateway_is_held l d = and_from _ _ (and_from _ _ (and_from _ _ (eq-eqb l.carousel l.carousel refl) (eq-eqb l.module l.module refl)) (same_name-refl l.key)) (number_is_same d)

gateway_cases : (g : Option Gateway) (l : Location) (d : Option ℕ) (b : Bool) → is_held g l d ≡ b
    → option_map view_gateway (after_gateway g l d).0 ≡ Some (l, d)
gateway_cases g l d true e = ap (λ x. option_map view_gateway x.0) (cond-true {A = Option Gateway × Fed} _ _ _ e) ∙ held_gateway g l d e
gateway_cases g l d false e = ap (λ x. option_map view_gateway x.0) (cond-false {A = Option Gateway × Fed} _ _ _ e)

dsi_gateway : (g : Option Gateway) (r : Option (Location × List TapFields)) → option_map view_gateway (after_dsi g r).0 ≡ last_of (target_of r) (option_map view_gateway g)
dsi_gateway g None = refl
dsi_gateway g (Some (l, taps)) = gateway_cases g l (delivery_of_taps taps) (is_held g l (delivery_of_taps taps)) refl

pub gateway_is : (t : TunerState) (h : Heard) → option_map view_gateway (after_heard t h).0.gateway ≡ last_of (root_in h) (option_map view_gateway t.gateway)
gateway_is t (ADsi d) = dsi_gateway t.gateway (biop_of_profiles d.gateway.profiles)
gateway_is t (ADii d) = refl
gateway_is t (ABlock b) = refl
gateway_is t (Skipped c) = refl
gateway_is t (NoControl c) = refl
gateway_is t (NoBlock c) = refl

-- another gateway than the held one
pub other_gateway : (g : Option Gateway) (l : Location) (d : Option ℕ) → is_held g l d ≡ false → Some (record { location = l; delivery = d }) ≡ g → ⊥
other_gateway g l d e same = both_ways (is_held g l d) e (subst (λ x. is_held x l d ≡ true) same (gateway_is_held l d))

-- what changes nothing
pub dsi_kept : (g : Option Gateway) (r : Option (Location × List TapFields)) → ((after_dsi g r).1 ≡ Changed → ⊥) → (after_dsi g r).0 ≡ g
dsi_kept g None f = refl
dsi_kept g (Some (l, taps)) f = go (is_held g l (delivery_of_taps taps)) refl where
  go : (b : Bool) → is_held g l (delivery_of_taps taps) ≡ b → (after_gateway g l (delivery_of_taps taps)).0 ≡ g
  go true e = ap (λ x. x.0) (cond-true {A = Option Gateway × Fed} _ _ _ e)
  go false e = absurd (f (ap (λ x. x.1) (cond-false {A = Option Gateway × Fed} _ _ _ e)))
