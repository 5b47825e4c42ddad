-- A DII that is admitted changes what is held, and one that isn't changes nothing.
use Rattle.std.proofs.Common.{ℕ, ◌≡◌, ◌+◌, Bool, true, false, cond, not, List, [], ◌∷◌, length, refl, sym, ap, ◌∙◌, arith, length-append}
use Rattle.std.proofs.lemmas.Bool.{eq-eqb, true≢false}
use Rattle.dsi_dii.specs.Controls.{DiiFields}
use Rattle.module_cache.specs.Joining.{CacheState, Outline, outline, joining, joined, turned}
use Rattle.module_cache.proofs.CallerLemmas.{outline_joining}
use Rattle.tuner_core.specs.Turns.{version}
use Rattle.tuner_core.specs.Stands.{TurnState, is_anew, held_outlines, turn_from, join_from, after_dii}
use Rattle.tuner_core.specs.declared.told.Fed.{Fed}
use Rattle.tuner_core.specs.declared.told.Fed.TheVariants.{Changed}
use Rattle.tuner_core.proofs.Ruling.{by_rule}

turned_differs : (c : CacheState) (d : DiiFields) (keep : Bool) → is_anew (held_outlines c) d ≡ true → turned c d keep ≡ c → ⊥
turned_differs c d keep anew same =
    let one : held_outlines c ≡ outline d ∷ [] = ap held_outlines (sym same) ∙ ap (λ o. o ∷ []) (outline_joining (cond keep c.held []) d) in
    true≢false (sym anew ∙ ap (λ os. is_anew os d) one ∙ ap not (eq-eqb (version d) (version d) refl))

joined_differs : (c : CacheState) (d : DiiFields) → joined c d ≡ c → ⊥
joined_differs c d same = longer (length c.held) (sym (length-append c.held (joining c.waiting d ∷ [])) ∙ ap (λ x. length x.held) same) where
  longer : (n : ℕ) → n + 1 ≡ n → ⊥
  longer n e = omega (arith, e)

turn_cache : (t : TurnState) (os : List Outline) (d : DiiFields) → is_anew os d ≡ true → held_outlines t.cache ≡ os → (turn_from t os d).cache ≡ t.cache → ⊥
turn_cache t [] d anew is same = turned_differs t.cache d false (ap (λ os. is_anew os d) is ∙ anew) same
turn_cache t (o ∷ os) d anew is same = turned_differs t.cache d _ (ap (λ os. is_anew os d) is ∙ anew) same

abbrev pub Changes : TurnState → TurnState × Fed → Type 0
Changes t x = x.1 ≡ Changed → x.0.cache ≡ t.cache → ⊥

pub changes : (t : TurnState) (d : DiiFields) → Changes t (after_dii t d)
changes t d =
    by_rule (Changes t) (held_outlines t.cache) d (turn_from t (held_outlines t.cache) d, Changed) (join_from t d, Changed) (λ fed. (t, fed))
    (λ e f same. turn_cache t (held_outlines t.cache) d e refl same) (λ f same. joined_differs t.cache d same) (λ cause f same. cc)

abbrev pub Keeps : TurnState → TurnState × Fed → Type 0
Keeps t x = (x.1 ≡ Changed → ⊥) → x.0 ≡ t

pub keeps : (t : TurnState) (d : DiiFields) → Keeps t (after_dii t d)
keeps t d =
    by_rule (Keeps t) (held_outlines t.cache) d (turn_from t (held_outlines t.cache) d, Changed) (join_from t d, Changed) (λ fed. (t, fed))
    (λ e f. absurd (f refl)) (λ f. absurd (f refl)) (λ cause f. refl)
