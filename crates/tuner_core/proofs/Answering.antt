-- What is answered is what looking back gives.
use Rattle.std.proofs.Common.{ℕ, ◌≡◌, Bool, true, false, cond, List, map, Option, Some, None, refl, ap, ◌∙◌}
use Rattle.std.specs.Option.{option_map}
use Rattle.path_tree.specs.Paths.{Bytes}
use Rattle.ior_tap.specs.Iors.{TapFields, biop_of_profiles, delivery_of_taps}
use Rattle.ior_tap.specs.declared.Location.{Location}
use Rattle.dsi_dii.specs.Controls.{DiiFields}
use Rattle.module_cache.specs.Joining.{taken_of, state_in}
use Rattle.module_cache.proofs.CallerLemmas.{outlines_are, taken_all_is}
use Rattle.path_resolver.specs.Resolving.{target_of}
use Rattle.path_resolver.specs.Shots.{view_gateway}
use Rattle.path_resolver.specs.declared.shot.Gateway.{Gateway}
use Rattle.tuner_core.specs.Answers.{same_root, fed_root, fed_dii, fed_heard, fed_after}
use Rattle.tuner_core.specs.Heard.{Heard, Skipped, NoControl, NoBlock, ADsi, ADii, ABlock, as_heard}
use Rattle.tuner_core.specs.Said.{block_in}
use Rattle.tuner_core.specs.Stands.{TunerState, TurnState, StandsFor, is_held, after_dsi, ruled, held_outlines, parts_of, turn_from, join_from, after_dii, after_heard, fed_by}
use Rattle.module_cache.specs.Turns.{Turn}
use Rattle.tuner_core.specs.Turns.{turns_of}
use Rattle.tuner_core.specs.declared.told.Cause.TheVariants as causes
use Rattle.tuner_core.specs.declared.told.Fed.{Fed}
use Rattle.tuner_core.specs.declared.told.Fed.TheVariants.{Changed, Nothing}
use Rattle.tuner_core.proofs.Ruling.{of_ruled}

held_is_same : (g : Option Gateway) (l : Location) (delivery : Option ℕ) → is_held g l delivery ≡ same_root (option_map view_gateway g) (l, delivery)
held_is_same None l delivery = refl
held_is_same (Some g) l delivery = refl

second : {A B : Type 0} (t : Bool) (x y : A × B) → (cond t x y).1 ≡ cond t x.1 y.1
second true x y = refl
second false x y = refl

dsi_answer : (g : Option Gateway) (r : Option (Location × List TapFields)) → (after_dsi g r).1 ≡ fed_root (option_map view_gateway g) (target_of r)
dsi_answer g None = refl
dsi_answer g (Some (l, taps)) =
    second {A = Option Gateway} (is_held g l (delivery_of_taps taps)) _ _ ∙ ap (λ t. cond t (Nothing causes.SameDsi) Changed) (held_is_same g l (delivery_of_taps taps))

dii_answer : (t : TurnState) (ts : List (Turn Heard)) (d : DiiFields) → t.cache ≡ state_in block_in ts → (after_dii t d).1 ≡ fed_dii ts d
dii_answer t ts d e =
    of_ruled {X = TurnState × Fed} (λ x. x.1) (held_outlines t.cache) d (turn_from t (held_outlines t.cache) d, Changed) (join_from t d, Changed) (λ fed. (t, fed))
    ∙ ap (λ os. ruled os d Changed Changed (λ fed. fed)) (ap held_outlines e ∙ outlines_are block_in ts)

pub answer_is : (t : TunerState) (candidates : List Bytes) (h : Heard) → StandsFor t candidates → (after_heard t h).1 ≡ fed_heard (map as_heard candidates) h
answer_is t cs (ADsi d) s = dsi_answer t.gateway (biop_of_profiles d.gateway.profiles) ∙ ap (λ g. fed_root g (target_of (biop_of_profiles d.gateway.profiles))) s.gateway
answer_is t cs (ADii d) s = dii_answer (parts_of t) (turns_of (map as_heard cs)) d s.cache
answer_is t cs (ABlock b) s = ap fed_by (ap (λ c. taken_of c b) s.cache ∙ taken_all_is block_in (turns_of (map as_heard cs)) b)
answer_is t cs (Skipped c) s = refl
answer_is t cs (NoControl c) s = refl
answer_is t cs (NoBlock c) s = refl

pub looks_back : (t m : TunerState) (fed : Fed) (c : Bytes) → (m, fed) ≡ after_heard t (as_heard c) → (candidates : List Bytes) → StandsFor t candidates → fed ≡ fed_after candidates c
looks_back t m fed c e cs s = ap (λ x. x.1) e ∙ answer_is t cs (as_heard c) s
