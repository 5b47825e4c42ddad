-- One candidate more, and all that is held.
use Rattle.std.proofs.Common.{ℕ, ◌≡◌, ◌≢◌, ◌↔◌, ◌+◌, List, [], ◌∷◌, ◌++◌, length, map, Option, None, refl, sym, ap, subst, ◌∙◌, arith, length-append}
use Rattle.std.proofs.lemmas.List.{map-append}
use Rattle.oc_bytes.specs.Outcome.{cap_at_u64}
use Rattle.ior_tap.specs.Iors.{biop_of_profiles}
use Rattle.block_assembler.specs.Blocks.{Bytes}
use Rattle.module_cache.specs.Joining.{CacheState}
use Rattle.module_cache.proofs.CallerLemmas.{offer_keeps_all}
use Rattle.path_resolver.specs.declared.shot.Gateway.{Gateway}
use Rattle.tuner_core.specs.Answers.{LooksBack}
use Rattle.tuner_core.specs.Heard.{Heard, Skipped, NoControl, NoBlock, ADsi, ADii, ABlock, as_heard}
use Rattle.tuner_core.specs.Said.{root_in, gateway_of}
use Rattle.tuner_core.specs.Stands.{TunerState, TurnState, StandsFor, fed_by, parts_of, after_heard, with_next_mark}
use Rattle.tuner_core.specs.Turns.{turns_of}
use Rattle.tuner_core.specs.declared.told.Fed.{Fed}
use Rattle.tuner_core.specs.declared.told.Fed.TheVariants.{Changed}
use Rattle.tuner_core.proofs.Answering.{answer_is}
use Rattle.tuner_core.proofs.Changing.{keeps}
use Rattle.tuner_core.proofs.Gateways.{gateway_is, dsi_kept}
use Rattle.tuner_core.proofs.Lists.{last_of, last_more}
use Rattle.tuner_core.proofs.Showing.{shot_is}
use Rattle.tuner_core.proofs.Turning.{parts_in, parts_after, parts_same, state_after_all}

-- ---- the parts that a candidate changes

mark_is : (t : TunerState) (h : Heard) → (after_heard t h).0.mark ≡ t.mark
mark_is t (ADsi d) = refl
mark_is t (ADii d) = refl
mark_is t (ABlock b) = refl
mark_is t (Skipped c) = refl
mark_is t (NoControl c) = refl
mark_is t (NoBlock c) = refl

one_more : (n : ℕ) → cap_at_u64 (cap_at_u64 n + 1) ≡ cap_at_u64 (n + 1)
one_more n = omega arith

parts_are : (t : TunerState) (h : Heard) → parts_of (after_heard t h).0 ≡ parts_after (parts_of t) h
parts_are t (ADsi d) = refl
parts_are t (ADii d) = refl
parts_are t (ABlock b) = refl
parts_are t (Skipped c) = refl
parts_are t (NoControl c) = refl
parts_are t (NoBlock c) = refl

stands_more : (t : TunerState) (candidates : List Bytes) (c : Bytes) → StandsFor t candidates → StandsFor (with_next_mark (after_heard t (as_heard c)).0) (candidates ++ c ∷ [])
stands_more t cs c s =
    let hs = map as_heard cs in
    let more : map as_heard (cs ++ c ∷ []) ≡ hs ++ as_heard c ∷ [] = map-append as_heard cs (c ∷ []) in
    let size : length (cs ++ c ∷ []) ≡ length cs + 1 = length-append cs (c ∷ []) in
    let was : parts_of t ≡ parts_in (turns_of hs) = parts_same _ _ _ _ _ _ s.cache s.label s.epoch in
    let is : parts_of (after_heard t (as_heard c)).0 ≡ parts_in (turns_of (map as_heard (cs ++ c ∷ []))) =
    parts_are t (as_heard c) ∙ ap (λ u. parts_after u (as_heard c)) was ∙ sym (state_after_all hs (as_heard c)) ∙ ap (λ xs. parts_in (turns_of xs)) (sym more) in
    record {
      mark = ap (λ n. cap_at_u64 (n + 1)) (mark_is t (as_heard c) ∙ s.mark) ∙ one_more (length cs) ∙ ap cap_at_u64 (sym size);
      gateway = gateway_is t (as_heard c) ∙ ap (last_of (root_in (as_heard c))) s.gateway ∙ sym (last_more root_in None hs (as_heard c)) ∙ ap gateway_of (sym more);
      cache = ap (λ u. u.cache) is;
      label = ap (λ u. u.label) is;
      epoch = ap (λ u. u.epoch) is;
    }

-- ---- what changes nothing

gateway_with : TunerState → Option Gateway → TunerState
gateway_with t g = record t { gateway = g }

parts_with : TunerState → TurnState → TunerState
parts_with t x = record t { cache = x.cache; label = x.label; epoch = x.epoch }

cache_with : TunerState → CacheState → TunerState
cache_with t x = record t { cache = x }

kept : (t : TunerState) (h : Heard) → ((after_heard t h).1 ≡ Changed → ⊥) → (after_heard t h).0 ≡ t
unfolding gateway_with parts_with cache_with
kept t (ADsi d) f = ap (gateway_with t) (dsi_kept t.gateway (biop_of_profiles d.gateway.profiles) f)
kept t (ADii d) f = ap (parts_with t) (keeps (parts_of t) d f)
kept t (ABlock b) f = ap (cache_with t) (offer_keeps_all t.cache b (λ e. f (ap fed_by e)))
kept t (Skipped c) f = refl
kept t (NoControl c) f = refl
kept t (NoBlock c) f = refl

-- ---- the clauses of one call

-- what a candidate did shows in what it changed
pub shown_by : (t m : TunerState) (fed : Fed) (h : Heard) → (m, fed) ≡ after_heard t h → (fed ≡ Changed → m.gateway ≡ t.gateway → m.cache ≡ t.cache → ⊥)
    → (fed ≢ Changed) ↔ (with_next_mark m ≡ with_next_mark t)
shown_by t m fed h e changed = (
  λ f. ap with_next_mark (ap (λ x. x.0) e ∙ kept t h (λ g. f (ap (λ x. x.1) e ∙ g))),
  λ same g. changed g (ap (λ x. x.gateway) same) (ap (λ x. x.cache) same),
)

pub stands_then : (t m : TunerState) (fed : Fed) (c : Bytes) → (m, fed) ≡ after_heard t (as_heard c) → (candidates : List Bytes) → StandsFor t candidates → StandsFor (with_next_mark m) (candidates ++ c ∷ [])
stands_then t m fed c e cs s = subst (λ x. StandsFor (with_next_mark x) (cs ++ c ∷ [])) (sym (ap (λ x. x.0) e)) (stands_more t cs c s)

-- ---- the law

pub all_looks_back : LooksBack
all_looks_back = record {
  stands = λ t cs c s. stands_more t cs c s;
  fed = λ t cs c s. answer_is t cs (as_heard c) s;
  nothing = λ t c f. ap with_next_mark (kept t (as_heard c) f);
  shot = shot_is;
}
