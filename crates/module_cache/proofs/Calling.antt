-- One call more, looking back over all of them.
use Rattle.std.proofs.Common.{◌≡◌, ◌≢◌, Bool, false, eqb, List, [], ◌∷◌, ◌++◌, map, Result, Ok, Err, IfOk, OnOk, OnErr, refl, sym, ap, subst, ◌∙◌}
use Rattle.std.proofs.lemmas.List.Sums.{fold-append}
use Rattle.ddb_block.specs.Blocks as ddb
use Rattle.dsi_dii.specs.Controls.{DiiFields}
use Rattle.module_cache.specs.Calls.{Call, Turned, Joined, Offered, turn_after, turns_of, itself, StandsFor}
use Rattle.module_cache.specs.Joining.{CacheState, outline, outline_held, is_there, AreApart, AreOnce, joined, turned, offered, taken_of, held_in, state_in, taken_among}
use Rattle.module_cache.specs.Spans.{identification}
use Rattle.module_cache.specs.Turns.{Turn, admitted, has_admitted}
use Rattle.module_cache.specs.declared.taken.Taken.{Taken}
use Rattle.module_cache.specs.declared.taken.Taken.TheVariants as taken
use Rattle.module_cache.proofs.Answering.{taken_all_is}
use Rattle.module_cache.proofs.Lists.{any_map}
use Rattle.module_cache.proofs.Offering.{offer_keeps_all}
use Rattle.module_cache.proofs.Turning.{outlines_are, state_moves, state_turns, state_joins}

more_calls : (calls : List Call) (c : Call) → turns_of (calls ++ c ∷ []) ≡ turn_after (turns_of calls) c
more_calls calls c = fold-append turn_after [] calls (c ∷ [])

pub turned_stands : (old new : CacheState) (d : DiiFields) (keep : Bool) → new ≡ turned old d keep → (calls : List Call) → StandsFor old calls → StandsFor new (calls ++ Turned d keep ∷ [])
turned_stands old new d keep e calls s =
    e ∙ ap (λ c. turned c d keep) s ∙ sym (state_turns itself (turns_of calls) d keep) ∙ ap (state_in itself) (sym (more_calls calls (Turned d keep)))

-- of the identification of none that is held
none_admitted : (ts : List (Turn ddb.Block)) (t : Turn ddb.Block) (d : DiiFields) → is_there (map outline_held (held_in itself (t ∷ ts))) d ≡ false → has_admitted t (identification d) ≡ false
none_admitted ts t d e =
    sym (any_map (λ s. outline s.dii) (λ o. eqb o.identification (identification d)) (admitted t)) ∙ ap (λ os. is_there os d) (sym (outlines_are itself (t ∷ ts))) ∙ e

pub joined_stands : (old new : CacheState) (d : DiiFields) → is_there (map outline_held old.held) d ≡ false → new ≡ joined old d → (calls : List Call) → StandsFor old calls → StandsFor new (calls ++ Joined d ∷ [])
joined_stands old new d none e calls s =
    e ∙ ap (λ c. joined c d) s ∙ by (turns_of calls) (subst (λ c. is_there (map outline_held c.held) d ≡ false) s none) ∙ ap (state_in itself) (sym (more_calls calls (Joined d))) where
      by : (ts : List (Turn ddb.Block)) → is_there (map outline_held (held_in itself ts)) d ≡ false → joined (state_in itself ts) d ≡ state_in itself (turn_after ts (Joined d))
      by [] none = sym (state_turns itself [] d false)
      by (t ∷ ts) none = sym (state_joins itself t ts d (none_admitted ts t d none))

pub offered_stands : (old new : CacheState) (b : ddb.Block) → AreOnce (map outline_held old.held) → AreApart (map outline_held old.held) → new ≡ offered old b → (calls : List Call) → StandsFor old calls → StandsFor new (calls ++ Offered b ∷ [])
offered_stands old new b once apart e calls s =
    e ∙ ap (λ c. offered c b) s
    ∙ sym (state_moves itself (turns_of calls) b b refl (record {
      once = subst AreOnce (outlines_are itself (turns_of calls)) (subst (λ c. AreOnce (map outline_held c.held)) s once);
      apart = subst AreApart (outlines_are itself (turns_of calls)) (subst (λ c. AreApart (map outline_held c.held)) s apart);
    }))
    ∙ ap (state_in itself) (sym (more_calls calls (Offered b)))

-- ---- the clauses of one call

pub offer_kept : {E : Type 0} (r : Result Taken E) (old new : CacheState) (b : ddb.Block) → IfOk r (λ t. t ≡ taken_of old b) → OnOk r (new ≡ offered old b) → IfOk r (λ t. t ≢ taken.New → new ≡ old)
offer_kept (Ok t) old new b answer e = λ other. e ∙ offer_keeps_all old b (λ is. other (answer ∙ is))
offer_kept (Err x) old new b answer e = tt

pub offer_looks_back : {E : Type 0} (r : Result Taken E) (old : CacheState) (b : ddb.Block) → IfOk r (λ t. t ≡ taken_of old b)
    → IfOk r (λ t. (calls : List Call) → StandsFor old calls → t ≡ taken_among itself (turns_of calls) b)
offer_looks_back (Ok t) old b answer = λ calls s. answer ∙ ap (λ o. taken_of o b) s ∙ taken_all_is itself (turns_of calls) b
offer_looks_back (Err x) old b answer = tt

pub either_way : {X E : Type 0} (r : Result X E) (P Q R : Type 0) → OnOk r P → OnErr r Q → (P → R) → (Q → R) → R
either_way (Ok x) P Q R p q f g = f p
either_way (Err x) P Q R p q f g = g q
