-- One candidate more, and what is held of DIIs and blocks.
use Rattle.std.proofs.Common.{ℕ, ◌≡◌, Bool, true, false, cond, not, eqb, ltb, ◌&&◌, List, [], ◌∷◌, ◌++◌, length, map, Option, None, refl, sym, ap, subst, ◌∙◌}
use Rattle.std.specs.List.{fold, list_any}
use Rattle.std.proofs.lemmas.Bool.{cond-true, cond-false, and_parts, not-true, true≢false}
use Rattle.std.proofs.lemmas.List.{map-append}
use Rattle.std.proofs.lemmas.List.Sums.{fold-append}
use Rattle.ddb_block.specs.Blocks as ddb
use Rattle.dsi_dii.specs.Controls.{DiiFields}
use Rattle.module_cache.specs.Joining.{CacheState, Outline, outline, lists, is_there, is_apart, fits_beside, AreApart, AreOnce, joined, offered, state_in, is_within}
use Rattle.module_cache.specs.Turns.{admitted, newest, has_admitted, heard_by, continued, with_turning, with_joined, Turn}
use Rattle.module_cache.proofs.CallerLemmas.{any_map, map_map, within_once, apart_more, once_more, AreTuned, outlines_are, state_stays, state_moves, state_turns, state_joins}
use Rattle.tuner_core.specs.Heard.{Heard, Skipped, NoControl, NoBlock, ADsi, ADii, ABlock}
use Rattle.tuner_core.specs.Said.{is_sound, block_in}
use Rattle.module_cache.specs.Spans.{Span}
use Rattle.tuner_core.specs.Turns.{version, identification, is_near, turnings, outlines, turns, joins, turn_after, turns_of, epoch_of, label_in}
use Rattle.tuner_core.specs.declared.turns.TheConstants.{MOST_HELD}
use Rattle.tuner_core.specs.Stands.{TurnState, ruled, held_outlines, turn_from, join_from, after_dii}
use Rattle.tuner_core.specs.declared.told.Fed.{Fed}
use Rattle.tuner_core.specs.declared.told.Fed.TheVariants.{Changed}
use Rattle.tuner_core.proofs.Ruling.{ruled_by, of_ruled}

pub turns_more : (hs : List Heard) (h : Heard) → turns_of (hs ++ h ∷ []) ≡ turn_after (turns_of hs) h
turns_more hs h = fold-append turn_after [] hs (h ∷ [])

-- ---- no module is listed twice, by a held DII or by two

abbrev are_tuned : List Outline → Type 0
are_tuned os = AreOnce os × AreApart os

abbrev newest_tuned : List (Turn Heard) → Type 0
newest_tuned ts = are_tuned (outlines (newest ts))

pub same_outlines : (h : Heard) (ss : List (Span Heard)) → outlines (map (heard_by h) ss) ≡ outlines ss
same_outlines h ss = map_map (heard_by h) (λ s. outline s.dii) ss

continued_tuned : (ts : List (Turn Heard)) (h : Heard) → newest_tuned ts → newest_tuned (continued ts h)
continued_tuned [] h a = a
continued_tuned (t ∷ ts) h a = subst are_tuned (sym (same_outlines h (admitted t))) a

turning_tuned : (ts : List (Turn Heard)) (d : DiiFields) (kept : Bool) → is_sound d ≡ true → newest_tuned (with_turning ts d kept)
turning_tuned ts d kept e = ((within_once d (and_parts _ _ e).1, tt), (λ id f. refl, tt))

-- what it is that a DII joins
pub record Joins (os : List Outline) (d : DiiFields) : Type 0 where
  pub sound : is_sound d ≡ true
  pub other : is_there os d ≡ false
  pub apart : list_any (λ l. list_any (λ o. lists o l.id) os) d.modules ≡ false

pub joins_means : (t : Turn Heard) (ts : List (Turn Heard)) (d : DiiFields) → joins (t ∷ ts) d ≡ true → Joins (outlines (admitted t)) d
joins_means t ts d e =
    let all = and_parts _ _ e in
    let room = and_parts _ _ (and_parts _ _ all.1).0 in
    let may = and_parts _ _ room.0 in
    record { sound = all.0; other = not-true _ may.0; apart = not-true _ may.1 }

joined_tuned : (t : Turn Heard) (ts : List (Turn Heard)) (d : DiiFields) → joins (t ∷ ts) d ≡ true → newest_tuned (t ∷ ts) → newest_tuned (with_joined (continued (t ∷ ts) (ADii d)) d)
joined_tuned t ts d e a =
    let j = joins_means t ts d e in
    let all : are_tuned (outlines (admitted t) ++ outline d ∷ []) = (once_more (outlines (admitted t)) d a.0 (within_once d (and_parts _ _ j.sound).1), apart_more (outlines (admitted t)) d a.1 j.apart) in
    subst are_tuned
    (ap (λ os. outline t.turning.dii ∷ os) (sym (map-append (λ s. outline s.dii) (map (heard_by (ADii d)) t.joined) (record { dii = d; kept = t.turning.kept; since = [] } ∷ []) ∙ ap (λ os. os ++ outline d ∷ []) (same_outlines (ADii d) t.joined))))
    all

pub turns_sound : (ts : List (Turn Heard)) (d : DiiFields) → turns ts d ≡ true → is_sound d ≡ true
turns_sound [] d e = e
turns_sound (t ∷ ts) d e = (and_parts _ _ e).0

-- by whether a DII turns, and whether it joins
pub by_admission : (P : List (Turn Heard) → Type 0) (ts : List (Turn Heard)) (d : DiiFields) → (turns ts d ≡ true → P (with_turning ts d (is_near (turnings ts) d)))
    → (turns ts d ≡ false → joins ts d ≡ true → P (with_joined (continued ts (ADii d)) d)) → (turns ts d ≡ false → joins ts d ≡ false → P (continued ts (ADii d))) → P (turn_after ts (ADii d))
by_admission P ts d turning joining else_ = go (turns ts d) (joins ts d) refl refl where
  go : (a b : Bool) → turns ts d ≡ a → joins ts d ≡ b → P (turn_after ts (ADii d))
  go true b e f = subst P (sym (cond-true (turns ts d) _ _ e)) (turning e)
  go false true e f = subst P (sym (cond-false (turns ts d) _ _ e ∙ cond-true (joins ts d) _ _ f)) (joining e f)
  go false false e f = subst P (sym (cond-false (turns ts d) _ _ e ∙ cond-false (joins ts d) _ _ f)) (else_ e f)

dii_tuned : (ts : List (Turn Heard)) (d : DiiFields) → newest_tuned ts → newest_tuned (turn_after ts (ADii d))
dii_tuned ts d a =
    by_admission newest_tuned ts d (λ e. turning_tuned ts d (is_near (turnings ts) d) (turns_sound ts d e)) (λ e f. joined ts f a) (λ e f. continued_tuned ts (ADii d) a) where
      joined : (ts : List (Turn Heard)) → joins ts d ≡ true → newest_tuned ts → newest_tuned (with_joined (continued ts (ADii d)) d)
      joined [] f a = absurd (true≢false (sym f))
      joined (t ∷ ts) f a = joined_tuned t ts d f a

after_tuned : (ts : List (Turn Heard)) (h : Heard) → newest_tuned ts → newest_tuned (turn_after ts h)
after_tuned ts (ADii d) a = dii_tuned ts d a
after_tuned ts (ABlock b) a = continued_tuned ts (ABlock b) a
after_tuned ts (ADsi d) a = continued_tuned ts (ADsi d) a
after_tuned ts (Skipped c) a = continued_tuned ts (Skipped c) a
after_tuned ts (NoControl c) a = continued_tuned ts (NoControl c) a
after_tuned ts (NoBlock c) a = continued_tuned ts (NoBlock c) a

pub all_tuned_from : (ts : List (Turn Heard)) (hs : List Heard) → newest_tuned ts → newest_tuned (fold turn_after ts hs)
all_tuned_from ts [] a = a
all_tuned_from ts (h ∷ hs) a = all_tuned_from (turn_after ts h) hs (after_tuned ts h a)

pub all_tuned : (hs : List Heard) → AreTuned (turns_of hs)
all_tuned hs = let a = all_tuned_from [] hs (tt, tt) in record { once = a.0; apart = a.1 }

-- ---- the state after one candidate

abbrev pub parts_in : List (Turn Heard) → TurnState
parts_in ts = record { cache = state_in block_in ts; label = label_in (turnings ts); epoch = epoch_of ts }

abbrev pub with_cache : TurnState → CacheState → TurnState
with_cache t c = record { cache = c; label = t.label; epoch = t.epoch }

-- what a candidate makes of it
abbrev pub parts_after : TurnState → Heard → TurnState
parts_after t (ADii d) = (after_dii t d).0
parts_after t (ABlock b) = with_cache t (offered t.cache b)
parts_after t (Skipped c) = t
parts_after t (NoControl c) = t
parts_after t (NoBlock c) = t
parts_after t (ADsi d) = t

state_passes : (ts : List (Turn Heard)) (h : Heard) → block_in h ≡ None → parts_in (continued ts h) ≡ parts_in ts
state_passes [] h e = refl
state_passes (t ∷ ts) h e = ap (with_cache (parts_in (t ∷ ts))) (state_stays block_in (t ∷ ts) h e)

state_takes : (ts : List (Turn Heard)) (b : ddb.Block) → AreTuned ts → parts_in (continued ts (ABlock b)) ≡ parts_after (parts_in ts) (ABlock b)
state_takes [] b a = refl
state_takes (t ∷ ts) b a = ap (with_cache (parts_in (t ∷ ts))) (state_moves block_in (t ∷ ts) (ABlock b) b refl a)

pub parts_same : (x y : CacheState) (a b : Option ℕ) (m n : ℕ) → x ≡ y → a ≡ b → m ≡ n → ◌≡◌ {A = TurnState} (record { cache = x; label = a; epoch = m }) (record { cache = y; label = b; epoch = n })
parts_same x y a b m n e f g = cc

-- a DII that turns
turn_is : (ts : List (Turn Heard)) (d : DiiFields) → parts_in (with_turning ts d (is_near (turnings ts) d)) ≡ turn_from (parts_in ts) (outlines (newest ts)) d
turn_is [] d = parts_same _ _ _ _ _ _ (state_turns block_in [] d false) refl refl
turn_is (t ∷ ts) d = parts_same _ _ _ _ _ _ (state_turns block_in (t ∷ ts) d (is_near (turnings (t ∷ ts)) d)) refl refl

-- a DII that joins
join_is : (t : Turn Heard) (ts : List (Turn Heard)) (d : DiiFields) → joins (t ∷ ts) d ≡ true → parts_in (with_joined (continued (t ∷ ts) (ADii d)) d) ≡ join_from (parts_in (t ∷ ts)) d
join_is t ts d e =
    let new : Turn Heard = record { turning = heard_by (ADii d) t.turning; joined = map (heard_by (ADii d)) t.joined } in
    let none : has_admitted t (identification d) ≡ false = sym (any_map (λ s. outline s.dii) (λ o. eqb o.identification (identification d)) (admitted t)) ∙ (joins_means t ts d e).other in
    let still : has_admitted new (identification d) ≡ false = any_map (heard_by (ADii d)) (λ s. eqb (identification s.dii) (identification d)) (admitted t) ∙ none in
    ap (with_cache (parts_in (t ∷ ts))) (state_joins block_in new ts d still ∙ ap (λ c. joined c d) (state_stays block_in (t ∷ ts) (ADii d) refl))

-- the rules in the order of the causes, and whether the DII turns or joins
first_by_rules : (t u j : TurnState) (zero_id within there room small : Bool) → ruled_by zero_id within true there room small u j (λ fed. t) ≡ cond (not zero_id && within) u (cond false j t)
first_by_rules t u j true within there room small = refl
first_by_rules t u j false true there room small = refl
first_by_rules t u j false false there room small = refl

by_rules : (t u j : TurnState) (zero_id within anew there room apart small : Bool)
    → ruled_by zero_id within anew there room (apart && small) u j (λ fed. t)
    ≡ cond ((not zero_id && within) && anew) u (cond ((not zero_id && within) && (((not there && apart) && room) && small)) j t)
by_rules t u j true within anew there room apart small = refl
by_rules t u j false false anew there room apart small = refl
by_rules t u j false true true there room apart small = refl
by_rules t u j false true false true room apart small = refl
by_rules t u j false true false false false true small = refl
by_rules t u j false true false false false false small = refl
by_rules t u j false true false false true false small = refl
by_rules t u j false true false false true true false = refl
by_rules t u j false true false false true true true = refl

ruled_is : (s : TurnState) (ts : List (Turn Heard)) (d : DiiFields)
    → ruled (outlines (newest ts)) d (turn_from s (outlines (newest ts)) d) (join_from s d) (λ fed. s)
    ≡ cond (turns ts d) (turn_from s (outlines (newest ts)) d) (cond (joins ts d) (join_from s d) s)
ruled_is s [] d = first_by_rules s (turn_from s [] d) (join_from s d) (eqb (identification d) 0) (is_within d) (is_there [] d) true (is_apart [] d && fits_beside [] d)
ruled_is s (t ∷ ts) d =
    by_rules s (turn_from s (outlines (admitted t)) d) (join_from s d) (eqb (identification d) 0) (is_within d) (not (eqb (version d) (version t.turning.dii)))
    (is_there (outlines (admitted t)) d) (ltb (length (outlines (admitted t))) MOST_HELD) (is_apart (outlines (admitted t)) d) (fits_beside (outlines (admitted t)) d)

after_dii_is : (ts : List (Turn Heard)) (d : DiiFields) → (after_dii (parts_in ts) d).0 ≡ cond (turns ts d) (turn_from (parts_in ts) (outlines (newest ts)) d) (cond (joins ts d) (join_from (parts_in ts) d) (parts_in ts))
after_dii_is ts d =
    let t : TurnState = parts_in ts in
    of_ruled {X = TurnState × Fed} (λ x. x.0) (held_outlines t.cache) d (turn_from t (held_outlines t.cache) d, Changed) (join_from t d, Changed) (λ fed. (t, fed))
    ∙ ap (λ os. ruled os d (turn_from t os d) (join_from t d) (λ fed. t)) (outlines_are block_in ts) ∙ ruled_is t ts d

state_of_dii : (ts : List (Turn Heard)) (d : DiiFields) → parts_in (turn_after ts (ADii d)) ≡ (after_dii (parts_in ts) d).0
state_of_dii ts d =
    by_admission (λ us. parts_in us ≡ (after_dii (parts_in ts) d).0) ts d
    (λ e. turn_is ts d ∙ sym (after_dii_is ts d ∙ cond-true (turns ts d) _ _ e))
    (λ e f. joining ts f ∙ sym (after_dii_is ts d ∙ cond-false (turns ts d) _ _ e ∙ cond-true (joins ts d) _ _ f))
    (λ e f. state_passes ts (ADii d) refl ∙ sym (after_dii_is ts d ∙ cond-false (turns ts d) _ _ e ∙ cond-false (joins ts d) _ _ f))
  where
    joining : (ts : List (Turn Heard)) → joins ts d ≡ true → parts_in (with_joined (continued ts (ADii d)) d) ≡ join_from (parts_in ts) d
    joining [] f = absurd (true≢false (sym f))
    joining (t ∷ ts) f = join_is t ts d f

-- one candidate more: the state is that of the turns with it
state_more : (ts : List (Turn Heard)) (h : Heard) → AreTuned ts → parts_in (turn_after ts h) ≡ parts_after (parts_in ts) h
state_more ts (ADii d) a = state_of_dii ts d
state_more ts (ABlock b) a = state_takes ts b a
state_more ts (ADsi d) a = state_passes ts (ADsi d) refl
state_more ts (Skipped c) a = state_passes ts (Skipped c) refl
state_more ts (NoControl c) a = state_passes ts (NoControl c) refl
state_more ts (NoBlock c) a = state_passes ts (NoBlock c) refl

pub state_after_all : (hs : List Heard) (h : Heard) → parts_in (turns_of (hs ++ h ∷ [])) ≡ parts_after (parts_in (turns_of hs)) h
state_after_all hs h = ap parts_in (turns_more hs h) ∙ state_more (turns_of hs) h (all_tuned hs)
