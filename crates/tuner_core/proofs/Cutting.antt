-- The spans are cuts of the list that was heard, and those that join a turn are found in its span looking forward.
use Rattle.std.proofs.Common.{ℕ, ◌≡◌, Bool, true, false, cond, eqb, ◌&&◌, List, [], ◌∷◌, ◌++◌, map, Option, Some, None, refl, sym, ap, subst, ◌∙◌, append_assoc, append-nil}
use Rattle.std.specs.List.{All, filter_map, fold, cons_option}
use Rattle.std.proofs.lemmas.List.Elements.{All-append, All-cons, All-nil, filter_map-append}
use Rattle.std.proofs.lemmas.Bool.{cond-false, eqb-true}
use Rattle.dsi_dii.specs.Controls.{DiiFields}
use Rattle.module_cache.specs.Joining.{Outline, outline}
use Rattle.module_cache.specs.Turns.{admitted, heard_by, continued, with_joined, Turn}
use Rattle.tuner_core.specs.Heard.{Heard, Skipped, NoControl, NoBlock, ADsi, ADii, ABlock}
use Rattle.tuner_core.specs.Said.{is_sound, sound_in}
use Rattle.module_cache.specs.Spans.{Span}
use Rattle.tuner_core.specs.Turns.{is_near, version, turning_after, turning_of, or_first, from_first, put_together, openings, turnings, outlines, is_room, turn_after, turns_of, joining_by, joining_in, AreJoined, AreOfOneVersion, AreKeptWhereNear, SpansAreOfTheList}

-- ---- those that join, with something more at the end

-- the last that is heard joins
abbrev joined_last : List Outline → ℕ → Bool → Option DiiFields → List (Span Heard)
joined_last os v kept (Some d) = cond (eqb (version d) v && is_room os d) (record { dii = d; kept = kept; since = [] } ∷ []) []
joined_last os v kept None = []

abbrev Grows : Heard → List Outline → ℕ → Bool → List (Span Heard) → List (Span Heard) → Type 0
Grows h os v kept more js = more ≡ map (heard_by h) js ++ joined_last (os ++ outlines js) v kept (sound_in h)

abbrev as_span : DiiFields → Bool → List Heard → Span Heard
as_span d kept since = record { dii = d; kept = kept; since = since }

joining_more : (hs : List Heard) (h : Heard) (os : List Outline) (v : ℕ) (kept : Bool) → Grows h os v kept (joining_in os v kept (hs ++ h ∷ [])) (joining_in os v kept hs)
joining_more [] h os v kept = alone (sound_in h) ∙ ap (λ xs. joined_last xs v kept (sound_in h)) (sym (append-nil os)) where
  alone : (o : Option DiiFields) → joining_by os v kept [] o [] (λ d. []) ≡ joined_last os v kept o
  alone (Some d) = refl
  alone None = refl
joining_more (x ∷ hs) h os v kept = go (sound_in x) (joining_more hs h os v kept) (λ d. joining_more hs h (os ++ outline d ∷ []) v kept) where
  go : (o : Option DiiFields) → Grows h os v kept (joining_in os v kept (hs ++ h ∷ [])) (joining_in os v kept hs)
      → ((d : DiiFields) → Grows h (os ++ outline d ∷ []) v kept (joining_in (os ++ outline d ∷ []) v kept (hs ++ h ∷ [])) (joining_in (os ++ outline d ∷ []) v kept hs))
      → Grows h os v kept (joining_by os v kept (hs ++ h ∷ []) o (joining_in os v kept (hs ++ h ∷ [])) (λ d. joining_in (os ++ outline d ∷ []) v kept (hs ++ h ∷ [])))
      (joining_by os v kept hs o (joining_in os v kept hs) (λ d. joining_in (os ++ outline d ∷ []) v kept hs))
  go None rest next = rest
  go (Some d) rest next = by (eqb (version d) v && is_room os d) rest (next d) where
    by : (t : Bool) → Grows h os v kept (joining_in os v kept (hs ++ h ∷ [])) (joining_in os v kept hs)
        → Grows h (os ++ outline d ∷ []) v kept (joining_in (os ++ outline d ∷ []) v kept (hs ++ h ∷ [])) (joining_in (os ++ outline d ∷ []) v kept hs)
        → Grows h os v kept (cond t (as_span d kept (hs ++ h ∷ []) ∷ joining_in (os ++ outline d ∷ []) v kept (hs ++ h ∷ [])) (joining_in os v kept (hs ++ h ∷ [])))
        (cond t (as_span d kept hs ∷ joining_in (os ++ outline d ∷ []) v kept hs) (joining_in os v kept hs))
    by false rest next = rest
    by true rest next =
        ap (λ js. as_span d kept (hs ++ h ∷ []) ∷ js) next
        ∙ ap (λ xs. as_span d kept (hs ++ h ∷ []) ∷ (map (heard_by h) (joining_in (os ++ outline d ∷ []) v kept hs) ++ joined_last xs v kept (sound_in h)))
        (append_assoc os (outline d ∷ []) (outlines (joining_in (os ++ outline d ∷ []) v kept hs)))

-- ---- one candidate more

joined_grows : (t : Turn Heard) (ts : List (Turn Heard)) (h : Heard) → AreJoined (t ∷ ts)
    → Grows h (outline t.turning.dii ∷ []) (version t.turning.dii) t.turning.kept (joining_in (outline t.turning.dii ∷ []) (version t.turning.dii) t.turning.kept (t.turning.since ++ h ∷ [])) t.joined
joined_grows t ts h a =
    joining_more t.turning.since h (outline t.turning.dii ∷ []) (version t.turning.dii) t.turning.kept
    ∙ ap (λ js. map (heard_by h) js ++ joined_last (outline t.turning.dii ∷ outlines js) (version t.turning.dii) t.turning.kept (sound_in h)) (sym a.0)

passed_joined : (t : Turn Heard) (ts : List (Turn Heard)) (h : Heard) → joined_last (outlines (admitted t)) (version t.turning.dii) t.turning.kept (sound_in h) ≡ [] → AreJoined (t ∷ ts) → AreJoined (continued (t ∷ ts) h)
passed_joined t ts h e a = (sym (joined_grows t ts h a ∙ ap (λ js. map (heard_by h) t.joined ++ js) e ∙ append-nil (map (heard_by h) t.joined)), a.1)

one_joined : (t : Turn Heard) (ts : List (Turn Heard)) (d : DiiFields) → joined_last (outlines (admitted t)) (version t.turning.dii) t.turning.kept (sound_in (ADii d)) ≡ as_span d t.turning.kept [] ∷ []
    → AreJoined (t ∷ ts) → AreJoined (with_joined (continued (t ∷ ts) (ADii d)) d)
one_joined t ts d e a = (sym (joined_grows t ts (ADii d) a ∙ ap (λ js. map (heard_by (ADii d)) t.joined ++ js) e), a.1)

-- a DII: sound or not, of the version or not, with room for it or not
dii_joined : (t : Turn Heard) (ts : List (Turn Heard)) (d : DiiFields) → AreJoined (t ∷ ts) → (s v r : Bool) → is_sound d ≡ s → eqb (version d) (version t.turning.dii) ≡ v → is_room (outlines (admitted t)) d ≡ r
    → AreJoined (turn_after (t ∷ ts) (ADii d))
dii_joined t ts d a false v r e f g = rw e (passed_joined t ts (ADii d) (rw e refl) a)
dii_joined t ts d a true false r e f g = rw (e, f) (refl, a)
dii_joined t ts d a true true true e f g = rw (e, f, g) (one_joined t ts d (rw (e, f, g) refl) a)
dii_joined t ts d a true true false e f g = rw (e, f, g) (passed_joined t ts (ADii d) (rw (e, f, g) refl) a)

first_joined : (d : DiiFields) (s : Bool) → is_sound d ≡ s → AreJoined (turn_after [] (ADii d))
first_joined d true e = rw e (refl, tt)
first_joined d false e = rw e tt

continued_joined : (ts : List (Turn Heard)) (h : Heard) → sound_in h ≡ None → AreJoined ts → AreJoined (continued ts h)
continued_joined [] h e a = tt
continued_joined (t ∷ ts) h e a = passed_joined t ts h (ap (joined_last (outlines (admitted t)) (version t.turning.dii) t.turning.kept) e) a

after_joined : (ts : List (Turn Heard)) (h : Heard) → AreJoined ts → AreJoined (turn_after ts h)
after_joined [] (ADii d) a = first_joined d (is_sound d) refl
after_joined (t ∷ ts) (ADii d) a = dii_joined t ts d a (is_sound d) (eqb (version d) (version t.turning.dii)) (is_room (outlines (admitted t)) d) refl refl refl
after_joined ts (ABlock b) a = continued_joined ts (ABlock b) refl a
after_joined ts (ADsi d) a = continued_joined ts (ADsi d) refl a
after_joined ts (Skipped c) a = continued_joined ts (Skipped c) refl a
after_joined ts (NoControl c) a = continued_joined ts (NoControl c) refl a
after_joined ts (NoBlock c) a = continued_joined ts (NoBlock c) refl a

all_joined : (ts : List (Turn Heard)) (hs : List Heard) → AreJoined ts → AreJoined (fold turn_after ts hs)
all_joined ts [] a = a
all_joined ts (h ∷ hs) a = all_joined (turn_after ts h) hs (after_joined ts h a)

-- ---- the cuts

-- after the newest turn
record Goes (t : Turn Heard) (ts : List (Turn Heard)) (hs : List Heard) : Type 0 where
  pub cut : openings (turnings (fold turn_after (t ∷ ts) hs)) ≡ openings (turnings (t ∷ ts)) ++ turning_after (version t.turning.dii) (filter_map sound_in hs)
  pub whole : put_together (turnings (fold turn_after (t ∷ ts) hs)) ≡ put_together (turnings (t ∷ ts)) ++ hs

abbrev as_turn : Heard → Turn Heard → List (Span Heard) → Turn Heard
as_turn h t js = record { turning = heard_by h t.turning; joined = js }

longer : (t : Turn Heard) (ts : List (Turn Heard)) (h : Heard) (js : List (Span Heard)) (hs : List Heard) → put_together (turnings (as_turn h t js ∷ ts)) ++ hs ≡ put_together (turnings (t ∷ ts)) ++ h ∷ hs
longer t ts h js hs =
    ap (λ xs. xs ++ hs) (sym (append_assoc (put_together (turnings ts)) (ADii t.turning.dii ∷ t.turning.since) (h ∷ [])))
    ∙ append_assoc (put_together (turnings ts) ++ ADii t.turning.dii ∷ t.turning.since) (h ∷ []) hs

-- what doesn't turn
stays_in : (t : Turn Heard) (ts : List (Turn Heard)) (h : Heard) (js : List (Span Heard)) (hs : List Heard) → turn_after (t ∷ ts) h ≡ as_turn h t js ∷ ts
    → turning_after (version t.turning.dii) (cons_option (sound_in h) (filter_map sound_in hs)) ≡ turning_after (version t.turning.dii) (filter_map sound_in hs)
    → Goes (as_turn h t js) ts hs → Goes t ts (h ∷ hs)
stays_in t ts h js hs e f g = record {
  cut = ap (λ us. openings (turnings (fold turn_after us hs))) e ∙ g.cut ∙ ap (λ ds. openings (turnings (t ∷ ts)) ++ ds) (sym f);
  whole = ap (λ us. put_together (turnings (fold turn_after us hs))) e ∙ g.whole ∙ longer t ts h js hs;
}

abbrev new_turn : DiiFields → Bool → Turn Heard
new_turn d kept = record { turning = as_span d kept []; joined = [] }

-- a DII: sound or not, of the version or not, with room for it or not
by_dii : (t : Turn Heard) (ts : List (Turn Heard)) (d : DiiFields) (hs : List Heard) → ((u : Turn Heard) (us : List (Turn Heard)) → Goes u us hs)
    → (s v r : Bool) → is_sound d ≡ s → eqb (version d) (version t.turning.dii) ≡ v → is_room (outlines (admitted t)) d ≡ r → Goes t ts (ADii d ∷ hs)
by_dii t ts d hs rest false v r e f g = stays_in t ts (ADii d) (map (heard_by (ADii d)) t.joined) hs (rw e refl) (rw e refl) (rest _ _)
by_dii t ts d hs rest true true true e f g =
    stays_in t ts (ADii d) (map (heard_by (ADii d)) t.joined ++ as_span d t.turning.kept [] ∷ []) hs (rw (e, f, g) refl) (rw (e, f) refl) (rest _ _)
by_dii t ts d hs rest true true false e f g = stays_in t ts (ADii d) (map (heard_by (ADii d)) t.joined) hs (rw (e, f, g) refl) (rw (e, f) refl) (rest _ _)
by_dii t ts d hs rest true false r e f g =
    let opened : turn_after (t ∷ ts) (ADii d) ≡ new_turn d (is_near (turnings (t ∷ ts)) d) ∷ t ∷ ts = rw (e, f) refl in
    let said : turning_after (version t.turning.dii) (cons_option (sound_in (ADii d)) (filter_map sound_in hs)) ≡ d ∷ turning_after (version d) (filter_map sound_in hs) = rw (e, f) refl in
    let g = rest (new_turn d (is_near (turnings (t ∷ ts)) d)) (t ∷ ts) in
    record {
      cut = ap (λ us. openings (turnings (fold turn_after us hs))) opened ∙ g.cut ∙ append_assoc (openings (turnings (t ∷ ts))) (d ∷ []) (turning_after (version d) (filter_map sound_in hs))
          ∙ ap (λ ds. openings (turnings (t ∷ ts)) ++ ds) (sym said);
      whole = ap (λ us. put_together (turnings (fold turn_after us hs))) opened ∙ g.whole ∙ append_assoc (put_together (turnings (t ∷ ts))) (ADii d ∷ []) hs;
    }

goes : (t : Turn Heard) (ts : List (Turn Heard)) (hs : List Heard) → Goes t ts hs
goes t ts [] = record { cut = sym (append-nil (openings (turnings (t ∷ ts)))); whole = sym (append-nil (put_together (turnings (t ∷ ts)))) }
goes t ts (ADii d ∷ hs) =
    by_dii t ts d hs (λ u us. goes u us hs) (is_sound d) (eqb (version d) (version t.turning.dii)) (is_room (outlines (admitted t)) d) refl refl refl
goes t ts (ABlock b ∷ hs) = stays_in t ts (ABlock b) (map (heard_by (ABlock b)) t.joined) hs refl refl (goes _ _ hs)
goes t ts (ADsi d ∷ hs) = stays_in t ts (ADsi d) (map (heard_by (ADsi d)) t.joined) hs refl refl (goes _ _ hs)
goes t ts (Skipped c ∷ hs) = stays_in t ts (Skipped c) (map (heard_by (Skipped c)) t.joined) hs refl refl (goes _ _ hs)
goes t ts (NoControl c ∷ hs) = stays_in t ts (NoControl c) (map (heard_by (NoControl c)) t.joined) hs refl refl (goes _ _ hs)
goes t ts (NoBlock c ∷ hs) = stays_in t ts (NoBlock c) (map (heard_by (NoBlock c)) t.joined) hs refl refl (goes _ _ hs)

record Cuts (hs : List Heard) : Type 0 where
  pub whole : put_together (turnings (turns_of hs)) ≡ from_first hs
  pub cut : openings (turnings (turns_of hs)) ≡ turning_of (filter_map sound_in hs)

-- before the first sound DII
nothing_yet : (h : Heard) (hs : List Heard) → sound_in h ≡ None → turn_after [] h ≡ [] → Cuts hs → Cuts (h ∷ hs)
nothing_yet h hs e f a = record {
  whole = ap (λ us. put_together (turnings (fold turn_after us hs))) f ∙ a.whole ∙ ap (λ o. or_first o (h ∷ hs) (from_first hs)) (sym e);
  cut = ap (λ us. openings (turnings (fold turn_after us hs))) f ∙ a.cut ∙ ap (λ o. turning_of (cons_option o (filter_map sound_in hs))) (sym e);
}

first_dii : (d : DiiFields) (hs : List Heard) → Cuts hs → (b : Bool) → is_sound d ≡ b → Cuts (ADii d ∷ hs)
first_dii d hs a false e = nothing_yet (ADii d) hs (cond-false _ _ _ e) (rw e refl) a
first_dii d hs a true e = let g = goes (new_turn d false) [] hs in record { whole = rw e g.whole; cut = rw e g.cut }

cuts : (hs : List Heard) → Cuts hs
cuts [] = record { whole = refl; cut = refl }
cuts (ADii d ∷ hs) = first_dii d hs (cuts hs) (is_sound d) refl
cuts (ABlock b ∷ hs) = nothing_yet (ABlock b) hs refl refl (cuts hs)
cuts (ADsi d ∷ hs) = nothing_yet (ADsi d) hs refl refl (cuts hs)
cuts (Skipped c ∷ hs) = nothing_yet (Skipped c) hs refl refl (cuts hs)
cuts (NoControl c ∷ hs) = nothing_yet (NoControl c) hs refl refl (cuts hs)
cuts (NoBlock c ∷ hs) = nothing_yet (NoBlock c) hs refl refl (cuts hs)

-- ---- the versions in a span, and what is kept

record Steady (ts : List (Turn Heard)) : Type 0 where
  pub one : AreOfOneVersion ts
  pub near : AreKeptWhereNear ts

abbrev IsAlike : DiiFields → DiiFields → Type 0
IsAlike first d = version d ≡ version first

-- what is heard is no sound DII, or one of the version
abbrev IsNoOther : DiiFields → Option DiiFields → Type 0
IsNoOther first None = Unit {0}
IsNoOther first (Some d) = IsAlike first d

one_more : (first : DiiFields) (o : Option DiiFields) → IsNoOther first o → All (IsAlike first) (cons_option o [])
one_more first None e = All-nil (IsAlike first)
one_more first (Some d) e = All-cons (IsAlike first) d [] e (All-nil (IsAlike first))

since_more : (first : DiiFields) (since : List Heard) (h : Heard) → IsNoOther first (sound_in h) → All (IsAlike first) (filter_map sound_in since)
    → All (IsAlike first) (filter_map sound_in (since ++ h ∷ []))
since_more first since h e a =
    subst (All (IsAlike first)) (sym (filter_map-append sound_in since (h ∷ [])))
    (All-append (IsAlike first) (filter_map sound_in since) (cons_option (sound_in h) []) a (one_more first (sound_in h) e))

heard_steady : (t : Turn Heard) (ts : List (Turn Heard)) (h : Heard) (js : List (Span Heard)) → IsNoOther t.turning.dii (sound_in h) → Steady (t ∷ ts) → Steady (as_turn h t js ∷ ts)
heard_steady t ts h js e s = record { one = (since_more t.turning.dii t.turning.since h e s.one.0, s.one.1); near = s.near }

-- a DII: sound or not, of the version or not, with room for it or not
dii_steady : (t : Turn Heard) (ts : List (Turn Heard)) (d : DiiFields) → Steady (t ∷ ts) → (s v r : Bool) → is_sound d ≡ s → eqb (version d) (version t.turning.dii) ≡ v → is_room (outlines (admitted t)) d ≡ r
    → Steady (turn_after (t ∷ ts) (ADii d))
dii_steady t ts d a false v r e f g = rw e (heard_steady t ts (ADii d) (map (heard_by (ADii d)) t.joined) (rw e tt) a)
dii_steady t ts d a true false r e f g = rw (e, f) (record { one = (All-nil (IsAlike d), a.one); near = (refl, a.near) })
dii_steady t ts d a true true true e f g =
    rw (e, f, g) (heard_steady t ts (ADii d) (map (heard_by (ADii d)) t.joined ++ as_span d t.turning.kept [] ∷ []) (rw e (eqb-true (version d) (version t.turning.dii) f)) a)
dii_steady t ts d a true true false e f g =
    rw (e, f, g) (heard_steady t ts (ADii d) (map (heard_by (ADii d)) t.joined) (rw e (eqb-true (version d) (version t.turning.dii) f)) a)

first_steady : (d : DiiFields) (s : Bool) → is_sound d ≡ s → Steady (turn_after [] (ADii d))
first_steady d true e = rw e (record { one = (All-nil (IsAlike d), tt); near = (refl, tt) })
first_steady d false e = rw e (record { one = tt; near = tt })

continued_steady : (ts : List (Turn Heard)) (h : Heard) → sound_in h ≡ None → Steady ts → Steady (continued ts h)
continued_steady [] h e a = a
continued_steady (t ∷ ts) h e a = heard_steady t ts h (map (heard_by h) t.joined) (rw e tt) a

after_steady : (ts : List (Turn Heard)) (h : Heard) → Steady ts → Steady (turn_after ts h)
after_steady [] (ADii d) a = first_steady d (is_sound d) refl
after_steady (t ∷ ts) (ADii d) a = dii_steady t ts d a (is_sound d) (eqb (version d) (version t.turning.dii)) (is_room (outlines (admitted t)) d) refl refl refl
after_steady ts (ABlock b) a = continued_steady ts (ABlock b) refl a
after_steady ts (ADsi d) a = continued_steady ts (ADsi d) refl a
after_steady ts (Skipped c) a = continued_steady ts (Skipped c) refl a
after_steady ts (NoControl c) a = continued_steady ts (NoControl c) refl a
after_steady ts (NoBlock c) a = continued_steady ts (NoBlock c) refl a

all_steady : (ts : List (Turn Heard)) (hs : List Heard) → Steady ts → Steady (fold turn_after ts hs)
all_steady ts [] a = a
all_steady ts (h ∷ hs) a = all_steady (turn_after ts h) hs (after_steady ts h a)

pub spans_are : SpansAreOfTheList
spans_are hs =
    let c = cuts hs in
    let s = all_steady [] hs (record { one = tt; near = tt }) in
    record { whole = c.whole; cut = c.cut; steady = s.one; kept = s.near; joined = all_joined [] hs tt }
