-- After a whole cycle of a generation each of its modules is whole.
use Rattle.std.proofs.Common.{◌≡◌, ℕ, ◌<◌, ◌≤◌, Bool, true, false, not, ◌==◌, List, [], ◌∷◌, ◌++◌, map, length, Some, is_some, refl, ap, sym, ◌∙◌, subst, arith, append_assoc, append-nil, lit<, cond, ◌||◌, eqb, Option, None}
use Rattle.std.specs.List.{All, Contains, fold, find, list_any}
use Rattle.std.proofs.lemmas.Bool.{eq-eqb, eqb-true, cond-false, cond-true, and_from, true≢false, ne_eqb, eqb-false}
use Rattle.std.proofs.lemmas.List.Elements.{All-head, All-tail, Contains-append_right}
use Rattle.std.specs.Option.{option_map, unwrap_or}
use Rattle.carousel_profile.specs.declared.TheConstants.{BLOCK_SIZE}
use Rattle.path_tree.specs.Paths.{Bytes}
use Rattle.ddb_block.specs.Blocks as ddb
use Rattle.dsi_dii.specs.Controls.{DiiFields}
use Rattle.dsi_dii.specs.declared.ModuleLine.{ModuleLine}
use Rattle.biop_object.specs.Names.{Layout, module_in}
use Rattle.cycle_planner.specs.declared.Item.TheVariants.{Block}
use Rattle.generation.specs.Lawful.{layout_at, version_in, dii_in, IsItem, EqualVersionsMeanEqualBytes, HasDii}
use Rattle.generation.specs.Groups.{group_of}
use Rattle.module_cache.specs.Joining.{outline, lists}
use Rattle.module_cache.specs.Turns.{admitted, newest, heard_by, continued, with_joined, before, Turn}
use Rattle.module_cache.proofs.CallerLemmas.{find_map}
use Rattle.tuner_core.specs.Heard.{Heard, Skipped, NoControl, NoBlock, ADsi, ADii, ABlock}
use Rattle.tuner_core.specs.LookBack.{bytes_if_fits, block_among, fits}
use Rattle.tuner_core.specs.Said as said
use Rattle.module_cache.specs.Turns as back
use Rattle.module_cache.specs.Spans.{Span}
use Rattle.tuner_core.specs.Turns.{stretch, earlier, version, identification, is_near, turnings, outlines, is_room, turns, joins, turn_after}
use Rattle.tuner_core.proofs.CallerLemmas.{by_admission, numbers, newest_distinct}
use Rattle.carousel_world.specs.Headline.{is_line_whole, listing, is_whole_in, whole_by}
use Rattle.carousel_world.specs.Receptions.{IsDiiOf}
use Rattle.carousel_world.proofs.Lists.{first_there, joined_all}
use Rattle.carousel_world.proofs.Modules.{IsSent, line_of, number_is, generation_is}
use Rattle.carousel_world.proofs.Saying.{says, module_of}
use Rattle.carousel_world.proofs.Rounds.{fits_itself}
use Rattle.carousel_world.proofs.Generations.{AreOf, IsSaidIn, AreHeardOf, gens_with, gens_after, newer, step_of, stretch_right, Each, each_same, each_found, IsAdmitted, turns_is, sound_of}
use Rattle.carousel_world.proofs.Wholeness.{module_some}
use Rattle.carousel_world.proofs.Room.{AreOfOne, room_there}
use Rattle.carousel_world.proofs.Tables.{find_append, or_else, line_if, span_line, admitted_is, any_found, IsRight, turn_right}

-- ---- what is heard after a DII

heards : List (ℕ × Heard) → List Heard
heards xs = map (λ x. x.1) xs

-- the DIIs of these are of generation g at most
abbrev pub UpTo : ℕ → Heard → ℕ → Type 0
UpTo g (ADii d) k = k ≤ g
UpTo g _ k = Unit {0}

pub head_gens : (k : ℕ) (gs : List ℕ) (b : Bool) → newer gs k ≡ b → (rest : List ℕ) × (gens_after gs k b ≡ k ∷ rest)
head_gens k gs true e = (gs, refl)
head_gens k [] false e = cc
head_gens k (g ∷ gs) false e = (gs, ap (λ x. x ∷ gs) (same (k == g) refl e)) where
  same : (t : Bool) → (k == g) ≡ t → not (k == g) ≡ false → g ≡ k
  same true t e = sym (eqb-true k g t)
  same false t e = let bad : not false ≡ false = subst (λ x. not x ≡ false) t e in cc

-- the state at a place of the list, and what is heard from there on
pub record AtPlace (carousel : ℕ) (ls : List Layout) (ts : List (Turn Heard)) (rest : List (ℕ × Heard)) : Type 0 where
  pub top : ℕ
  pub published : top < length ls
  pub gens : List ℕ
  pub are : AreOf carousel ls top gens ts
  pub heard : AreHeardOf carousel ls top gens rest

pub at_place : (carousel : ℕ) (ls : List Layout) → length ls ≤ 16384 → ((k : ℕ) → k < length ls → IsSent carousel ls k) → (top : ℕ) → top < length ls
    → (gs : List ℕ) (ts : List (Turn Heard)) → AreOf carousel ls top gs ts → (xs rest : List (ℕ × Heard)) → AreHeardOf carousel ls top gs (xs ++ rest)
    → AtPlace carousel ls (fold turn_after ts (map (λ x. x.1) xs)) rest
at_place carousel ls few sent top lt gs ts of [] rest heard = record { top = top; published = lt; gens = gs; are = of; heard = heard }
at_place carousel ls few sent top lt gs ts of (x ∷ xs) rest heard =
    at_place carousel ls few sent x.0 heard.1.0 (gens_with gs x.0 x.1) (turn_after ts x.1)
    (step_of carousel ls top x.0 heard.0 heard.1.0 few (sent x.0 heard.1.0) x.1 heard.1.1.0 gs ts heard.1.1.1.0 of) xs rest heard.1.1.1.1

-- ---- the span of a DII of the newest turn

-- the DII of this identification that is held
abbrev pub span_of : ℕ → List (Turn Heard) → Option (Span Heard)
span_of j ts = find (λ s. eqb (identification s.dii) j) (newest ts)

heard_too : (j : ℕ) (h : Heard) (s : Span Heard) (ss : List (Span Heard)) → find (λ s. eqb (identification s.dii) j) ss ≡ Some s → find (λ s. eqb (identification s.dii) j) (map (heard_by h) ss) ≡ Some (heard_by h s)
heard_too j h s ss e = find_map (heard_by h) (λ s. eqb (identification s.dii) j) ss ∙ ap (option_map (heard_by h)) e

continued_span : (j : ℕ) (h : Heard) (s : Span Heard) (ts : List (Turn Heard)) → span_of j ts ≡ Some s → span_of j (continued ts h) ≡ Some (heard_by h s)
continued_span j h s [] e = cc
continued_span j h s (t ∷ ts) e = heard_too j h s (admitted t) e

joined_span : (j : ℕ) (d : DiiFields) (s : Span Heard) (ts : List (Turn Heard)) → span_of j ts ≡ Some s → span_of j (with_joined (continued ts (ADii d)) d) ≡ Some (heard_by (ADii d) s)
joined_span j d s [] e = cc
joined_span j d s (t ∷ ts) e =
    find_append (λ s. eqb (identification s.dii) j) (map (heard_by (ADii d)) (admitted t)) (record { dii = d; kept = t.turning.kept; since = [] } ∷ [])
    ∙ ap (λ o. or_else o (find (λ s. eqb (identification s.dii) j) (record { dii = d; kept = t.turning.kept; since = [] } ∷ []))) (heard_too j (ADii d) s (admitted t) e)

-- what doesn't turn is heard in it
keeps_span : (j : ℕ) (s : Span Heard) (ts : List (Turn Heard)) (h : Heard) → ((d : DiiFields) → h ≡ ADii d → turns ts d ≡ false) → span_of j ts ≡ Some s → span_of j (turn_after ts h) ≡ Some (heard_by h s)
keeps_span j s ts (ADii d) none e =
    by_admission (λ us. span_of j us ≡ Some (heard_by (ADii d) s)) ts d (λ f. absurd (true≢false (sym f ∙ none d refl))) (λ f g. joined_span j d s ts e) (λ f g. continued_span j (ADii d) s ts e)
keeps_span j s ts (ABlock b) none e = continued_span j (ABlock b) s ts e
keeps_span j s ts (ADsi d) none e = continued_span j (ADsi d) s ts e
keeps_span j s ts (Skipped c) none e = continued_span j (Skipped c) s ts e
keeps_span j s ts (NoControl c) none e = continued_span j (NoControl c) s ts e
keeps_span j s ts (NoBlock c) none e = continued_span j (NoBlock c) s ts e

-- ---- nothing turns any more

same_newer : (g k : ℕ) (gs : List ℕ) → k ≡ g → newer (g ∷ gs) k ≡ false
same_newer g k gs e = ap not (eq-eqb k g e)

gens_stay : (g k : ℕ) (gs : List ℕ) (h : Heard) → UpTo g h k → g ≤ k → gens_with (g ∷ gs) k h ≡ g ∷ gs
gens_stay g k gs (ADii d) up le = ap (gens_after (g ∷ gs) k) (same_newer g k gs (omega (arith, up, le)))
gens_stay g k gs (ABlock b) up le = refl
gens_stay g k gs (ADsi d) up le = refl
gens_stay g k gs (Skipped c) up le = refl
gens_stay g k gs (NoControl c) up le = refl
gens_stay g k gs (NoBlock c) up le = refl

-- where the DII of identification j was heard, and then these
pub record EndsIn (carousel : ℕ) (ls : List Layout) (g j : ℕ) (after : List Heard) (ts : List (Turn Heard)) : Type 0 where
  pub top : ℕ
  pub published : top < length ls
  pub gens : List ℕ
  pub of : AreOf carousel ls top (g ∷ gens) ts
  pub span : Span Heard
  pub found : span_of j ts ≡ Some span
  pub has : (h : Heard) → Contains after h → Contains span.since h

none_turns : (carousel : ℕ) (ls : List Layout) (g top k : ℕ) → top ≤ k → g ≤ top → k < length ls → length ls ≤ 16384 → IsSent carousel ls k → (h : Heard) → IsSaidIn carousel ls k h → UpTo g h k
    → (gs : List ℕ) (ts : List (Turn Heard)) → AreOf carousel ls top (g ∷ gs) ts → (d : DiiFields) → h ≡ ADii d → turns ts d ≡ false
none_turns carousel ls g top k le low lt few sent (ADii e) said up gs ts of d f =
    let same : e ≡ d = dii_same e d f in
    turns_is carousel ls top k le lt few sent d (subst (IsDiiOf carousel ls k) same said) (g ∷ gs) ts of ∙ same_newer g k gs (omega (arith, up, le, low))
  where
    dii_same : (a b : DiiFields) → ADii a ≡ ADii b → a ≡ b
    dii_same a b e = cc
none_turns carousel ls g top k le low lt few sent (ABlock b) said up gs ts of d f = cc
none_turns carousel ls g top k le low lt few sent (ADsi b) said up gs ts of d f = cc
none_turns carousel ls g top k le low lt few sent (Skipped b) said up gs ts of d f = cc
none_turns carousel ls g top k le low lt few sent (NoControl b) said up gs ts of d f = cc
none_turns carousel ls g top k le low lt few sent (NoBlock b) said up gs ts of d f = cc

contains_right : (xs ys : List Heard) (h : Heard) → Contains ys h → Contains (xs ++ ys) h
contains_right xs ys h has = Contains-append_right xs ys h has

stays : (carousel : ℕ) (ls : List Layout) → length ls ≤ 16384 → ((k : ℕ) → k < length ls → IsSent carousel ls k) → (g j top : ℕ) → top < length ls → g ≤ top → (gs : List ℕ) (ts : List (Turn Heard)) → AreOf carousel ls top (g ∷ gs) ts
    → (s : Span Heard) → span_of j ts ≡ Some s → (before after : List Heard) → s.since ≡ before ++ after → (xs : List (ℕ × Heard)) → AreHeardOf carousel ls top (g ∷ gs) xs → All (λ x. UpTo g x.1 x.0) xs
    → EndsIn carousel ls g j (after ++ map (λ x. x.1) xs) (fold turn_after ts (map (λ x. x.1) xs))
stays carousel ls few sent g j top lt le gs ts of s found before after e [] heard upto = record {
  top = top;
  published = lt;
  gens = gs;
  of = of;
  span = s;
  found = found;
  has = λ h there. subst (λ hs. Contains hs h) (sym e) (contains_right before after h (subst (λ hs. Contains hs h) (append-nil after) there));
}
stays carousel ls few sent g j top lt le gs ts of s found before after e (x ∷ xs) heard upto =
    let up : UpTo g x.1 x.0 = All-head (λ x. UpTo g x.1 x.0) x xs upto in
    let low : g ≤ x.0 = omega (arith, le, heard.0) in
    let same : gens_with (g ∷ gs) x.0 x.1 ≡ g ∷ gs = gens_stay g x.0 gs x.1 up low in
    let stepped : AreOf carousel ls x.0 (g ∷ gs) (turn_after ts x.1) =
    subst (λ hs. AreOf carousel ls x.0 hs (turn_after ts x.1)) same (step_of carousel ls top x.0 heard.0 heard.1.0 few (sent x.0 heard.1.0) x.1 heard.1.1.0 (g ∷ gs) ts heard.1.1.1.0 of) in
    let next = keeps_span j s ts x.1 (none_turns carousel ls g top x.0 heard.0 le heard.1.0 few (sent x.0 heard.1.0) x.1 heard.1.1.0 up gs ts of) found in
    subst (λ hs. EndsIn carousel ls g j hs (fold turn_after (turn_after ts x.1) (map (λ x. x.1) xs))) (append_assoc after (x.1 ∷ []) (map (λ x. x.1) xs))
    (stays carousel ls few sent g j x.0 heard.1.0 low gs (turn_after ts x.1) stepped (heard_by x.1 s) next before (after ++ x.1 ∷ []) (ap (λ hs. hs ++ x.1 ∷ []) e ∙ append_assoc before after (x.1 ∷ []))
    xs (subst (λ hs. AreHeardOf carousel ls x.0 hs xs) same heard.1.1.1.1) (All-tail (λ x. UpTo g x.1 x.0) x xs upto))

-- ---- a DII of the generation is admitted, or was

pub record HasSpan (j : ℕ) (ts : List (Turn Heard)) : Type 0 where
  pub span : Span Heard
  pub found : span_of j ts ≡ Some span

found_if : {X : Type 0} (p : X → Bool) (xs : List X) → list_any p xs ≡ true → (x : X) × (find p xs ≡ Some x)
found_if p [] e = absurd (true≢false (sym e))
found_if p (x ∷ xs) e = go (p x) refl (found_if p xs) where
  go : (t : Bool) → p x ≡ t → (list_any p xs ≡ true → (y : _) × (find p xs ≡ Some y)) → (y : _) × (find p (x ∷ xs) ≡ Some y)
  go true f rest = (x, cond-true _ _ _ f)
  go false f rest = let r = rest (rw f at e) in (r.0, cond-false _ _ _ f ∙ r.1)

joins_there : (j : ℕ) (d : DiiFields) → eqb (identification d) j ≡ true → (ts : List (Turn Heard)) → HasSpan j (with_joined (continued ts (ADii d)) d)
joins_there j d mine [] = record { span = record { dii = d; kept = false; since = [] }; found = cond-true _ _ _ mine }
joins_there j d mine (t ∷ ts) = go (find (λ s. eqb (identification s.dii) j) (map (heard_by (ADii d)) (admitted t))) refl where
  new : Span Heard
  new = record { dii = d; kept = t.turning.kept; since = [] }

  all : span_of j (with_joined (continued (t ∷ ts) (ADii d)) d) ≡ or_else (find (λ s. eqb (identification s.dii) j) (map (heard_by (ADii d)) (admitted t))) (find (λ s. eqb (identification s.dii) j) (record { dii = d; kept = t.turning.kept; since = [] } ∷ []))
  all = find_append (λ s. eqb (identification s.dii) j) (map (heard_by (ADii d)) (admitted t)) (record { dii = d; kept = t.turning.kept; since = [] } ∷ [])

  go : (o : Option (Span Heard)) → find (λ s. eqb (identification s.dii) j) (map (heard_by (ADii d)) (admitted t)) ≡ o → HasSpan j (with_joined (continued (t ∷ ts) (ADii d)) d)
  go (Some s) e = record { span = s; found = all ∙ ap (λ o. or_else o (find (λ s. eqb (identification s.dii) j) (record { dii = d; kept = t.turning.kept; since = [] } ∷ []))) e }
  go None e = record {
    span = record { dii = d; kept = t.turning.kept; since = [] };
    found = all ∙ ap (λ o. or_else o (find (λ s. eqb (identification s.dii) j) (record { dii = d; kept = t.turning.kept; since = [] } ∷ []))) e ∙ cond-true _ _ _ mine;
  }

-- the DIIs of the newest turn, where a DII of generation k doesn't turn
of_one : (carousel : ℕ) (ls : List Layout) (top k : ℕ) (gs : List ℕ) (t : Turn Heard) (ts : List (Turn Heard)) → AreOf carousel ls top gs (t ∷ ts) → newer gs k ≡ false → AreOfOne carousel ls k (admitted t)
of_one carousel ls top k [] t ts of e = absurd of
of_one carousel ls top k (g ∷ gs) t ts of e =
    subst (λ n. AreOfOne carousel ls n (admitted t)) (same_gen (eqb k g) refl) (each_same (IsAdmitted carousel ls g top t.turning.kept) (λ s. IsDiiOf carousel ls g s.dii) (λ s a. a.dii) (admitted t) of.0.each) where
      same_gen : (t : Bool) → eqb k g ≡ t → g ≡ k
      same_gen true f = sym (eqb-true k g f)
      same_gen false f = let bad : not false ≡ false = subst (λ x. not x ≡ false) f e in cc

dii_there : (carousel : ℕ) (ls : List Layout) (top k j : ℕ) → top ≤ k → k < length ls → length ls ≤ 16384 → IsSent carousel ls k → HasDii ls k j → 1 ≤ j → j ≤ 16 → (gs : List ℕ) (ts : List (Turn Heard)) → AreOf carousel ls top gs ts → newest_distinct ts
    → HasSpan j (turn_after ts (ADii (dii_in carousel ls k j)))
dii_there carousel ls top k j le lt few sent has some small gs ts of distinct =
    by_admission (HasSpan j) ts d
    (λ f. record { span = record { dii = d; kept = is_near (turnings ts) d; since = [] }; found = cond-true _ _ _ mine })
    (λ f g. joins_there j d mine ts)
    (λ f g. already ts of distinct f g)
  where
    d : DiiFields
    d = dii_in carousel ls k j

    mine : eqb (identification (dii_in carousel ls k j)) j ≡ true
    mine = eq-eqb _ _ (number_is k j small)

    its : IsDiiOf carousel ls k (dii_in carousel ls k j)
    its = record { number = j; there = has; some = some; few = small; is = refl }

    already : (ts : List (Turn Heard)) → AreOf carousel ls top gs ts → newest_distinct ts → turns ts (dii_in carousel ls k j) ≡ false → joins ts (dii_in carousel ls k j) ≡ false → HasSpan j (continued ts (ADii (dii_in carousel ls k j)))
    already [] of distinct f g = absurd (true≢false (sym (sound_of carousel ls k (dii_in carousel ls k j) sent its) ∙ f))
    already (t ∷ ts) of distinct f g = go (list_any (λ n. eqb n j) (numbers (admitted t))) refl where
      one : AreOfOne carousel ls k (admitted t)
      one = of_one carousel ls top k gs t ts of (sym (turns_is carousel ls top k le lt few sent (dii_in carousel ls k j) its gs (t ∷ ts) of) ∙ f)

      in_numbers : (ss : List (Span Heard)) → list_any (λ n. eqb n j) (numbers ss) ≡ list_any (λ s. eqb (identification s.dii) j) ss
      in_numbers [] = refl
      in_numbers (s ∷ ss) = ap (λ b. eqb (identification s.dii) j || b) (in_numbers ss)

      go : (b : Bool) → list_any (λ n. eqb n j) (numbers (admitted t)) ≡ b → HasSpan j (continued (t ∷ ts) (ADii (dii_in carousel ls k j)))
      go true e =
          let found = found_if (λ s. eqb (identification s.dii) j) (admitted t) (sym (in_numbers (admitted t)) ∙ e) in
          record { span = heard_by (ADii (dii_in carousel ls k j)) found.0; found = heard_too j (ADii (dii_in carousel ls k j)) found.0 (admitted t) found.1 }
      go false e =
          let room : is_room (outlines (admitted t)) (dii_in carousel ls k j) ≡ true = room_there carousel ls k j sent some small (admitted t) one distinct e in
          absurd (true≢false (sym (and_from _ _ (sound_of carousel ls k (dii_in carousel ls k j) sent its) room) ∙ g))

-- ---- after DII j of generation g, up to it

same_generation : (carousel : ℕ) (ls : List Layout) (g k j : ℕ) → g < 16384 → k < 16384 → j ≤ 16 → IsDiiOf carousel ls k (dii_in carousel ls g j) → k ≡ g
same_generation carousel ls g k j gt kt le of =
    sym (ap version of.is ∙ generation_is k of.number kt of.few) ∙ generation_is g j gt le

pub ends_in : (carousel : ℕ) (ls : List Layout) → length ls ≤ 16384 → ((k : ℕ) → k < length ls → IsSent carousel ls k) → (g j : ℕ) → g < length ls → HasDii ls g j → 1 ≤ j → j ≤ 16
    → (ts : List (Turn Heard)) → newest_distinct ts → (x : ℕ × Heard) (rest : List (ℕ × Heard)) → AtPlace carousel ls ts (x ∷ rest) → x.1 ≡ ADii (dii_in carousel ls g j) → All (λ y. UpTo g y.1 y.0) rest
    → EndsIn carousel ls g j (map (λ y. y.1) rest) (fold turn_after ts (map (λ y. y.1) (x ∷ rest)))
ends_in carousel ls few sent g j lt own some small ts distinct (k, h) rest at e upto =
    let said : IsDiiOf carousel ls k (dii_in carousel ls g j) = subst (IsSaidIn carousel ls k) e at.heard.1.1.0 in
    let same : k ≡ g = same_generation carousel ls g k j (omega (arith, lt, few)) (omega (arith, at.heard.1.0, few)) small said in
    let stepped = step_of carousel ls at.top k at.heard.0 at.heard.1.0 few (sent k at.heard.1.0) h at.heard.1.1.0 at.gens ts at.heard.1.1.1.0 at.are in
    let head = head_gens k at.gens (newer at.gens k) refl in
    let gens : gens_with at.gens k h ≡ g ∷ head.0 = ap (gens_with at.gens k) e ∙ head.1 ∙ ap (λ n. n ∷ head.0) same in
    let opened : AreOf carousel ls k (g ∷ head.0) (turn_after ts h) = subst (λ gs. AreOf carousel ls k gs (turn_after ts h)) gens stepped in
    let there : HasSpan j (turn_after ts (ADii (dii_in carousel ls k j))) =
    dii_there carousel ls at.top k j at.heard.0 at.heard.1.0 few (sent k at.heard.1.0) (subst (λ n. HasDii ls n j) (sym same) own) some small at.gens ts at.are distinct in
    let here : HasSpan j (turn_after ts h) = subst (λ y. HasSpan j (turn_after ts y)) (ap (λ n. ADii (dii_in carousel ls n j)) same ∙ sym e) there in
    let low : g ≤ k = omega (arith, same) in
    stays carousel ls few sent g j k at.heard.1.0 low head.0 (turn_after ts h) opened here.span here.found here.span.since [] (sym (append-nil here.span.since)) rest
    (subst (λ gs. AreHeardOf carousel ls k gs rest) gens at.heard.1.1.1.1) upto

-- ---- each module is whole

block_fits_here : (carousel : ℕ) (ls : List Layout) (g : ℕ) (held : DiiFields) (m b : ℕ) (bytes : Bytes) → held.download ≡ carousel → held.block_size ≡ BLOCK_SIZE → module_in (layout_at ls g) m ≡ Some bytes → b < ddb.block_count_of (length bytes) BLOCK_SIZE
    → bytes_if_fits held (line_of (version_in ls g) (m, bytes)) b (says carousel ls g (Block m b)) ≡ Some (ddb.block_of bytes BLOCK_SIZE b)
block_fits_here carousel ls g held m b bytes own size listed lt =
    let same : module_of ls g m ≡ bytes = ap (λ o. unwrap_or o []) listed in
    let x : ddb.Block = record { download = carousel; module_id = m; version = version_in ls g m; number = b; bytes = ddb.block_of bytes BLOCK_SIZE b } in
    ap (λ y. bytes_if_fits held (line_of (version_in ls g) (m, bytes)) b (ABlock (record { download = carousel; module_id = m; version = version_in ls g m; number = b; bytes = ddb.block_of y BLOCK_SIZE b }))) same
    ∙ cond-true (fits held (line_of (version_in ls g) (m, bytes)) b x) (Some (ddb.block_of bytes BLOCK_SIZE b)) None (fits_itself carousel held (version_in ls g) (m, bytes) b own size lt)

module_whole : (carousel : ℕ) (ls : List Layout) → EqualVersionsMeanEqualBytes ls → (g top : ℕ) → top < length ls → g < length ls → (kept : Bool) (ts : List (Turn Heard)) (s : Span Heard) → IsRight carousel ls g top kept ts s
    → (m : ℕ) (bytes : Bytes) → module_in (layout_at ls g) m ≡ Some bytes → ((b : ℕ) → IsItem ls g (Block m b) → Contains s.since (says carousel ls g (Block m b)))
    → back.module_among said.block_in (stretch s (before s ts) (line_of (version_in ls g) (m, bytes))) s.dii (line_of (version_in ls g) (m, bytes)) ≡ Some bytes
module_whole carousel ls law g top lt glt kept ts s r m bytes listed has =
    let line = line_of (version_in ls g) (m, bytes) in
    let held = dii_in carousel ls g (identification s.dii) in
    let all = earlier held line s.kept (before s ts) ++ s.since in
    subst (λ d. back.module_among said.block_in (earlier d line s.kept (before s ts) ++ s.since) d line ≡ Some bytes) (sym (admitted_is carousel ls g top kept s r.is))
    (joined_all (block_among all held line) bytes BLOCK_SIZE (lit< tt)
    (λ b inside.
    let there : Contains all (says carousel ls g (Block m b)) = contains_right (earlier held line s.kept (before s ts)) s.since (says carousel ls g (Block m b)) (has b (glt, (bytes, listed, inside))) in
    first_there (bytes_if_fits held line b) (ddb.block_of bytes BLOCK_SIZE b) all there.0 (says carousel ls g (Block m b))
    (stretch_right carousel ls law (identification s.dii) g top lt s r.gens (before s ts) r.chain_is held (m, bytes) listed b)
    there.1 (ap (bytes_if_fits held line b) there.2 ∙ block_fits_here carousel ls g held m b bytes refl refl listed inside)))

line_there : (b : Bool) (l : ModuleLine) → is_some (line_if b l) ≡ b
line_there true l = refl
line_there false l = refl

turned_round : (a b : ℕ) → eqb a b ≡ eqb b a
turned_round a b = go (eqb a b) refl where
  go : (t : Bool) → eqb a b ≡ t → t ≡ eqb b a
  go true e = sym (eq-eqb b a (sym (eqb-true a b e)))
  go false e = sym (ne_eqb b a (λ f. eqb-false a b e (sym f)))

lists_is : (carousel : ℕ) (ls : List Layout) (g top : ℕ) (kept : Bool) (s : Span Heard) → IsAdmitted carousel ls g top kept s → (m : ℕ) (bytes : Bytes) → module_in (layout_at ls g) m ≡ Some bytes
    → lists (outline s.dii) m ≡ eqb (identification s.dii) (group_of m)
lists_is carousel ls g top kept s a m bytes listed =
    any_found m s.dii.modules ∙ ap (λ o. is_some o) (span_line carousel ls g top kept s a m bytes listed) ∙ line_there (eqb (group_of m) (identification s.dii)) (line_of (version_in ls g) (m, bytes))
    ∙ turned_round (group_of m) (identification s.dii)

-- the DII that lists a module is the one of its group
listing_is : (carousel : ℕ) (ls : List Layout) (g top : ℕ) (kept : Bool) (m : ℕ) (bytes : Bytes) → module_in (layout_at ls g) m ≡ Some bytes → (ss : List (Span Heard)) → Each (IsAdmitted carousel ls g top kept) ss
    → listing m ss ≡ find (λ s. eqb (identification s.dii) (group_of m)) ss
listing_is carousel ls g top kept m bytes listed [] each = refl
listing_is carousel ls g top kept m bytes listed (s ∷ ss) each =
    ap (λ t. cond t (Some s) (listing m ss)) (lists_is carousel ls g top kept s each.0 m bytes listed)
    ∙ ap (λ o. cond (eqb (identification s.dii) (group_of m)) (Some s) o) (listing_is carousel ls g top kept m bytes listed ss each.1)

-- where each block was heard after the DII of its group
pub whole_there : (carousel : ℕ) (ls : List Layout) → EqualVersionsMeanEqualBytes ls → (g top : ℕ) (gs : List ℕ) (ts : List (Turn Heard)) → top < length ls → g < length ls → AreOf carousel ls top (g ∷ gs) ts
    → (m : ℕ) (bytes : Bytes) → module_in (layout_at ls g) m ≡ Some bytes → (s : Span Heard) → span_of (group_of m) ts ≡ Some s
    → ((b : ℕ) → IsItem ls g (Block m b) → Contains s.since (says carousel ls g (Block m b))) → is_whole_in ts m ≡ true
whole_there carousel ls law g top gs [] lt glt of m bytes listed s found has = absurd of
whole_there carousel ls law g top gs (t ∷ ts) lt glt of m bytes listed s found has =
    let right = each_found (IsRight carousel ls g top t.turning.kept ts) (λ s. eqb (identification s.dii) (group_of m)) s (admitted t) (turn_right carousel ls g top gs t ts of) found in
    let own : eqb (group_of m) (identification s.dii) ≡ true = turned_round (group_of m) (identification s.dii) ∙ right.1 in
    ap (whole_by ts m) (listing_is carousel ls g top t.turning.kept m bytes listed (admitted t) of.0.each ∙ found)
    ∙ ap (is_line_whole s (before s ts)) (span_line carousel ls g top t.turning.kept s right.0.is m bytes listed ∙ cond-true _ _ _ own)
    ∙ sym (module_some s (before s ts) (line_of (version_in ls g) (m, bytes)))
    ∙ ap (λ o. is_some o) (module_whole carousel ls law g top lt glt t.turning.kept ts s right.0 m bytes listed has)
