-- What the code does with the lists of DIIs that are held and that wait.
use Rattle.std.proofs.Common.{ℕ, zero, suc, ◌≡◌, ◌+◌, ◌-◌, ◌<◌, ◌≤◌, Bool, true, false, cond, not, eqb, ◌&&◌, List, [], ◌∷◌, ◌++◌, length, get_or, drop, map, Option, Some, None, refl, sym, ap, subst, ◌∙◌, arith, length-append}
use Rattle.std.proofs.Math.ListN.{set}
use Rattle.std.specs.List.{filter, find, list_any, flat_map, remove}
use Rattle.std.proofs.lemmas.Bool.{cond-true, cond-false, eqb-true, eq-eqb, or_parts, and_parts, not-true}
use Rattle.std.proofs.lemmas.List.{map-append, drop_all}
use Rattle.ddb_block.specs.Blocks as ddb
use Rattle.dsi_dii.specs.Controls.{DiiFields}
use Rattle.dsi_dii.specs.declared.ModuleLine.{ModuleLine}
use Rattle.module_cache.specs.Held.{TunedState, tuned_after, lines_after, line_after, kept_line, line_fresh, line_from, tuned_from, fresh_tuned, with_first, slot_in_line}
use Rattle.module_cache.specs.Joining.{slot_from, CacheState, Outline, outline, outline_held, lists, is_there, is_apart, AreApart, AreOnce, AreDistinct, joining, joined, turned, has_line, offered, is_any, no_id_twice, is_within}
use Rattle.module_cache.specs.Inner.Joining.{numbers, without, IsHeld}
use Rattle.module_cache.specs.Inner.Keeping.{tuned_keeping}
use Rattle.module_cache.specs.Slots.{Unlisted}
use Rattle.module_cache.specs.Spans.{identification, same_line}
use Rattle.module_cache.specs.declared.stored.Line.{Line}
use Rattle.module_cache.proofs.Apart.{apart_more, once_more, distinct_more, distinct_left}
use Rattle.module_cache.proofs.Contents.{turned_round}
use Rattle.module_cache.proofs.Keeping.{keeping_is, fresh_says, same_says, after_says, within_once}
use Rattle.module_cache.proofs.Lists.{any_map, map_map, map_back, find_past, find_front}
use Rattle.module_cache.proofs.Places.{IsFirst, next_one}
use Rattle.module_cache.proofs.Turning.{states}

-- ---- what waits

pub first_removed : (i : ℕ) (ts : List TunedState) (k : ℕ) (d : TunedState) → IsFirst (λ t. eqb t.identification i) ts k d → remove ts k ≡ without i ts
first_removed i [] k d f = absurd (omega (arith, f.inside))
first_removed i (t ∷ ts) zero d f = sym (cond-true _ _ _ f.passes)
first_removed i (t ∷ ts) (suc k) d f =
    ap (λ us. t ∷ us) (first_removed i ts k d (record { inside = omega (arith, f.inside); passes = f.passes; before = λ j lt. f.before (suc j) (omega (arith, lt)) }))
    ∙ sym (cond-false _ _ _ (f.before 0 (omega arith)))

pub none_removed : (i : ℕ) (ts : List TunedState) → find (λ t. eqb t.identification i) ts ≡ None → ts ≡ without i ts
none_removed i [] e = refl
none_removed i (t ∷ ts) e = go (eqb t.identification i) refl (none_removed i ts) where
  go : (b : Bool) → eqb t.identification i ≡ b → (find (λ t. eqb t.identification i) ts ≡ None → ts ≡ without i ts) → t ∷ ts ≡ without i (t ∷ ts)
  go true f rest = let bad : Some t ≡ None = sym (cond-true _ _ _ f) ∙ e in cc
  go false f rest = ap (λ us. t ∷ us) (rest (sym (cond-false _ _ _ f) ∙ e)) ∙ sym (cond-false _ _ _ f)

none_filtered : (i : ℕ) (ts : List TunedState) → list_any (λ k. eqb k i) (numbers ts) ≡ false → filter (λ t. not (eqb i t.identification)) ts ≡ ts
none_filtered i [] e = refl
none_filtered i (t ∷ ts) e =
    let p = or_parts _ _ e in
    cond-true _ _ _ (ap not (turned_round t.identification i false p.0)) ∙ ap (λ us. t ∷ us) (none_filtered i ts p.1)

-- one of an identification waits at most
pub without_is : (i : ℕ) (ts : List TunedState) → AreDistinct (numbers ts) → without i ts ≡ filter (λ t. not (eqb i t.identification)) ts
without_is i [] a = refl
without_is i (t ∷ ts) a = go (eqb t.identification i) refl (without_is i ts a.1) where
  go : (b : Bool) → eqb t.identification i ≡ b → without i ts ≡ filter (λ t. not (eqb i t.identification)) ts → without i (t ∷ ts) ≡ filter (λ t. not (eqb i t.identification)) (t ∷ ts)
  go true f rest =
      cond-true _ _ _ f
      ∙ sym (none_filtered i ts (subst (λ k. list_any (λ n. eqb n k) (numbers ts) ≡ false) (eqb-true _ _ f) a.0))
      ∙ sym (cond-false _ _ _ (ap not (eq-eqb i t.identification (sym (eqb-true _ _ f)))))
  go false f rest = cond-false _ _ _ f ∙ ap (λ us. t ∷ us) rest ∙ sym (cond-true _ _ _ (ap not (turned_round t.identification i false f)))

-- what is taken over
pub taken_over : (waiting : List TunedState) (d : DiiFields) (t old x : TunedState) → t ≡ fresh_tuned d → no_id_twice d.modules ≡ true → no_id_twice (map (λ y. y.line) old.lines) ≡ true
    → find (λ u. eqb u.identification t.identification) waiting ≡ Some old → x ≡ tuned_keeping t old → x ≡ joining waiting d
taken_over waiting d t old x fresh once o found e =
    e ∙ ap (λ u. tuned_keeping u old) fresh ∙ keeping_is old d once o
    ∙ ap (λ p. tuned_from p d) (sym found ∙ ap (λ i. find (λ u. eqb u.identification i) waiting) (ap (λ u. u.identification) fresh))

pub nothing_over : (waiting : List TunedState) (d : DiiFields) (t : TunedState) → t ≡ fresh_tuned d → find (λ u. eqb u.identification t.identification) waiting ≡ None → t ≡ joining waiting d
nothing_over waiting d t fresh none =
    fresh ∙ ap (λ p. tuned_from p d) (sym none ∙ ap (λ i. find (λ u. eqb u.identification i) waiting) (ap (λ u. u.identification) fresh))

-- ---- what a DII lists, once it is held

kept_says : (block_size : ℕ) (l : ModuleLine) (o : Option Line) → (kept_line block_size l o).line ≡ l
kept_says block_size l None = refl
kept_says block_size l (Some x) = go (same_line x.line l) where
  go : (b : Bool) → (cond b (record { line = l; stored = x.stored }) (line_fresh block_size l)).line ≡ l
  go true = refl
  go false = refl

from_says : (t : TunedState) (d : DiiFields) (l : ModuleLine) → (line_from t d l).line ≡ l
from_says t d l = go (eqb t.download d.download && eqb t.block_size d.block_size) where
  go : (b : Bool) → (cond b (kept_line d.block_size l (find (λ x. eqb x.line.id l.id) t.lines)) (line_fresh d.block_size l)).line ≡ l
  go true = kept_says d.block_size l (find (λ x. eqb x.line.id l.id) t.lines)
  go false = refl

with_modules : DiiFields → List ModuleLine → Outline
with_modules d ms = record { identification = identification d; version = (outline d).version; modules = ms }

pub outline_joining : (waiting : List TunedState) (d : DiiFields) → outline_held (joining waiting d) ≡ outline d
unfolding with_modules
outline_joining waiting d = go (find (λ t. eqb t.identification (identification d)) waiting) where
  go : (o : Option TunedState) → outline_held (tuned_from o d) ≡ outline d
  go None = ap (with_modules d) (fresh_says d.block_size d.modules)
  go (Some t) = ap (with_modules d) (map_back (line_from t d) (λ x. x.line) (from_says t d) d.modules)

numbers_are : (ts : List TunedState) → numbers ts ≡ map (λ o. o.identification) (map outline_held ts)
numbers_are ts = sym (map_map outline_held (λ o. o.identification) ts)

-- ---- the cache after a call

outlines_joined : (c : CacheState) (d : DiiFields) → map outline_held (joined c d).held ≡ map outline_held c.held ++ outline d ∷ []
outlines_joined c d = map-append outline_held c.held (joining c.waiting d ∷ []) ∙ ap (λ o. map outline_held c.held ++ o ∷ []) (outline_joining c.waiting d)

numbers_joined : (c : CacheState) (d : DiiFields) → numbers (joined c d).held ≡ numbers c.held ++ identification d ∷ []
numbers_joined c d = map-append (λ t. t.identification) c.held (joining c.waiting d ∷ []) ∙ ap (λ o. numbers c.held ++ o.identification ∷ []) (outline_joining c.waiting d)

pub held_joined : (c : CacheState) (d : DiiFields) → IsHeld c → is_within d ≡ true
    → (not (is_there (map outline_held c.held) d) && is_apart (map outline_held c.held) d) ≡ true → IsHeld (joined c d)
held_joined c d h within may =
    let parts = and_parts _ _ may in
    let other : is_there (map outline_held c.held) d ≡ false = not-true _ parts.0 in
    let apart : list_any (λ l. list_any (λ o. lists o l.id) (map outline_held c.held)) d.modules ≡ false = not-true _ parts.1 in
    record {
      once = subst AreOnce (sym (outlines_joined c d)) (once_more (map outline_held c.held) d h.once (within_once d within));
      apart = subst AreApart (sym (outlines_joined c d)) (apart_more (map outline_held c.held) d h.apart apart);
      distinct = subst AreDistinct (sym (numbers_joined c d))
          (distinct_more (numbers c.held) (identification d) h.distinct
          (any_map (λ t. t.identification) (λ k. eqb k (identification d)) c.held ∙ sym (any_map outline_held (λ o. eqb o.identification (identification d)) c.held) ∙ other));
      waiting = distinct_left (λ t. not (eqb (identification d) t.identification)) c.waiting h.waiting;
    }

nothing_held : (waiting : List TunedState) → AreDistinct (numbers waiting) → IsHeld (record { held = []; waiting = waiting })
nothing_held waiting a = record { once = tt; apart = tt; distinct = tt; waiting = a }

none_among_none : (d : DiiFields) (ms : List ModuleLine) → list_any (λ l. list_any (λ o. lists o l.id) []) ms ≡ false
none_among_none d [] = refl
none_among_none d (m ∷ ms) = none_among_none d ms

pub held_turned : (c : CacheState) (d : DiiFields) (keep : Bool) → IsHeld c → is_within d ≡ true → IsHeld (turned c d keep)
held_turned c d keep h within =
    held_joined (record { held = []; waiting = cond keep c.held [] }) d (nothing_held (cond keep c.held []) (either keep)) within (ap not (none_among_none d d.modules)) where
      either : (k : Bool) → AreDistinct (numbers (cond k c.held []))
      either true = h.distinct
      either false = tt

with_lines : TunedState → List ModuleLine → Outline
with_lines t ms = record { identification = t.identification; version = t.version; modules = ms }

after_outline : (t : TunedState) (b : ddb.Block) → outline_held (tuned_after t b) ≡ outline_held t
unfolding with_lines
after_outline t b = go (eqb t.download b.download) where
  go : (c : Bool) → outline_held (cond c (record t { lines = lines_after b t.lines }) t) ≡ outline_held t
  go true = ap (with_lines t) (same_says (λ x. eqb x.line.id b.module_id) (line_after b) (after_says b) t.lines)
  go false = refl

after_outlines : (p : TunedState → Bool) (b : ddb.Block) (ts : List TunedState) → map outline_held (with_first p (λ t. tuned_after t b) ts) ≡ map outline_held ts
after_outlines p b [] = refl
after_outlines p b (t ∷ ts) = go (p t) (after_outlines p b ts) where
  go : (c : Bool) → map outline_held (with_first p (λ t. tuned_after t b) ts) ≡ map outline_held ts
      → map outline_held (cond c (tuned_after t b ∷ ts) (t ∷ with_first p (λ t. tuned_after t b) ts)) ≡ outline_held t ∷ map outline_held ts
  go true rest = ap (λ o. o ∷ map outline_held ts) (after_outline t b)
  go false rest = ap (λ os. outline_held t ∷ os) rest

pub held_offered : (c : CacheState) (b : ddb.Block) → IsHeld c → IsHeld (offered c b)
held_offered c b h =
    let same : map outline_held (offered c b).held ≡ map outline_held c.held = after_outlines (has_line b) b c.held in
    record {
      once = subst AreOnce (sym same) h.once;
      apart = subst AreApart (sym same) h.apart;
      distinct = subst AreDistinct (sym (numbers_are (offered c b).held ∙ ap (map (λ o. o.identification)) same ∙ sym (numbers_are c.held))) h.distinct;
      waiting = h.waiting;
    }

-- ---- the state that a call leaves

pub turn_left : (old : CacheState) (d : DiiFields) (keep : Bool) (held waiting left : List TunedState) (t x : TunedState) → IsHeld old → held ≡ t ∷ [] → t ≡ fresh_tuned d → waiting ≡ cond keep old.held []
    → x ≡ joining waiting d → left ≡ without t.identification waiting → ◌≡◌ {A = CacheState} (record { held = set held 0 x; waiting = left }) (turned old d keep)
turn_left old d keep held waiting left t x h one fresh was joins removed =
    states _ _ _ _ (ap (λ hs. set hs 0 x) one ∙ ap (λ u. u ∷ []) (joins ∙ ap (λ ws. joining ws d) was))
    (removed ∙ ap (λ u. without u.identification waiting) fresh ∙ ap (without (identification d)) was ∙ without_is (identification d) (cond keep old.held []) (either keep)) where
      either : (k : Bool) → AreDistinct (numbers (cond k old.held []))
      either true = h.distinct
      either false = tt

set_last : (hs : List TunedState) (t x : TunedState) → set (hs ++ t ∷ []) (length hs) x ≡ hs ++ x ∷ []
set_last [] t x = refl
set_last (h ∷ hs) t x = ap (λ us. h ∷ us) (set_last hs t x)

pub join_left : (old : CacheState) (d : DiiFields) (held left : List TunedState) (t x : TunedState) (last : ℕ) → IsHeld old → held ≡ old.held ++ t ∷ [] → t ≡ fresh_tuned d → last ≡ length old.held
    → x ≡ joining old.waiting d → left ≡ without t.identification old.waiting → ◌≡◌ {A = CacheState} (record { held = set held last x; waiting = left }) (joined old d)
join_left old d held left t x last h more fresh at joins removed =
    states _ _ _ _ (ap (λ hs. set hs last x) more ∙ ap (λ k. set (old.held ++ t ∷ []) k x) at ∙ set_last old.held t x ∙ ap (λ u. old.held ++ u ∷ []) joins)
    (removed ∙ ap (λ u. without u.identification old.waiting) fresh ∙ without_is (identification d) old.waiting h.waiting)

pub is_any_if : {X : Type 0} (xs : List X) → eqb (length xs) 0 ≡ false → is_any xs ≡ true
is_any_if [] e = cc
is_any_if (x ∷ xs) e = refl

-- ---- the same, step by step as the code goes

pub turn_made : (old : CacheState) (d : DiiFields) (keep : Bool) (dest pushed none before kept left : List TunedState) (tuned t x : TunedState) → IsHeld old → dest ≡ pushed → pushed ≡ none ++ tuned ∷ [] → none ≡ [] → tuned ≡ fresh_tuned d
    → t ≡ get_or dest 0 t → kept ≡ cond keep before [] → before ≡ old.held → (t ≡ fresh_tuned d → x ≡ joining kept d) → left ≡ without t.identification kept
    → ◌≡◌ {A = CacheState} (record { held = set dest 0 x; waiting = left }) (turned old d keep)
turn_made old d keep dest pushed none before kept left tuned t x h moved more empty fresh at chosen was joins removed =
    let one : dest ≡ tuned ∷ [] = moved ∙ more ∙ ap (λ ts. ts ++ tuned ∷ []) empty in
    let same : t ≡ tuned = at ∙ ap (λ ts. get_or ts 0 t) one in
    turn_left old d keep dest kept left t x h (one ∙ ap (λ u. u ∷ []) (sym same)) (same ∙ fresh) (chosen ∙ ap (λ ts. cond keep ts []) was) (joins (same ∙ fresh)) removed

last_is : (hs : List TunedState) (u d : TunedState) → get_or (hs ++ u ∷ []) (length hs) d ≡ u
last_is [] u d = refl
last_is (h ∷ hs) u d = last_is hs u d

pub join_made : (old : CacheState) (d : DiiFields) (pushed left : List TunedState) (tuned t x : TunedState) (len : ℕ) → IsHeld old → pushed ≡ old.held ++ tuned ∷ [] → tuned ≡ fresh_tuned d → len ≡ length pushed
    → t ≡ get_or pushed (len - 1) t → (t ≡ fresh_tuned d → x ≡ joining old.waiting d) → left ≡ without t.identification old.waiting
    → ◌≡◌ {A = CacheState} (record { held = set pushed (len - 1) x; waiting = left }) (joined old d)
join_made old d pushed left tuned t x len h more fresh size at joins removed =
    let last : len - 1 ≡ length old.held = count len (length pushed) (length old.held) size (ap length more ∙ length-append old.held (tuned ∷ [])) in
    let same : t ≡ tuned = at ∙ ap (λ ts. get_or ts (len - 1) t) more ∙ ap (λ k. get_or (old.held ++ tuned ∷ []) k t) last ∙ last_is old.held tuned t in
    join_left old d pushed left t x (len - 1) h (more ∙ ap (λ u. old.held ++ u ∷ []) (sym same)) (same ∙ fresh) last (joins (same ∙ fresh)) removed
  where
    count : (a b c : ℕ) → a ≡ b → b ≡ c + 1 → a - 1 ≡ c
    count a b c e f = omega (arith, e, f)

abbrev pub with_held : CacheState → List TunedState → CacheState
with_held c ts = record { held = ts; waiting = c.waiting }

-- ---- one module

pub slot_past : (id : ℕ) (ts : List TunedState) (i : ℕ) (t : TunedState) → i < length ts → t ≡ get_or ts i t → find (λ x. eqb x.line.id id) t.lines ≡ None → slot_from id (drop i ts) ≡ slot_from id (drop (i + 1) ts)
slot_past id ts i t lt at none = ap (slot_from id) (next_one ts i t lt at) ∙ ap slot_in_line (find_past (λ x. eqb x.line.id id) t.lines (flat_map (λ u. u.lines) (drop (i + 1) ts)) none)

pub slot_here : (id : ℕ) (ts : List TunedState) (i : ℕ) (t : TunedState) (x : Line) → i < length ts → t ≡ get_or ts i t → find (λ x. eqb x.line.id id) t.lines ≡ Some x → slot_from id (drop i ts) ≡ slot_in_line (Some x)
slot_here id ts i t x lt at is = ap (slot_from id) (next_one ts i t lt at) ∙ ap slot_in_line (find_front (λ x. eqb x.line.id id) t.lines (flat_map (λ u. u.lines) (drop (i + 1) ts)) x is)

pub slot_none : (id : ℕ) (ts : List TunedState) (i : ℕ) → length ts ≤ i → slot_from id (drop i ts) ≡ Unlisted
slot_none id ts i le = ap (slot_from id) (drop_all i ts le)
