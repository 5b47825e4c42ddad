-- One call more: the state is that of the turns with it.
use Rattle.std.proofs.Common.{ℕ, ◌≡◌, Bool, true, false, cond, not, eqb, ◌&&◌, ◌||◌, List, [], ◌∷◌, ◌++◌, map, Option, Some, None, refl, sym, ap, subst, ◌∙◌}
use Rattle.std.specs.List.{filter, find, list_any}
use Rattle.std.specs.Option.{option_map, option_map_or}
use Rattle.std.proofs.lemmas.Bool.{cond-true, cond-false, eqb-true, or_parts}
use Rattle.std.proofs.lemmas.List.{map-append}
use Rattle.std.proofs.lemmas.List.Folds.{list_any-append}
use Rattle.ddb_block.specs.Blocks as ddb
use Rattle.dsi_dii.specs.Controls.{DiiFields}
use Rattle.dsi_dii.specs.declared.ModuleLine.{ModuleLine}
use Rattle.module_cache.specs.Held.{TunedState, tuned_after, lines_after, line_among, tuned_from, with_first}
use Rattle.module_cache.specs.Joining.{CacheState, Outline, outline, outline_held, lists, AreApart, AreOnce, joining, joined, turned, has_line, offered, tuned_of, held_in, still_waits, waiting_in, state_in}
use Rattle.module_cache.specs.Spans.{Span, identification, stretch}
use Rattle.module_cache.specs.Turns.{Turn, admitted, newest, has_admitted, heard_by, continued, with_turning, with_joined, chain, before}
use Rattle.module_cache.specs.declared.stored.Line.{Line}
use Rattle.module_cache.proofs.Lists.{map_like, filter_like, any_map, map_map, map_back, find_map, found_passes, filter_both, find_filter}
use Rattle.module_cache.proofs.Places.{none_changed}
use Rattle.module_cache.proofs.Spanning.{opened, tuned_in, tuned_stays, tuned_moves, tuned_begins, tuned_turns}

-- ---- states

pub states : (a b c d : List TunedState) → a ≡ b → c ≡ d → ◌≡◌ {A = CacheState} (record { held = a; waiting = c }) (record { held = b; waiting = d })
states a b c d e f = cc

-- ---- one DII: what it lists

outlines : (i v : ℕ) (a b : List ModuleLine) → a ≡ b → ◌≡◌ {A = Outline} (record { identification = i; version = v; modules = a }) (record { identification = i; version = v; modules = b })
outlines i v a b e = cc

pub outline_is : {H : Type 0} (says : H → Option ddb.Block) (s : Span H) (ss : List (Span H)) → outline_held (tuned_of says s ss) ≡ outline s.dii
outline_is says s ss = outlines _ _ _ _ (map_back (λ l. line_among says (stretch s ss l) s.dii l) (λ x. x.line) (λ l. refl) s.dii.modules)

-- the outlines of what is held are those of the DIIs that were admitted last
pub outlines_are : {H : Type 0} (says : H → Option ddb.Block) (ts : List (Turn H)) → map outline_held (held_in says ts) ≡ map (λ s. outline s.dii) (newest ts)
outlines_are says [] = refl
outlines_are says (t ∷ ts) = map_map (λ s. tuned_of says s (before s ts)) outline_held (admitted t) ∙ map_like _ _ (admitted t) (λ s. outline_is says s (before s ts))

-- ---- something more is heard

still_same : {H : Type 0} (t : Turn H) (h : H) (i : ℕ) → list_any (λ s. eqb (identification s.dii) i) (map (heard_by h) (admitted t)) ≡ has_admitted t i
still_same t h i = any_map (heard_by h) (λ s. eqb (identification s.dii) i) (admitted t)

waiting_stays : {H : Type 0} (says : H → Option ddb.Block) (ts : List (Turn H)) (h : H) → waiting_in says (continued ts h) ≡ waiting_in says ts
waiting_stays says [] h = refl
waiting_stays says (t ∷ ts) h =
    ap (λ us. cond t.turning.kept us []) (filter_like _ _ (held_in says ts) (λ u. ap not (still_same t h u.identification)))

-- something that is no block for any module
pub state_stays : {H : Type 0} (says : H → Option ddb.Block) (ts : List (Turn H)) (h : H) → says h ≡ None → state_in says (continued ts h) ≡ state_in says ts
state_stays says [] h e = refl
state_stays says (t ∷ ts) h e =
    states _ _ _ _
    (map_map (heard_by h) (λ s. tuned_of says s (before s ts)) (admitted t) ∙ map_like _ _ (admitted t) (λ s. tuned_stays says s (before s ts) h e))
    (waiting_stays says (t ∷ ts) h)

-- ---- a block

none_listed : (id : ℕ) (xs : List Line) → list_any (λ l. eqb l.id id) (map (λ x. x.line) xs) ≡ false → find (λ x. eqb x.line.id id) xs ≡ None
none_listed id [] e = refl
none_listed id (x ∷ xs) e = let p = or_parts _ _ e in cond-false _ _ _ p.0 ∙ none_listed id xs p.1

with_lines : TunedState → List Line → TunedState
with_lines t ls = record t { lines = ls }

-- a DII without a line for the block
unlisted_stays : (b : ddb.Block) (t : TunedState) → lists (outline_held t) b.module_id ≡ false → tuned_after t b ≡ t
unfolding with_lines
unlisted_stays b t e = go (eqb t.download b.download) where
  go : (c : Bool) → cond c (with_lines t (lines_after b t.lines)) t ≡ t
  go true = ap (with_lines t) (none_changed (λ x. eqb x.line.id b.module_id) _ t.lines (none_listed b.module_id t.lines e))
  go false = refl

without_line : (b : ddb.Block) (t : TunedState) → has_line b t ≡ false → tuned_after t b ≡ t
without_line b t e = go (eqb t.download b.download) refl where
  go : (c : Bool) → eqb t.download b.download ≡ c → tuned_after t b ≡ t
  go true f = unlisted_stays b t (sym (ap (λ c. c && lists (outline_held t) b.module_id) f) ∙ e)
  go false f = cond-false _ _ _ f

rest_stays : (b : ddb.Block) (ts : List TunedState) → list_any (λ o. lists o b.module_id) (map outline_held ts) ≡ false → ts ≡ map (λ t. tuned_after t b) ts
rest_stays b [] e = refl
rest_stays b (t ∷ ts) e = let p = or_parts _ _ e in
    ap (λ u. u ∷ ts) (sym (unlisted_stays b t p.0)) ∙ ap (λ us. tuned_after t b ∷ us) (rest_stays b ts p.1)

-- one DII at most has a line for the block
first_is_all : (b : ddb.Block) (ts : List TunedState) → AreApart (map outline_held ts) → with_first (has_line b) (λ t. tuned_after t b) ts ≡ map (λ t. tuned_after t b) ts
first_is_all b [] a = refl
first_is_all b (t ∷ ts) a = go (eqb t.download b.download) (lists (outline_held t) b.module_id) refl refl (first_is_all b ts a.1) where
  same : has_line b t ≡ false → (with_first (has_line b) (λ t. tuned_after t b) ts ≡ map (λ t. tuned_after t b) ts) → (with_first (has_line b) (λ t. tuned_after t b) (t ∷ ts) ≡ map (λ t. tuned_after t b) (t ∷ ts))
  same e rest = cond-false _ _ _ e ∙ ap (λ us. t ∷ us) rest ∙ ap (λ u. u ∷ map (λ t. tuned_after t b) ts) (sym (without_line b t e))

  go : (c d : Bool) → eqb t.download b.download ≡ c → lists (outline_held t) b.module_id ≡ d → (with_first (has_line b) (λ t. tuned_after t b) ts ≡ map (λ t. tuned_after t b) ts) → (with_first (has_line b) (λ t. tuned_after t b) (t ∷ ts) ≡ map (λ t. tuned_after t b) (t ∷ ts))
  go true true e f rest =
      cond-true _ _ _ (ap (λ c. c && lists (outline_held t) b.module_id) e ∙ f) ∙ ap (λ us. tuned_after t b ∷ us) (rest_stays b ts (a.0 b.module_id f))
  go true false e f rest = same (ap (λ c. c && lists (outline_held t) b.module_id) e ∙ f) rest
  go false d e f rest = same (ap (λ c. c && lists (outline_held t) b.module_id) e) rest

row_moves : {H : Type 0} (says : H → Option ddb.Block) (ts : List (Turn H)) (h : H) (b : ddb.Block) → says h ≡ Some b → (ss : List (Span H)) → AreOnce (map (λ s. outline s.dii) ss)
    → map (λ s. tuned_of says (heard_by h s) (before s ts)) ss ≡ map (λ s. tuned_after (tuned_of says s (before s ts)) b) ss
row_moves says ts h b is [] once = refl
row_moves says ts h b is (s ∷ ss) once =
    ap (λ u. u ∷ map (λ s. tuned_of says (heard_by h s) (before s ts)) ss) (tuned_moves says s (before s ts) h b is once.0)
    ∙ ap (λ us. tuned_after (tuned_of says s (before s ts)) b ∷ us) (row_moves says ts h b is ss once.1)

-- the DIIs that were admitted last list no module twice, and no two of them list one
pub record AreTuned {H : Type 0} (ts : List (Turn H)) : Type 0 where
  pub once : AreOnce (map (λ s. outline s.dii) (newest ts))
  pub apart : AreApart (map (λ s. outline s.dii) (newest ts))

pub state_moves : {H : Type 0} (says : H → Option ddb.Block) (ts : List (Turn H)) (h : H) (b : ddb.Block) → says h ≡ Some b → AreTuned ts → state_in says (continued ts h) ≡ offered (state_in says ts) b
state_moves says [] h b is a = refl
state_moves says (t ∷ ts) h b is a =
    states _ _ _ _
    (map_map (heard_by h) (λ s. tuned_of says s (before s ts)) (admitted t)
    ∙ row_moves says ts h b is (admitted t) a.once
    ∙ sym (map_map (λ s. tuned_of says s (before s ts)) (λ u. tuned_after u b) (admitted t))
    ∙ sym (first_is_all b (held_in says (t ∷ ts)) (subst AreApart (sym (outlines_are says (t ∷ ts))) a.apart)))
    (waiting_stays says (t ∷ ts) h)

-- ---- a DII that is admitted

not_both : (a b : Bool) → not (a || (b || false)) ≡ (not a && not b)
not_both true b = refl
not_both false true = refl
not_both false false = refl

alone : (b : Bool) → not (b || false) ≡ not b
alone true = refl
alone false = refl

-- the DII of an identification that is held
chain_held : {H : Type 0} (says : H → Option ddb.Block) (i : ℕ) (ts : List (Turn H)) → tuned_in says (chain i ts) ≡ find (λ u. eqb u.identification i) (held_in says ts)
chain_held says i [] = refl
chain_held {H} says i (t ∷ ts) =
    go (find (λ s. eqb (identification s.dii) i) (admitted t)) refl ∙ sym (find_map (λ s. tuned_of says s (before s ts)) (λ u. eqb u.identification i) (admitted t)) where
      go : (o : Option (Span H)) → find (λ s. eqb (identification s.dii) i) (admitted t) ≡ o
          → tuned_in says (option_map_or (λ s. s ∷ chain i ts) o []) ≡ option_map (λ s. tuned_of says s (before s ts)) o
      go None e = refl
      go (Some s) e = ap (λ k. Some (tuned_of says s (chain k ts))) (sym (eqb-true _ _ (found_passes (λ x. eqb (identification x.dii) i) (admitted t) s e)))

new_is : {H : Type 0} (says : H → Option ddb.Block) (ts : List (Turn H)) (d : DiiFields) (keep : Bool) (old : List TunedState)
    → find (λ u. eqb u.identification (identification d)) old ≡ find (λ u. eqb u.identification (identification d)) (held_in says ts)
    → tuned_of says (opened d keep) (chain (identification d) ts) ≡ joining (cond keep old []) d
new_is says ts d true old e = tuned_turns says (chain (identification d) ts) d ∙ ap (λ o. tuned_from o d) (chain_held says (identification d) ts ∙ sym e)
new_is says ts d false old e = tuned_begins says (chain (identification d) ts) d

pub state_turns : {H : Type 0} (says : H → Option ddb.Block) (ts : List (Turn H)) (d : DiiFields) (keep : Bool) → state_in says (with_turning ts d keep) ≡ turned (state_in says ts) d keep
state_turns says ts d keep =
    states _ _ _ _
    (ap (λ u. u ∷ []) (new_is says ts d keep (held_in says ts) refl))
    (waits keep)
  where
    waits : (k : Bool) → cond k (filter (λ u. not (eqb (identification d) u.identification || false)) (held_in says ts)) [] ≡ filter (λ u. not (eqb (identification d) u.identification)) (cond k (held_in says ts) [])
    waits true = filter_like _ _ (held_in says ts) (λ u. alone (eqb (identification d) u.identification))
    waits false = refl

-- what waits is found among what was held, where none of the identification was admitted since
waiting_found : {H : Type 0} (t : Turn H) (i : ℕ) (us : List TunedState) → has_admitted t i ≡ false → find (λ u. eqb u.identification i) (filter (still_waits t) us) ≡ find (λ u. eqb u.identification i) us
waiting_found t i us e =
    find_filter (λ u. eqb u.identification i) (still_waits t) us (λ u f. ap (λ k. not (has_admitted t k)) (eqb-true _ _ f) ∙ ap not e)

abbrev row_of : {H : Type 0} → (H → Option ddb.Block) → List (Turn H) → Span H → TunedState
row_of says ts s = tuned_of says s (before s ts)

pub state_joins : {H : Type 0} (says : H → Option ddb.Block) (t : Turn H) (ts : List (Turn H)) (d : DiiFields) → has_admitted t (identification d) ≡ false
    → state_in says (with_joined (t ∷ ts) d) ≡ joined (state_in says (t ∷ ts)) d
state_joins says t ts d e =
    states _ _ _ _
    (ap (λ us. row_of says ts t.turning ∷ us) (map-append (row_of says ts) t.joined (opened d t.turning.kept ∷ []) ∙ ap (λ u. map (row_of says ts) t.joined ++ u ∷ []) (new_is says ts d t.turning.kept (filter (still_waits t) (held_in says ts)) (waiting_found t (identification d) (held_in says ts) e))))
    (waits t.turning.kept)
  where
    each : (u : TunedState) → not (eqb (identification t.turning.dii) u.identification || list_any (λ s. eqb (identification s.dii) u.identification) (t.joined ++ opened d t.turning.kept ∷ []))
        ≡ (still_waits t u && not (eqb (identification d) u.identification))
    each u =
        ap (λ c. not (eqb (identification t.turning.dii) u.identification || c)) (list_any-append (λ s. eqb (identification s.dii) u.identification) t.joined (opened d t.turning.kept ∷ []))
        ∙ moved (eqb (identification t.turning.dii) u.identification) (list_any (λ s. eqb (identification s.dii) u.identification) t.joined) (eqb (identification d) u.identification)
      where
        moved : (a b c : Bool) → not (a || (b || (c || false))) ≡ (not (a || b) && not c)
        moved true b c = refl
        moved false b c = not_both b c

    waits : (k : Bool)
        → cond k (filter (λ u. not (eqb (identification t.turning.dii) u.identification || list_any (λ s. eqb (identification s.dii) u.identification) (t.joined ++ opened d t.turning.kept ∷ []))) (held_in says ts)) []
        ≡ filter (λ u. not (eqb (identification d) u.identification)) (cond k (filter (still_waits t) (held_in says ts)) [])
    waits true = filter_like _ _ (held_in says ts) each ∙ sym (filter_both (still_waits t) (λ u. not (eqb (identification d) u.identification)) (held_in says ts))
    waits false = refl
