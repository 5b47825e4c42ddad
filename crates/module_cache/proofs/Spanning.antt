-- One held DII, looking back over spans: with something more heard in the newest, and with one span more.
use Rattle.std.proofs.Common.{ℕ, ◌≡◌, Bool, true, false, cond, eqb, ◌&&◌, inl, List, [], ◌∷◌, ◌++◌, map, Option, Some, None, refl, sym, ap, ◌∙◌, append_assoc, append-nil}
use Rattle.std.specs.List.{find}
use Rattle.std.specs.Option.{option_map, option_map_or}
use Rattle.std.proofs.lemmas.Bool.{cond-true, cond-false}
use Rattle.ddb_block.specs.Blocks as ddb
use Rattle.dsi_dii.specs.Controls.{DiiFields}
use Rattle.dsi_dii.specs.declared.ModuleLine.{ModuleLine}
use Rattle.module_cache.specs.Contents.{Content}
use Rattle.module_cache.specs.Held.{TunedState, line_among, line_fresh, tuned_with, tuned_after, fresh_tuned, kept_line, line_from, tuned_from, content_among}
use Rattle.module_cache.specs.Joining.{tuned_of, no_id_twice}
use Rattle.module_cache.specs.Turns.{heard_by}
use Rattle.module_cache.specs.Spans.{Span, earlier, stretch, same_line}
use Rattle.module_cache.specs.declared.stored.Line.{Line}
use Rattle.module_cache.proofs.Contents.{lines_move, unfit_line, passed_line, fresh_line, turned_round}
use Rattle.module_cache.proofs.Lists.{map_like, find_map, found_passes}
use Rattle.module_cache.proofs.Same.{SameLine, bytes_if_fits, same_line_is, content_same, earlier_same}

-- ---- something more

stretch_more : {H : Type 0} (s : Span H) (ss : List (Span H)) (h : H) (l : ModuleLine) → stretch (heard_by h s) ss l ≡ stretch s ss l ++ h ∷ []
stretch_more s ss h l = sym (append_assoc (earlier s.dii l s.kept ss) s.since (h ∷ []))

line_in : {H : Type 0} → (H → Option ddb.Block) → Span H → List (Span H) → ModuleLine → Line
line_in says s ss l = line_among says (stretch s ss l) s.dii l

lines_more : {H : Type 0} (says : H → Option ddb.Block) (s : Span H) (ss : List (Span H)) (h : H)
    → map (line_in says (heard_by h s) ss) s.dii.modules ≡ map (λ l. line_among says (stretch s ss l ++ h ∷ []) s.dii l) s.dii.modules
unfolding line_in
lines_more says s ss h = map_like _ _ s.dii.modules (λ l. ap (λ hs. line_among says hs s.dii l) (stretch_more s ss h l))

-- something that is no block for any module
pub tuned_stays : {H : Type 0} (says : H → Option ddb.Block) (s : Span H) (ss : List (Span H)) (h : H) → says h ≡ None → tuned_of says (heard_by h s) ss ≡ tuned_of says s ss
unfolding line_in
tuned_stays says s ss h e =
    ap (tuned_with s.dii) (lines_more says s ss h ∙ map_like _ _ s.dii.modules (λ l. unfit_line says (stretch s ss l) s.dii l h (λ b. ap (bytes_if_fits s.dii l b) e)))

-- a block, where the DII lists no module twice
pub tuned_moves : {H : Type 0} (says : H → Option ddb.Block) (s : Span H) (ss : List (Span H)) (h : H) (b : ddb.Block) → says h ≡ Some b → no_id_twice s.dii.modules ≡ true
    → tuned_of says (heard_by h s) ss ≡ tuned_after (tuned_of says s ss) b
unfolding line_in
tuned_moves says s ss h b is once = go (eqb s.dii.download b.download) refl where
  go : (t : Bool) → eqb s.dii.download b.download ≡ t
      → tuned_with s.dii (map (line_in says (heard_by h s) ss) s.dii.modules) ≡ tuned_after (tuned_with s.dii (map (line_in says s ss) s.dii.modules)) b
  go true e =
      ap (tuned_with s.dii) (lines_more says s ss h ∙ sym (lines_move says (stretch s ss) s.dii h b is s.dii.modules (turned_round s.dii.download b.download true e) once))
      ∙ sym (cond-true _ _ _ e)
  go false e =
      ap (tuned_with s.dii) (lines_more says s ss h
      ∙ map_like _ _ s.dii.modules (λ l. sym (passed_line says (stretch s ss l) s.dii l h b is (inl (turned_round s.dii.download b.download false e)))))
      ∙ sym (cond-false _ _ _ e)

-- ---- one span more

slot_line : ModuleLine → Line → Line
slot_line l x = record { line = l; stored = x.stored }

line_parts : (l : ModuleLine) (size s2 block_size b2 : ℕ) (c c2 : Content) → size ≡ s2 → block_size ≡ b2 → c ≡ c2
    → ◌≡◌ {A = Line} (record { line = l; stored = record { size = size; block_size = block_size; content = c } }) (record { line = l; stored = record { size = s2; block_size = b2; content = c2 } })
line_parts l size s2 block_size b2 c c2 e f g = cc

kept_is : {H : Type 0} (says : H → Option ddb.Block) (d e : DiiFields) (l k : ModuleLine) → SameLine d e k l → (since : List H) → slot_line l (line_among says since d k) ≡ line_among says since e l
unfolding slot_line
kept_is says d e l k s since =
    line_parts l k.size l.size d.block_size e.block_size _ _ s.size s.block_size
    (content_same says since d e k l s k.compressed ∙ ap (λ c. content_among says since e l c) s.compressed)

with_nothing_more : {H : Type 0} (says : H → Option ddb.Block) (hs : List H) (d : DiiFields) (l : ModuleLine) → line_among says hs d l ≡ line_among says (hs ++ []) d l
with_nothing_more says hs d l = ap (λ xs. line_among says xs d l) (sym (append-nil hs))

-- a module of the new DII: what it was for the one before, or nothing yet
kept_lines : {H : Type 0} (says : H → Option ddb.Block) (s : Span H) (ss : List (Span H)) (d : DiiFields) (l : ModuleLine) (messages : Bool) (o : Option ModuleLine)
    → find (λ k. eqb k.id l.id) s.dii.modules ≡ o → (eqb s.dii.download d.download && eqb s.dii.block_size d.block_size) ≡ messages
    → cond messages (kept_line d.block_size l (option_map (line_in says s ss) o)) (line_fresh d.block_size l)
    ≡ line_among says (cond (messages && option_map_or (λ k. same_line k l) o false) (earlier d l s.kept ss ++ s.since) [] ++ []) d l
unfolding line_in slot_line
kept_lines says s ss d l false o e f = fresh_line says d l
kept_lines says s ss d l true None e f = fresh_line says d l
kept_lines says s ss d l true (Some k) e f = go (same_line k l) refl where
  go : (t : Bool) → same_line k l ≡ t
      → cond t (slot_line l (line_in says s ss k)) (line_fresh d.block_size l) ≡ line_among says (cond t (earlier d l s.kept ss ++ s.since) [] ++ []) d l
  go false g = fresh_line says d l
  go true g =
      let same : SameLine s.dii d k l = same_line_is s.dii d k l f (found_passes (λ x. eqb x.id l.id) s.dii.modules k e) g in
      kept_is says s.dii d l k same (stretch s ss k)
      ∙ ap (λ hs. line_among says (hs ++ s.since) d l) (earlier_same s.dii d k l same s.kept ss)
      ∙ with_nothing_more says (earlier d l s.kept ss ++ s.since) d l

find_line : {H : Type 0} (says : H → Option ddb.Block) (s : Span H) (ss : List (Span H)) (l : ModuleLine)
    → find (λ x. eqb x.line.id l.id) (map (line_in says s ss) s.dii.modules) ≡ option_map (line_in says s ss) (find (λ k. eqb k.id l.id) s.dii.modules)
unfolding line_in
find_line says s ss l = find_map (line_in says s ss) (λ x. eqb x.line.id l.id) s.dii.modules

abbrev pub opened : {H : Type 0} → DiiFields → Bool → Span H
opened d keep = record { dii = d; kept = keep; since = [] }

-- the newest of these spans' DII
abbrev pub tuned_in : {H : Type 0} → (H → Option ddb.Block) → List (Span H) → Option TunedState
tuned_in says [] = None
tuned_in says (s ∷ ss) = Some (tuned_of says s ss)

-- where nothing is kept
pub tuned_begins : {H : Type 0} (says : H → Option ddb.Block) (ss : List (Span H)) (d : DiiFields) → tuned_of says (opened d false) ss ≡ fresh_tuned d
tuned_begins says [] d = ap (tuned_with d) (map_like _ _ d.modules (λ l. sym (fresh_line says d l)))
tuned_begins says (s ∷ ss) d = ap (tuned_with d) (map_like _ _ d.modules (λ l. sym (fresh_line says d l)))

-- where what is there is kept
pub tuned_turns : {H : Type 0} (says : H → Option ddb.Block) (ss : List (Span H)) (d : DiiFields) → tuned_of says (opened d true) ss ≡ tuned_from (tuned_in says ss) d
unfolding line_in
tuned_turns says [] d = ap (tuned_with d) (map_like _ _ d.modules (λ l. sym (fresh_line says d l)))
tuned_turns says (s ∷ ss) d = ap (tuned_with d) (map_like _ _ d.modules each) where
  each : (l : ModuleLine) → line_among says (stretch (opened d true) (s ∷ ss) l) d l ≡ line_from (tuned_of says s ss) d l
  each l =
      sym (ap (λ o. cond (eqb s.dii.download d.download && eqb s.dii.block_size d.block_size) (kept_line d.block_size l o) (line_fresh d.block_size l)) (find_line says s ss l)
      ∙ kept_lines says s ss d l (eqb s.dii.download d.download && eqb s.dii.block_size d.block_size) (find (λ k. eqb k.id l.id) s.dii.modules) refl refl)
