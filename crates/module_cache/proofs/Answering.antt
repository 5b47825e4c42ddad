-- What is answered, looking back.
use Rattle.std.proofs.Common.{ℕ, ◌≡◌, ◌<◌, Bool, true, false, cond, not, eqb, ltb, ◌&&◌, List, [], ◌∷◌, map, length, get_or, Option, Some, None, refl, sym, ap, subst, ◌∙◌}
use Rattle.std.specs.List.{find, list_any, flat_map}
use Rattle.std.specs.Option.{option_map, is_some}
use Rattle.std.proofs.lemmas.Bool.{cond-true, cond-false, ltb-true}
use Rattle.ddb_block.specs.Blocks as ddb
use Rattle.block_assembler.specs.Blocks.{Bytes, join_all}
use Rattle.block_assembler.specs.declared.Offer.TheVariants as offers
use Rattle.dsi_dii.specs.Controls.{DiiFields}
use Rattle.dsi_dii.specs.declared.ModuleLine.{ModuleLine}
use Rattle.module_cache.specs.Chains as chains
use Rattle.module_cache.specs.Chains.{taken_listed, slot_listed}
use Rattle.module_cache.specs.Contents.{whole_or, by_offer, taken_at, bytes_of}
use Rattle.module_cache.specs.Held.{line_among, content_among, taken_line, taken_tuned, slot_in_line}
use Rattle.module_cache.specs.Joining.{outline, lists, has_line, taken_from, taken_of, slot_at, tuned_of, held_in, state_in, taken_by, taken_among, slot_by, slot_among}
use Rattle.module_cache.specs.Turns.{block_among, blocks_among, module_among, Turn, admitted, before}
use Rattle.module_cache.specs.Slots.{Compressed, slot_of, whole_or_part}
use Rattle.module_cache.specs.Spans.{Span, stretch}
use Rattle.module_cache.specs.declared.stored.Line.{Line}
use Rattle.module_cache.specs.declared.taken.Taken.{Taken}
use Rattle.module_cache.specs.declared.taken.Taken.TheVariants as taken
use Rattle.module_cache.proofs.Lists.{range_at, range_length, all_there, find_like, any_map, find_map, found_there, found_later}
use Rattle.module_cache.proofs.Turning.{outline_is}

-- ---- a block of a module

abbrev by_place : Bool → Bool → Bool → Taken
by_place a b c = cond (not a) taken.WrongPlace (cond (not b) taken.WrongLength (cond c taken.Again taken.New))

offers_so : (a b c : Bool) → by_offer (cond (not a) offers.WrongPlace (cond (not b) offers.WrongLength (cond c offers.Again offers.New))) ≡ by_place a b c
offers_so true true true = refl
offers_so true true false = refl
offers_so true false c = refl
offers_so false b c = refl

-- each block of a whole module is there
again_so : (a b : Bool) (o : Option Bytes) → (a ≡ true → o ≡ None → ⊥) → cond (not a) taken.WrongPlace (cond (not b) taken.WrongLength taken.Again) ≡ by_place a b (is_some o)
again_so true true (Some x) f = refl
again_so true true None f = absurd (f refl refl)
again_so true false o f = refl
again_so false b o f = refl

taken_whole : (size block_size : ℕ) (blocks : List (Option Bytes)) → length blocks ≡ ddb.block_count_of size block_size → (w : Option Bytes) → join_all blocks ≡ w → (n : ℕ) (bytes : Bytes)
    → taken_at size block_size (whole_or blocks w) n bytes
    ≡ by_place (ltb n (ddb.block_count_of size block_size)) (eqb (length bytes) (ddb.block_span_of size block_size n)) (is_some (get_or blocks n None))
taken_whole size block_size blocks places None e n bytes = offers_so _ _ _
taken_whole size block_size blocks places (Some whole) e n bytes =
    again_so (ltb n (ddb.block_count_of size block_size)) (eqb (length bytes) (ddb.block_span_of size block_size n)) (get_or blocks n None)
    (λ below none. all_there blocks whole n e (subst (λ k. n < k) (sym places) (ltb-true _ _ below)) none)

-- the block of a number is asked for below the count alone
below_only : (n count : ℕ) (b : Bool) (o p : Option Bytes) → (n < count → o ≡ p) → by_place (ltb n count) b (is_some o) ≡ by_place (ltb n count) b (is_some p)
below_only n count b o p f = go (ltb n count) refl where
  go : (t : Bool) → ltb n count ≡ t → by_place t b (is_some o) ≡ by_place t b (is_some p)
  go true e = ap (λ x. by_place true b (is_some x)) (f (ltb-true n count e))
  go false e = refl

taken_content : {H : Type 0} (says : H → Option ddb.Block) (since : List H) (d : DiiFields) (l : ModuleLine) (b : ddb.Block) (c : Bool)
    → taken_at l.size d.block_size (content_among says since d l c) b.number b.bytes
    ≡ cond c taken.Compressed (by_place (ltb b.number (ddb.block_count_of l.size d.block_size)) (eqb (length b.bytes) (ddb.block_span_of l.size d.block_size b.number)) (is_some (block_among says since d l b.number)))
taken_content says since d l b true = refl
taken_content says since d l b false =
    taken_whole l.size d.block_size (blocks_among says since d l) (range_length (block_among says since d l) 0 (ddb.block_count_of l.size d.block_size)) (join_all (blocks_among says since d l)) refl b.number b.bytes
    ∙ below_only b.number (ddb.block_count_of l.size d.block_size) (eqb (length b.bytes) (ddb.block_span_of l.size d.block_size b.number))
    (get_or (blocks_among says since d l) b.number None) (block_among says since d l b.number) (λ below. range_at (block_among says since d l) None b.number (ddb.block_count_of l.size d.block_size) below)

other_version : (t : Bool) (x y : Taken) → cond t x y ≡ cond (not t) y x
other_version true x y = refl
other_version false x y = refl

taken_in_line : {H : Type 0} (says : H → Option ddb.Block) (s : Span H) (ss : List (Span H)) (b : ddb.Block) (o : Option ModuleLine)
    → taken_line b (option_map (λ l. line_among says (stretch s ss l) s.dii l) o) ≡ taken_listed says s ss b o
taken_in_line says s ss b None = refl
taken_in_line says s ss b (Some l) =
    ap (λ x. cond (eqb l.version b.version) x taken.OtherVersion) (taken_content says (stretch s ss l) s.dii l b l.compressed)
    ∙ other_version (eqb l.version b.version) _ taken.OtherVersion

taken_is : {H : Type 0} (says : H → Option ddb.Block) (s : Span H) (ss : List (Span H)) (b : ddb.Block) → taken_tuned (tuned_of says s ss) b ≡ chains.taken_among says s ss b
taken_is says s ss b =
    ap (λ x. cond (eqb s.dii.download b.download) x taken.OtherDownload)
    (ap (taken_line b) (find_map (λ l. line_among says (stretch s ss l) s.dii l) (λ x. eqb x.line.id b.module_id) s.dii.modules) ∙ taken_in_line says s ss b (find (λ l. eqb l.id b.module_id) s.dii.modules))

-- ---- a module

slot_whole : (blocks : List (Option Bytes)) (w : Option Bytes) → slot_of (whole_or blocks w) ≡ whole_or_part w
slot_whole blocks (Some bytes) = refl
slot_whole blocks None = refl

slot_content : {H : Type 0} (says : H → Option ddb.Block) (since : List H) (d : DiiFields) (l : ModuleLine) (c : Bool)
    → slot_of (content_among says since d l c) ≡ cond c Compressed (whole_or_part (cond c None (join_all (blocks_among says since d l))))
slot_content says since d l true = refl
slot_content says since d l false = slot_whole (blocks_among says since d l) (join_all (blocks_among says since d l))

slot_line : {H : Type 0} (says : H → Option ddb.Block) (s : Span H) (ss : List (Span H)) (o : Option ModuleLine)
    → slot_in_line (option_map (λ l. line_among says (stretch s ss l) s.dii l) o) ≡ slot_listed says s ss o
slot_line says s ss None = refl
slot_line says s ss (Some l) = slot_content says (stretch s ss l) s.dii l l.compressed

slot_is : {H : Type 0} (says : H → Option ddb.Block) (s : Span H) (ss : List (Span H)) (id : ℕ) → slot_in_line (find (λ x. eqb x.line.id id) (tuned_of says s ss).lines) ≡ chains.slot_among says s ss id
slot_is says s ss id =
    ap slot_in_line (find_map (λ l. line_among says (stretch s ss l) s.dii l) (λ x. eqb x.line.id id) s.dii.modules) ∙ slot_line says s ss (find (λ l. eqb l.id id) s.dii.modules)

-- ---- the bytes of a line

bytes_are : (bl : List (Option Bytes)) (w : Option Bytes) → bytes_of (whole_or bl w) ≡ w
bytes_are bl (Some x) = refl
bytes_are bl None = refl

pub bytes_among : {H : Type 0} (says : H → Option ddb.Block) (since : List H) (d : DiiFields) (l : ModuleLine) → bytes_of (line_among says since d l).stored.content ≡ module_among says since d l
bytes_among says since d l = go l.compressed where
  go : (c : Bool) → bytes_of (content_among says since d l c) ≡ cond c None (join_all (blocks_among says since d l))
  go true = refl
  go false = bytes_are (blocks_among says since d l) (join_all (blocks_among says since d l))

-- ---- by the first held DII that has a line for the block

line_for : {H : Type 0} (says : H → Option ddb.Block) (ts : List (Turn H)) (b : ddb.Block) (s : Span H)
    → has_line b (tuned_of says s (before s ts)) ≡ (eqb s.dii.download b.download && lists (outline s.dii) b.module_id)
line_for says ts b s = ap (λ o. eqb s.dii.download b.download && lists o b.module_id) (outline_is says s (before s ts))

taken_so : {H : Type 0} (says : H → Option ddb.Block) (ts : List (Turn H)) (b : ddb.Block) (download : Bool) (o : Option (Span H))
    → taken_from b true download (option_map (λ s. tuned_of says s (before s ts)) o) ≡ taken_by says ts b download o
taken_so says ts b download None = refl
taken_so says ts b download (Some s) = taken_is says s (before s ts) b

pub taken_all_is : {H : Type 0} (says : H → Option ddb.Block) (ts : List (Turn H)) (b : ddb.Block) → taken_of (state_in says ts) b ≡ taken_among says ts b
taken_all_is says [] b = refl
taken_all_is says (t ∷ ts) b =
    ap (λ c. taken_from b true c (find (has_line b) (held_in says (t ∷ ts)))) (any_map (λ s. tuned_of says s (before s ts)) (λ u. eqb u.download b.download) (admitted t))
    ∙ ap (taken_from b true (list_any (λ s. eqb s.dii.download b.download) (admitted t)))
    (find_map (λ s. tuned_of says s (before s ts)) (has_line b) (admitted t)
    ∙ ap (option_map (λ s. tuned_of says s (before s ts))) (find_like _ _ (admitted t) (line_for says ts b)))
    ∙ taken_so says ts b (list_any (λ s. eqb s.dii.download b.download) (admitted t)) (find (λ s. eqb s.dii.download b.download && lists (outline s.dii) b.module_id) (admitted t))

-- ---- by the first held DII that lists the module

-- the lines of one DII have an id exactly where the DII lists it
lines_list : {H : Type 0} (says : H → Option ddb.Block) (s : Span H) (ss : List (Span H)) (id : ℕ) → list_any (λ x. eqb x.line.id id) (tuned_of says s ss).lines ≡ lists (outline s.dii) id
lines_list says s ss id = sym (any_map (λ x. x.line) (λ l. eqb l.id id) (tuned_of says s ss).lines) ∙ ap (λ o. lists o id) (outline_is says s ss)

slot_row : {H : Type 0} (says : H → Option ddb.Block) (ts : List (Turn H)) (id : ℕ) (ss : List (Span H))
    → slot_in_line (find (λ x. eqb x.line.id id) (flat_map (λ t. t.lines) (map (λ s. tuned_of says s (before s ts)) ss))) ≡ slot_by says ts id (find (λ s. lists (outline s.dii) id) ss)
slot_row says ts id [] = refl
slot_row says ts id (s ∷ ss) = go (lists (outline s.dii) id) refl (slot_row says ts id ss) where
  own : List Line
  own = (tuned_of says s (before s ts)).lines

  go : (t : Bool) → lists (outline s.dii) id ≡ t
      → slot_in_line (find (λ x. eqb x.line.id id) (flat_map (λ t. t.lines) (map (λ s. tuned_of says s (before s ts)) ss))) ≡ slot_by says ts id (find (λ s. lists (outline s.dii) id) ss)
      → slot_in_line (find (λ x. eqb x.line.id id) (flat_map (λ t. t.lines) (map (λ s. tuned_of says s (before s ts)) (s ∷ ss)))) ≡ slot_by says ts id (find (λ s. lists (outline s.dii) id) (s ∷ ss))
  go true e rest =
      ap slot_in_line (found_there (λ x. eqb x.line.id id) (tuned_of says s (before s ts)).lines (flat_map (λ t. t.lines) (map (λ s. tuned_of says s (before s ts)) ss)) (lines_list says s (before s ts) id ∙ e))
      ∙ slot_is says s (before s ts) id
      ∙ ap (slot_by says ts id) (sym (cond-true _ _ _ e))
  go false e rest =
      ap slot_in_line (found_later (λ x. eqb x.line.id id) (tuned_of says s (before s ts)).lines (flat_map (λ t. t.lines) (map (λ s. tuned_of says s (before s ts)) ss)) (lines_list says s (before s ts) id ∙ e))
      ∙ rest
      ∙ ap (slot_by says ts id) (sym (cond-false _ _ _ e))

pub slot_all_is : {H : Type 0} (says : H → Option ddb.Block) (ts : List (Turn H)) (id : ℕ) → slot_at (state_in says ts) id ≡ slot_among says ts id
slot_all_is says [] id = refl
slot_all_is says (t ∷ ts) id = slot_row says ts id (admitted t)
