-- One more candidate, and what is there of the modules.
use Rattle.std.proofs.Common.{ℕ, ◌≡◌, ◌≢◌, ◌<◌, Bool, true, false, cond, not, eqb, ltb, ◌&&◌, List, [], ◌∷◌, ◌++◌, length, get_or, map, Option, Some, None, ◌⊎◌, inl, inr, refl, sym, ap, subst, ◌∙◌}
use Rattle.std.proofs.Math.ListN.{set}
use Rattle.std.specs.Option.{is_some}
use Rattle.std.specs.List.{list_any}
use Rattle.std.proofs.lemmas.Bool.{cond-true, cond-false, ltb-true, eqb-true, eqb-false, eq-eqb, ne_eqb, and_left, and_from, and_parts, or_parts, not-true}
use Rattle.ddb_block.specs.Blocks as ddb
use Rattle.block_assembler.specs.Blocks.{Bytes, join_all}
use Rattle.dsi_dii.specs.Controls.{DiiFields}
use Rattle.dsi_dii.specs.declared.ModuleLine.{ModuleLine}
use Rattle.module_cache.specs.declared.taken.Taken.{Taken}
use Rattle.module_cache.specs.declared.taken.Taken.TheVariants as taken
use Rattle.module_cache.specs.declared.stored.Line.{Line}
use Rattle.block_assembler.specs.declared.Offer.TheVariants as offers
use Rattle.module_cache.specs.Turns.{fits, block_among, blocks_among}
use Rattle.module_cache.specs.Contents.{Content, Blocks, Whole, content_of, whole_or, content_after, by_offer, is_new, fresh_content}
use Rattle.module_cache.specs.Held.{content_among, line_among, line_after, lines_after, line_fresh}
use Rattle.module_cache.specs.Joining.{no_id_twice}
use Rattle.module_cache.proofs.Same.{bytes_if_fits}
use Rattle.module_cache.proofs.Lists.{map_like, range_set, range_at, range_length, range_replicate, or_else, or_none, first_more, all_there}

-- ---- what one block makes of the content

again_not_new : (a b : Bool) → is_new (cond (not a) taken.WrongPlace (cond (not b) taken.WrongLength taken.Again)) ≡ false
again_not_new true true = refl
again_not_new true false = refl
again_not_new false b = refl

stays_whole : (size block_size n : ℕ) (bytes wb : Bytes) → content_after size block_size (Whole wb) n bytes ≡ Whole wb
stays_whole size block_size n bytes wb = cond-false _ _ _ (again_not_new (ltb n (ddb.block_count_of size block_size)) (eqb (length bytes) (ddb.block_span_of size block_size n)))

-- how the blocks after a candidate come from those before it
pub record Moves (fit : Bool) (n : ℕ) (bytes : Bytes) (bl after : List (Option Bytes)) : Type 0 where
  pub unfit : fit ≡ false → after ≡ bl
  pub there : fit ≡ true → (y : Bytes) → get_or bl n None ≡ Some y → after ≡ bl
  pub new : fit ≡ true → get_or bl n None ≡ None → after ≡ set bl n (Some bytes)
  pub inside : fit ≡ true → n < length bl

-- where the module is whole, nothing is missing, and the blocks stay
same_when_whole : (fit : Bool) (n : ℕ) (bytes wb : Bytes) (bl after : List (Option Bytes)) → Moves fit n bytes bl after → join_all bl ≡ Some wb → (o : Option Bytes) → get_or bl n None ≡ o → after ≡ bl
same_when_whole false n bytes wb bl after m w o e = m.unfit refl
same_when_whole true n bytes wb bl after m w (Some y) e = m.there refl y e
same_when_whole true n bytes wb bl after m w None e = absurd (all_there bl wb n w (m.inside refl) e)

abbrev by_offer_of : Bool → Bool → Option Bytes → Taken
by_offer_of a b o = by_offer (cond (not a) offers.WrongPlace (cond (not b) offers.WrongLength (cond (is_some o) offers.Again offers.New)))

same_blocks : (bl after : List (Option Bytes)) → after ≡ bl → join_all bl ≡ None → Blocks bl ≡ content_of after
same_blocks bl after e w = ap (whole_or bl) (sym w) ∙ ap content_of (sym e)

by_blocks : (a b : Bool) (n : ℕ) (bytes : Bytes) (bl after : List (Option Bytes)) → Moves (a && b) n bytes bl after → (o : Option Bytes) → get_or bl n None ≡ o → join_all bl ≡ None
    → cond (is_new (by_offer_of a b o)) (content_of (set bl n (Some bytes))) (Blocks bl) ≡ content_of after
by_blocks true true n bytes bl after m (Some y) e w = same_blocks bl after (m.there refl y e) w
by_blocks true true n bytes bl after m None e w = ap content_of (sym (m.new refl e))
by_blocks true false n bytes bl after m o e w = same_blocks bl after (m.unfit refl) w
by_blocks false b n bytes bl after m o e w = same_blocks bl after (m.unfit refl) w

pub content_moves : (size block_size n : ℕ) (bytes : Bytes) (bl after : List (Option Bytes))
    → Moves (ltb n (ddb.block_count_of size block_size) && eqb (length bytes) (ddb.block_span_of size block_size n)) n bytes bl after
    → (w : Option Bytes) → join_all bl ≡ w → content_after size block_size (content_of bl) n bytes ≡ content_of after
content_moves size block_size n bytes bl after m (Some wb) e =
    ap (λ w. content_after size block_size (whole_or bl w) n bytes) e ∙ stays_whole size block_size n bytes wb
    ∙ ap (whole_or bl) (sym e) ∙ ap content_of (sym (same_when_whole _ n bytes wb bl after m e (get_or bl n None) refl))
content_moves size block_size n bytes bl after m None e =
    ap (λ w. content_after size block_size (whole_or bl w) n bytes) e
    ∙ by_blocks (ltb n (ddb.block_count_of size block_size)) (eqb (length bytes) (ddb.block_span_of size block_size n)) n bytes bl after m (get_or bl n None) refl e

-- ---- the blocks before and after what is heard

no_fit : {H : Type 0} (says : H → Option ddb.Block) (since : List H) (d : DiiFields) (l : ModuleLine) (h : H) → ((b : ℕ) → bytes_if_fits d l b (says h) ≡ None) → blocks_among says (since ++ h ∷ []) d l ≡ blocks_among says since d l
no_fit says since d l h f = map_like _ _ _ (λ b. first_more (λ x. bytes_if_fits d l b (says x)) since h ∙ ap (or_else (block_among says since d l b)) (f b) ∙ or_none (block_among says since d l b))

-- of a block of the module's line and version
pub record OfLine (d : DiiFields) (l : ModuleLine) (x : ddb.Block) : Type 0 where
  pub download : eqb x.download d.download ≡ true
  pub id : eqb x.module_id l.id ≡ true
  pub version : eqb x.version l.version ≡ true

abbrev fit_of : DiiFields → ModuleLine → ddb.Block → Bool
fit_of d l x = ltb x.number (ddb.block_count_of l.size d.block_size) && eqb (length x.bytes) (ddb.block_span_of l.size d.block_size x.number)

three : (a b c d e f : Bool) → a ≡ true → b ≡ true → c ≡ true → (((((a && b) && c) && d) && e) && f) ≡ ((d && e) && f)
three true true true d e f p q r = refl
three false b c d e f p q r = cc
three true false c d e f p q r = cc
three true true false d e f p q r = cc

fits_in : (d : DiiFields) (l : ModuleLine) (x : ddb.Block) (b : ℕ) → OfLine d l x
    → fits d l b x ≡ ((eqb x.number b && ltb b (ddb.block_count_of l.size d.block_size)) && eqb (length x.bytes) (ddb.block_span_of l.size d.block_size b))
fits_in d l x b o = three _ _ _ _ _ _ o.download o.id o.version

other_number : (d : DiiFields) (l : ModuleLine) (x : ddb.Block) (b : ℕ) → OfLine d l x → b ≢ x.number → bytes_if_fits d l b (Some x) ≡ None
other_number d l x b o ne =
    cond-false _ _ _ (fits_in d l x b o ∙ and_left _ _ (and_left _ _ (ne_eqb x.number b (λ e. ne (sym e)))))

this_number : (d : DiiFields) (l : ModuleLine) (x : ddb.Block) → OfLine d l x → fit_of d l x ≡ true → bytes_if_fits d l x.number (Some x) ≡ Some x.bytes
this_number d l x o f =
    let p = and_parts _ _ f in
    cond-true _ _ _ (fits_in d l x x.number o ∙ and_from _ _ (and_from _ _ (eq-eqb x.number x.number refl) p.0) p.1)

-- no number fits where the block's own doesn't
unfit_number : (d : DiiFields) (l : ModuleLine) (x : ddb.Block) → OfLine d l x → fit_of d l x ≡ false → (b : ℕ) → (t : Bool) → eqb b x.number ≡ t → bytes_if_fits d l b (Some x) ≡ None
unfit_number d l x o f b false e = other_number d l x b o (eqb-false _ _ e)
unfit_number d l x o f b true e =
    let same : b ≡ x.number = eqb-true _ _ e in
    ap (λ k. bytes_if_fits d l k (Some x)) same ∙ cond-false _ _ _ (fits_in d l x x.number o ∙ not_both (eqb x.number x.number) _ _ f)
  where
    not_both : (a b c : Bool) → (b && c) ≡ false → ((a && b) && c) ≡ false
    not_both true b c e = e
    not_both false b c e = refl

pub blocks_move : {H : Type 0} (says : H → Option ddb.Block) (since : List H) (d : DiiFields) (l : ModuleLine) (h : H) (x : ddb.Block) → says h ≡ Some x → OfLine d l x
    → Moves (fit_of d l x) x.number x.bytes (blocks_among says since d l) (blocks_among says (since ++ h ∷ []) d l)
blocks_move says since d l h x is o = record {
  unfit = λ f. no_fit says since d l h (λ b. said b ∙ unfit_number d l x o f b (eqb b x.number) refl);
  there = λ f y e.
      let was : block_among says since d l x.number ≡ Some y = sym (range_at (block_among says since d l) None x.number (ddb.block_count_of l.size d.block_size) (inside f)) ∙ e in
      map_like _ _ _ (λ b. more b ∙ stays b y was (eqb b x.number) refl);
  new = λ f e.
      let was : block_among says since d l x.number ≡ None = sym (range_at (block_among says since d l) None x.number (ddb.block_count_of l.size d.block_size) (inside f)) ∙ e in
      range_set (block_among says since d l) (block_among says (since ++ h ∷ []) d l) (Some x.bytes) x.number (ddb.block_count_of l.size d.block_size) (inside f)
      (λ b ne. more b ∙ ap (or_else (block_among says since d l b)) (other_number d l x b o ne) ∙ or_none (block_among says since d l b))
      (more x.number ∙ ap (λ p. or_else p (bytes_if_fits d l x.number (Some x))) was ∙ this_number d l x o f);
  inside = λ f. subst (λ n. x.number < n) (sym (range_length (block_among says since d l) 0 (ddb.block_count_of l.size d.block_size))) (inside f);
} where
  said : (b : ℕ) → bytes_if_fits d l b (says h) ≡ bytes_if_fits d l b (Some x)
  said b = ap (bytes_if_fits d l b) is

  more : (b : ℕ) → block_among says (since ++ h ∷ []) d l b ≡ or_else (block_among says since d l b) (bytes_if_fits d l b (Some x))
  more b = first_more (λ y. bytes_if_fits d l b (says y)) since h ∙ ap (or_else (block_among says since d l b)) (said b)

  inside : fit_of d l x ≡ true → x.number < ddb.block_count_of l.size d.block_size
  inside f = ltb-true _ _ (and_parts _ _ f).0

  stays : (b : ℕ) (y : Bytes) → block_among says since d l x.number ≡ Some y → (t : Bool) → eqb b x.number ≡ t → or_else (block_among says since d l b) (bytes_if_fits d l b (Some x)) ≡ block_among says since d l b
  stays b y was false e = ap (or_else (block_among says since d l b)) (other_number d l x b o (eqb-false _ _ e)) ∙ or_none (block_among says since d l b)
  stays b y was true e =
      let same : block_among says since d l b ≡ Some y = ap (block_among says since d l) (eqb-true _ _ e) ∙ was in
      ap (λ p. or_else p (bytes_if_fits d l b (Some x))) same ∙ sym same

-- ---- lines

pub unfit_content : {H : Type 0} (says : H → Option ddb.Block) (since : List H) (d : DiiFields) (l : ModuleLine) (h : H) → ((b : ℕ) → bytes_if_fits d l b (says h) ≡ None) → (c : Bool) → content_among says (since ++ h ∷ []) d l c ≡ content_among says since d l c
unfit_content says since d l h f true = refl
unfit_content says since d l h f false = ap content_of (no_fit says since d l h f)

abbrev pub line_with : DiiFields → ModuleLine → Content → Line
line_with d l c = record { line = l; stored = record { size = l.size; block_size = d.block_size; content = c } }

pub unfit_line : {H : Type 0} (says : H → Option ddb.Block) (since : List H) (d : DiiFields) (l : ModuleLine) (h : H) → ((b : ℕ) → bytes_if_fits d l b (says h) ≡ None) → line_among says (since ++ h ∷ []) d l ≡ line_among says since d l
unfit_line says since d l h f = ap (line_with d l) (unfit_content says since d l h f l.compressed)

block_content : {H : Type 0} (says : H → Option ddb.Block) (since : List H) (d : DiiFields) (l : ModuleLine) (h : H) (x : ddb.Block) → says h ≡ Some x → OfLine d l x → (c : Bool)
    → content_after l.size d.block_size (content_among says since d l c) x.number x.bytes ≡ content_among says (since ++ h ∷ []) d l c
block_content says since d l h x is o true = refl
block_content says since d l h x is o false =
    content_moves l.size d.block_size x.number x.bytes (blocks_among says since d l) (blocks_among says (since ++ h ∷ []) d l) (blocks_move says since d l h x is o) (join_all (blocks_among says since d l)) refl

four_false : (a b c d e f : Bool) → (a ≡ false) ⊎ ((b ≡ false) ⊎ (c ≡ false)) → (((((a && b) && c) && d) && e) && f) ≡ false
four_false false b c d e f h = refl
four_false true false c d e f h = refl
four_false true true false d e f h = refl
four_false true true true d e f (inl h) = cc
four_false true true true d e f (inr (inl h)) = cc
four_false true true true d e f (inr (inr h)) = cc

pub other_line : (d : DiiFields) (l : ModuleLine) (x : ddb.Block) → (eqb x.download d.download ≡ false) ⊎ ((eqb x.module_id l.id ≡ false) ⊎ (eqb x.version l.version ≡ false)) → (b : ℕ) → bytes_if_fits d l b (Some x) ≡ None
other_line d l x h b = cond-false _ _ _ (four_false (eqb x.download d.download) (eqb x.module_id l.id) (eqb x.version l.version) (eqb x.number b) (ltb b (ddb.block_count_of l.size d.block_size)) (eqb (length x.bytes) (ddb.block_span_of l.size d.block_size b)) h)

pub turned_round : (a b : ℕ) (t : Bool) → eqb a b ≡ t → eqb b a ≡ t
turned_round a b true e = eq-eqb b a (sym (eqb-true a b e))
turned_round a b false e = ne_eqb b a (λ g. eqb-false a b e (sym g))

-- a line that the block is not of
pub passed_line : {H : Type 0} (says : H → Option ddb.Block) (since : List H) (d : DiiFields) (l : ModuleLine) (h : H) (x : ddb.Block) → says h ≡ Some x
    → (eqb x.download d.download ≡ false) ⊎ ((eqb x.module_id l.id ≡ false) ⊎ (eqb x.version l.version ≡ false)) → line_among says since d l ≡ line_among says (since ++ h ∷ []) d l
passed_line says since d l h x is other = sym (unfit_line says since d l h (λ b. ap (bytes_if_fits d l b) is ∙ other_line d l x other b))

-- the line of the block's module
its_line : {H : Type 0} (says : H → Option ddb.Block) (since : List H) (d : DiiFields) (l : ModuleLine) (h : H) (x : ddb.Block) → says h ≡ Some x → eqb x.download d.download ≡ true → eqb l.id x.module_id ≡ true → (t : Bool) → eqb l.version x.version ≡ t
    → line_after x (line_among says since d l) ≡ line_among says (since ++ h ∷ []) d l
its_line says since d l h x is e f true g =
    cond-true _ _ _ g ∙ ap (line_with d l) (block_content says since d l h x is (record { download = e; id = turned_round l.id x.module_id true f; version = turned_round l.version x.version true g }) l.compressed)
its_line says since d l h x is e f false g =
    cond-false _ _ _ g ∙ passed_line says since d l h x is (inr (inr (turned_round l.version x.version false g)))

same_tail : {H : Type 0} (says : H → Option ddb.Block) (since : ModuleLine → List H) (d : DiiFields) (h : H) (x : ddb.Block) → says h ≡ Some x → (l : ModuleLine) (ls : List ModuleLine) → eqb l.id x.module_id ≡ true → list_any (λ k. eqb k.id l.id) ls ≡ false
    → map (λ k. line_among says (since k) d k) ls ≡ map (λ k. line_among says (since k ++ h ∷ []) d k) ls
same_tail says since d h x is l [] e f = refl
same_tail says since d h x is l (k ∷ ks) e f =
    let p = or_parts _ _ f in
    let apart : eqb x.module_id k.id ≡ false = ne_eqb x.module_id k.id (λ g. eqb-false k.id l.id p.0 (sym g ∙ sym (eqb-true l.id x.module_id e))) in
    ap (λ y. y ∷ map (λ k. line_among says (since k) d k) ks) (passed_line says (since k) d k h x is (inr (inl apart)))
    ∙ ap (λ ys. line_among says (since k ++ h ∷ []) d k ∷ ys) (same_tail says since d h x is l ks e p.1)

-- each line has heard a list of its own
pub lines_move : {H : Type 0} (says : H → Option ddb.Block) (since : ModuleLine → List H) (d : DiiFields) (h : H) (x : ddb.Block) → says h ≡ Some x → (ls : List ModuleLine) → eqb x.download d.download ≡ true → no_id_twice ls ≡ true
    → lines_after x (map (λ k. line_among says (since k) d k) ls) ≡ map (λ k. line_among says (since k ++ h ∷ []) d k) ls
lines_move says since d h x is [] e once = refl
lines_move says since d h x is (l ∷ ls) e once = go (eqb l.id x.module_id) refl (lines_move says since d h x is ls e (and_parts _ _ once).1) where
  go : (t : Bool) → eqb l.id x.module_id ≡ t → lines_after x (map (λ k. line_among says (since k) d k) ls) ≡ map (λ k. line_among says (since k ++ h ∷ []) d k) ls
      → lines_after x (map (λ k. line_among says (since k) d k) (l ∷ ls)) ≡ map (λ k. line_among says (since k ++ h ∷ []) d k) (l ∷ ls)
  go true f rest =
      cond-true _ _ _ f ∙ ap (λ y. y ∷ map (λ k. line_among says (since k) d k) ls) (its_line says (since l) d l h x is e f (eqb l.version x.version) refl)
      ∙ ap (λ ys. line_among says (since l ++ h ∷ []) d l ∷ ys) (same_tail says since d h x is l ls f (not-true _ (and_parts _ _ once).0))
  go false f rest =
      cond-false _ _ _ f ∙ ap (λ y. y ∷ lines_after x (map (λ k. line_among says (since k) d k) ls)) (passed_line says (since l) d l h x is (inr (inl (turned_round l.id x.module_id false f))))
      ∙ ap (λ ys. line_among says (since l ++ h ∷ []) d l ∷ ys) rest

fresh_is : {H : Type 0} (says : H → Option ddb.Block) (d : DiiFields) (l : ModuleLine) (c : Bool) → content_among {H = H} says [] d l c ≡ fresh_content l.size d.block_size c
fresh_is says d l true = refl
fresh_is says d l false = ap content_of (range_replicate None 0 (ddb.block_count_of l.size d.block_size))

pub fresh_line : {H : Type 0} (says : H → Option ddb.Block) (d : DiiFields) (l : ModuleLine) → line_fresh d.block_size l ≡ line_among {H = H} says [] d l
fresh_line says d l = sym (ap (line_with d l) (fresh_is says d l l.compressed))
