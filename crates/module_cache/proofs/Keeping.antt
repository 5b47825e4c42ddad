-- Old lines put into new ones.
use Rattle.std.proofs.Common.{rules, ℕ, ◌≡◌, ◌<◌, Bool, true, false, cond, eqb, ◌&&◌, List, [], ◌∷◌, map, Option, Some, None, refl, sym, ap, ◌∙◌}
use Rattle.std.specs.List.{find, fold, list_any}
use Rattle.std.proofs.lemmas.Bool.{cond-true, cond-false, eqb-true, eqb-false, ne_eqb, and_parts, or_parts, not-true}
use Rattle.dsi_dii.specs.Controls.{DiiFields, version_of}
use Rattle.dsi_dii.specs.declared.ModuleLine.{ModuleLine}
use Rattle.ddb_block.specs.Blocks as ddb
use Rattle.module_cache.specs.Contents.{StoredState, fresh_content, stored_after}
use Rattle.module_cache.specs.Held.{TunedState, with_first, kept_line, line_fresh, line_after, lines_after, fresh_tuned, tuned_with, tuned_from}
use Rattle.module_cache.specs.Inner.Keeping.{line_keeping, lines_keeping, tuned_keeping}
use Rattle.module_cache.specs.Joining.{no_id_twice, is_within}
use Rattle.module_cache.specs.Spans.{same_line}
use Rattle.module_cache.specs.declared.stored.Line.{Line}
use Rattle.module_cache.proofs.Contents.{turned_round}
use Rattle.module_cache.proofs.Lists.{map_like, map_back}

-- ---- a change of a line leaves what the line says

pub same_says : (p : Line → Bool) (f : Line → Line) → ((x : Line) → (f x).line ≡ x.line) → (xs : List Line) → map (λ x. x.line) (with_first p f xs) ≡ map (λ x. x.line) xs
same_says p f same [] = refl
same_says p f same (x ∷ xs) = go (p x) refl (same_says p f same xs) where
  go : (t : Bool) → p x ≡ t → map (λ x. x.line) (with_first p f xs) ≡ map (λ x. x.line) xs → map (λ x. x.line) (with_first p f (x ∷ xs)) ≡ x.line ∷ map (λ x. x.line) xs
  go true e rest = ap (map (λ x. x.line)) (cond-true _ _ _ e) ∙ ap (λ l. l ∷ map (λ x. x.line) xs) (same x)
  go false e rest = ap (map (λ x. x.line)) (cond-false _ _ _ e) ∙ ap (λ ls. x.line ∷ ls) rest

keeping_says : (old x : Line) → (line_keeping old x).line ≡ x.line
keeping_says old x = go (same_line old.line x.line) where
  go : (t : Bool) → (cond t (record { line = x.line; stored = old.stored }) x).line ≡ x.line
  go true = refl
  go false = refl

pub after_says : (b : ddb.Block) (x : Line) → (line_after b x).line ≡ x.line
after_says b x = go (eqb x.line.version b.version) where
  go : (t : Bool) → (cond t (record { line = x.line; stored = stored_after x.stored b.number b.bytes }) x).line ≡ x.line
  go true = refl
  go false = refl

pub said_after : (b : ddb.Block) (xs : List Line) → map (λ x. x.line) (lines_after b xs) ≡ map (λ x. x.line) xs
said_after b xs = same_says _ (line_after b) (after_says b) xs

pub said_keeping : (xs old : List Line) → map (λ x. x.line) (fold lines_keeping xs old) ≡ map (λ x. x.line) xs
said_keeping xs [] = refl
said_keeping xs (x ∷ old) = said_keeping (lines_keeping xs x) old ∙ same_says _ (line_keeping x) (keeping_says x) xs

pub once_after : (b : ddb.Block) (xs : List Line) → no_id_twice (map (λ x. x.line) xs) ≡ true → no_id_twice (map (λ x. x.line) (lines_after b xs)) ≡ true
once_after b xs e = ap no_id_twice (said_after b xs) ∙ e

pub once_keeping : (xs old : List Line) → no_id_twice (map (λ x. x.line) xs) ≡ true → no_id_twice (map (λ x. x.line) (fold lines_keeping xs old)) ≡ true
once_keeping xs old e = ap no_id_twice (said_keeping xs old) ∙ e

-- the lines of modules say the modules' own lines
pub fresh_says : (block_size : ℕ) (ms : List ModuleLine) → map (λ x. x.line) (map (line_fresh block_size) ms) ≡ ms
fresh_says block_size ms = map_back (line_fresh block_size) (λ x. x.line) (λ l. refl) ms

-- ---- each new line has what is there of the old line of its id

line_of : ModuleLine → StoredState → Line
line_of l s = record { line = l; stored = s }

stored_or : StoredState → ModuleLine → Option Line → StoredState
stored_or s l (Some x) = cond (same_line x.line l) x.stored s
stored_or s l None = s

inside : (l : ModuleLine) (t : Bool) (a b : StoredState) → cond t (line_of l a) (line_of l b) ≡ line_of l (cond t a b)
inside l true a b = refl
inside l false a b = refl

of_id : ModuleLine → Line → Bool
of_id l x = eqb x.line.id l.id

one_tail : (st : ModuleLine → StoredState) (x : Line) (l : ModuleLine) (ls : List ModuleLine) → eqb l.id x.line.id ≡ true → list_any (λ k. eqb k.id l.id) ls ≡ false
    → map (λ k. line_of k (st k)) ls ≡ map (λ k. line_of k (stored_or (st k) k (find (of_id k) (x ∷ [])))) ls
unfolding line_of stored_or of_id
one_tail st x l [] e f = refl
one_tail st x l (k ∷ ks) e f =
    let p = or_parts _ _ f in
    let apart : eqb x.line.id k.id ≡ false = ne_eqb x.line.id k.id (λ g. eqb-false k.id l.id p.0 (sym g ∙ sym (eqb-true l.id x.line.id e))) in
    ap (λ o. line_of k (stored_or (st k) k o) ∷ map (λ k. line_of k (st k)) ks) (sym (cond-false (eqb x.line.id k.id) (Some x) None apart))
    ∙ ap (λ ys. line_of k (stored_or (st k) k (find (of_id k) (x ∷ []))) ∷ ys) (one_tail st x l ks e p.1)

one_kept : (st : ModuleLine → StoredState) (x : Line) (ms : List ModuleLine) → no_id_twice ms ≡ true
    → lines_keeping (map (λ l. line_of l (st l)) ms) x ≡ map (λ l. line_of l (stored_or (st l) l (find (of_id l) (x ∷ [])))) ms
unfolding line_of stored_or of_id
one_kept st x [] once = refl
one_kept st x (l ∷ ls) once = go (eqb l.id x.line.id) refl (one_kept st x ls (and_parts _ _ once).1) where
  after : StoredState → List ModuleLine → List Line
  after s ks = line_of l s ∷ map (λ k. line_of k (stored_or (st k) k (find (of_id k) (x ∷ [])))) ks

  go : (t : Bool) → eqb l.id x.line.id ≡ t → lines_keeping (map (λ k. line_of k (st k)) ls) x ≡ map (λ k. line_of k (stored_or (st k) k (find (of_id k) (x ∷ [])))) ls
      → lines_keeping (line_of l (st l) ∷ map (λ k. line_of k (st k)) ls) x ≡ line_of l (stored_or (st l) l (find (of_id l) (x ∷ []))) ∷ map (λ k. line_of k (stored_or (st k) k (find (of_id k) (x ∷ [])))) ls
  go true e rest =
      cond-true _ _ _ e
      ∙ ap (λ y. y ∷ map (λ k. line_of k (st k)) ls) (inside l (same_line x.line l) x.stored (st l) ∙ ap (λ o. line_of l (stored_or (st l) l o)) (sym (cond-true (eqb x.line.id l.id) (Some x) None (turned_round l.id x.line.id true e))))
      ∙ ap (λ ys. line_of l (stored_or (st l) l (find (of_id l) (x ∷ []))) ∷ ys) (one_tail st x l ls e (not-true _ (and_parts _ _ once).0))
  go false e rest =
      cond-false _ _ _ e
      ∙ ap (λ o. line_of l (stored_or (st l) l o) ∷ lines_keeping (map (λ k. line_of k (st k)) ls) x) (sym (cond-false (eqb x.line.id l.id) (Some x) None (turned_round l.id x.line.id false e)))
      ∙ ap (λ ys. line_of l (stored_or (st l) l (find (of_id l) (x ∷ []))) ∷ ys) rest

-- no line of these has this id
none_of : (l : ModuleLine) (x : Line) (xs : List Line) → eqb x.line.id l.id ≡ true → list_any (λ k. eqb k.id x.line.id) (map (λ y. y.line) xs) ≡ false → find (of_id l) xs ≡ None
unfolding of_id
none_of l x [] e f = refl
none_of l x (y ∷ ys) e f =
    let p = or_parts _ _ f in
    let apart : eqb y.line.id l.id ≡ false = ne_eqb y.line.id l.id (λ g. eqb-false y.line.id x.line.id p.0 (g ∙ sym (eqb-true x.line.id l.id e))) in
    cond-false _ _ _ apart ∙ none_of l x ys e p.1

all_kept : (st : ModuleLine → StoredState) (ms : List ModuleLine) → no_id_twice ms ≡ true → (old : List Line) → no_id_twice (map (λ y. y.line) old) ≡ true
    → fold lines_keeping (map (λ l. line_of l (st l)) ms) old ≡ map (λ l. line_of l (stored_or (st l) l (find (of_id l) old))) ms
unfolding line_of stored_or of_id
all_kept st ms once [] o = refl
all_kept st ms once (x ∷ xs) o =
    ap (λ ys. fold lines_keeping ys xs) (one_kept st x ms once)
    ∙ all_kept (λ l. stored_or (st l) l (find (of_id l) (x ∷ []))) ms once xs (and_parts _ _ o).1
    ∙ map_like _ _ ms each
  where
    by_id : (l : ModuleLine) (t : Bool) → eqb x.line.id l.id ≡ t
        → stored_or (stored_or (st l) l (cond t (Some x) None)) l (find (of_id l) xs) ≡ stored_or (st l) l (cond t (Some x) (find (of_id l) xs))
    by_id l true e = ap (stored_or (stored_or (st l) l (Some x)) l) (none_of l x xs e (not-true _ (and_parts _ _ o).0))
    by_id l false e = refl

    each : (l : ModuleLine) → line_of l (stored_or (stored_or (st l) l (find (of_id l) (x ∷ []))) l (find (of_id l) xs)) ≡ line_of l (stored_or (st l) l (find (of_id l) (x ∷ xs)))
    each l = ap (line_of l) (by_id l (eqb x.line.id l.id) refl)

fresh_stored : ℕ → ModuleLine → StoredState
fresh_stored block_size l = record { size = l.size; block_size = block_size; content = fresh_content l.size block_size l.compressed }

is_kept_line : (block_size : ℕ) (l : ModuleLine) (o : Option Line) → line_of l (stored_or (fresh_stored block_size l) l o) ≡ kept_line block_size l o
unfolding line_of stored_or fresh_stored
is_kept_line block_size l None = refl
is_kept_line block_size l (Some x) = sym (inside l (same_line x.line l) x.stored (fresh_stored block_size l))

-- ---- an old DII put into a new one

pub keeping_is : (t : TunedState) (d : DiiFields) → no_id_twice d.modules ≡ true → no_id_twice (map (λ x. x.line) t.lines) ≡ true → tuned_keeping (fresh_tuned d) t ≡ tuned_from (Some t) d
unfolding line_of stored_or fresh_stored of_id
keeping_is t d once o = go (eqb t.download d.download && eqb t.block_size d.block_size) refl where
  go : (c : Bool) → (eqb t.download d.download && eqb t.block_size d.block_size) ≡ c
      → cond c (tuned_with d (fold lines_keeping (map (line_fresh d.block_size) d.modules) t.lines)) (fresh_tuned d)
      ≡ tuned_with d (map (λ l. cond c (kept_line d.block_size l (find (of_id l) t.lines)) (line_fresh d.block_size l)) d.modules)
  go true e = ap (tuned_with d) (all_kept (fresh_stored d.block_size) d.modules once t.lines o ∙ map_like _ _ d.modules (λ l. is_kept_line d.block_size l (find (of_id l) t.lines)))
  go false e = refl

pub version_below : (n : ℕ) → version_of n < 16384
version_below n = search rules

pub within_once : (d : DiiFields) → is_within d ≡ true → no_id_twice d.modules ≡ true
within_once d e = (and_parts _ _ e).1
