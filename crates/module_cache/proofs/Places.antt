-- The first line of a module, and the line of a block's module among the held DIIs.
use Rattle.std.proofs.Common.{ℕ, zero, suc, ◌≡◌, ◌+◌, ◌<◌, ◌≤◌, Bool, true, false, cond, eqb, ltb, ◌&&◌, ◌||◌, List, [], ◌∷◌, length, get_or, drop, map, Option, Some, None, refl, sym, ap, subst, ◌∙◌, arith, drop-cons, add-one}
use Rattle.std.proofs.Math.ListN.{set}
use Rattle.std.specs.List.{find, list_any, position, position_or_len}
use Rattle.std.specs.Option.{is_some, option_map_or}
use Rattle.std.proofs.lemmas.Bool.{cond-true, cond-false, eq-eqb, ne_eqb, ltb-false}
use Rattle.std.proofs.lemmas.List.{drop_all}
use Rattle.std.proofs.lemmas.List.Sums.{fails_before_first}
use Rattle.std.proofs.lemmas.List.Quantifiers.{position-Some}
use Rattle.std.proofs.lemmas.Option.{same_Some}
use Rattle.ddb_block.specs.Blocks as ddb
use Rattle.module_cache.specs.declared.stored.Line.{Line}
use Rattle.module_cache.specs.Held.{TunedState, with_first, taken_line, taken_tuned, line_after, tuned_after}
use Rattle.module_cache.specs.Contents.{StoredState, taken_in, stored_after}
use Rattle.module_cache.specs.declared.taken.Taken.TheVariants as taken
use Rattle.module_cache.specs.Joining.{has_line, lists, outline_held}
use Rattle.module_cache.specs.Inner.Placing.{line_in, line_from}
use Rattle.module_cache.proofs.Lists.{any_map}

-- the first element that passes stands at this place
pub record IsFirst {X : Type 0} (p : X → Bool) (xs : List X) (i : ℕ) (d : X) : Type 0 where
  pub inside : i < length xs
  pub passes : p (get_or xs i d) ≡ true
  pub before : (k : ℕ) → k < i → p (get_or xs k d) ≡ false

pub first_place : {X : Type 0} (p : X → Bool) (xs : List X) (i : ℕ) (d : X) → position p xs ≡ Some i → IsFirst p xs i d
first_place p xs i d e = let s = position-Some p xs i d e in record { inside = s.0; passes = s.1; before = s.2 }

first_after : {X : Type 0} (p : X → Bool) (x : X) (xs : List X) (i : ℕ) (d : X) → IsFirst p (x ∷ xs) (suc i) d → IsFirst p xs i d
first_after p x xs i d f = record { inside = omega (arith, f.inside); passes = f.passes; before = λ k h. f.before (suc k) (omega arith) }

pub found_first : {X : Type 0} (p : X → Bool) (xs : List X) (i : ℕ) (d : X) → IsFirst p xs i d → find p xs ≡ Some (get_or xs i d)
found_first p [] i d f = absurd (omega (arith, f.inside))
found_first p (x ∷ xs) zero d f = cond-true _ _ _ f.passes
found_first p (x ∷ xs) (suc i) d f = cond-false _ _ _ (f.before 0 (omega arith)) ∙ found_first p xs i d (first_after p x xs i d f)

pub first_changed : {X : Type 0} (p : X → Bool) (f : X → X) (xs : List X) (i : ℕ) (d : X) → IsFirst p xs i d → with_first p f xs ≡ set xs i (f (get_or xs i d))
first_changed p f [] i d first = absurd (omega (arith, first.inside))
first_changed p f (x ∷ xs) zero d first = cond-true _ _ _ first.passes
first_changed p f (x ∷ xs) (suc i) d first = cond-false _ _ _ (first.before 0 (omega arith)) ∙ ap (λ ys. x ∷ ys) (first_changed p f xs i d (first_after p x xs i d first))

pub none_changed : {X : Type 0} (p : X → Bool) (f : X → X) (xs : List X) → find p xs ≡ None → with_first p f xs ≡ xs
none_changed p f [] e = refl
none_changed p f (x ∷ xs) e = go (p x) refl (none_changed p f xs) where
  go : (t : Bool) → p x ≡ t → (find p xs ≡ None → with_first p f xs ≡ xs) → with_first p f (x ∷ xs) ≡ x ∷ xs
  go true t rest = absurd (cc (e, cond-true (p x) (Some x) (find p xs) t))
  go false t rest = cond-false _ _ _ t ∙ ap (λ ys. x ∷ ys) (rest (sym (cond-false _ _ _ t) ∙ e))

none_before : {X : Type 0} (p : X → Bool) (xs : List X) (d : X) → ((k : ℕ) → k < length xs → p (get_or xs k d) ≡ false) → find p xs ≡ None
none_before p [] d f = refl
none_before p (x ∷ xs) d f = cond-false _ _ _ (f 0 (omega arith)) ∙ none_before p xs d (λ k h. f (suc k) (omega arith))

no_place : (n m : ℕ) → cond (ltb n m) (Some n) None ≡ None → m ≤ n
no_place n m e = go (ltb n m) refl where
  go : (t : Bool) → ltb n m ≡ t → m ≤ n
  go true t = absurd (cc (e, cond-true (ltb n m) (Some n) None t))
  go false t = ltb-false n m t

pub none_placed : {X : Type 0} (p : X → Bool) (xs : List X) → position p xs ≡ None → find p xs ≡ None
none_placed p [] e = refl
none_placed p (x ∷ xs) e =
    let all : length (x ∷ xs) ≤ position_or_len p (x ∷ xs) = no_place _ _ e in
    none_before p (x ∷ xs) x (λ k h. fails_before_first p (x ∷ xs) k x (omega arith))

-- ---- whether there is one

any_found : {X : Type 0} (p : X → Bool) (xs : List X) → list_any p xs ≡ is_some (find p xs)
any_found p [] = refl
any_found p (x ∷ xs) = go (p x) (any_found p xs) where
  go : (t : Bool) → list_any p xs ≡ is_some (find p xs) → (t || list_any p xs) ≡ is_some (cond t (Some x) (find p xs))
  go true rest = refl
  go false rest = rest

placed_found : {X : Type 0} (p : X → Bool) (xs : List X) (i : ℕ) → position p xs ≡ Some i → is_some (find p xs) ≡ true
placed_found p [] i e = cc
placed_found p (x ∷ xs) i e = ap is_some (found_first p (x ∷ xs) i x (first_place p (x ∷ xs) i x e))

pub any_placed : {X : Type 0} (p : X → Bool) (xs : List X) → list_any p xs ≡ is_some (position p xs)
any_placed p xs = any_found p xs ∙ go (position p xs) refl where
  go : (o : Option ℕ) → position p xs ≡ o → is_some (find p xs) ≡ is_some o
  go None e = ap is_some (none_placed p xs e)
  go (Some i) e = placed_found p xs i e

nothing : {X : Type 0} (o : Option X) → is_some o ≡ false → o ≡ None
nothing None e = refl
nothing (Some x) e = cc

pub unplaced : {X : Type 0} (p : X → Bool) (xs : List X) → list_any p xs ≡ false → position p xs ≡ None
unplaced p xs e = nothing (position p xs) (sym (any_placed p xs) ∙ e)

-- ---- the line of a block's module

has_line_is : (b : ddb.Block) (t : TunedState) → has_line b t ≡ is_some (line_in b t)
has_line_is b t = go (eqb t.download b.download) where
  go : (c : Bool) → (c && lists (outline_held t) b.module_id) ≡ is_some (cond c (position (λ x. eqb x.line.id b.module_id) t.lines) None)
  go true = any_map (λ x. x.line) (λ l. eqb l.id b.module_id) t.lines ∙ any_placed (λ x. eqb x.line.id b.module_id) t.lines
  go false = refl

-- it stands at the place `l` of the DII at the place `i`, the first of these that has one
pub record IsLineAt (b : ddb.Block) (ts : List TunedState) (i l : ℕ) (d : TunedState) : Type 0 where
  pub first : IsFirst (has_line b) ts i d
  pub line : line_in b (get_or ts i d) ≡ Some l

one_later : {X : Type 0} (p : X → Bool) (x : X) (xs : List X) (i : ℕ) (d : X) → p x ≡ false → IsFirst p xs i d → IsFirst p (x ∷ xs) (suc i) d
one_later p x xs i d e f = record { inside = omega (arith, f.inside); passes = f.passes; before = go } where
  go : (k : ℕ) → k < suc i → p (get_or (x ∷ xs) k d) ≡ false
  go zero h = e
  go (suc k) h = f.before k (omega arith)

at_once : {X : Type 0} (p : X → Bool) (x : X) (xs : List X) (d : X) → p x ≡ true → IsFirst p (x ∷ xs) 0 d
at_once p x xs d e = record { inside = omega arith; passes = e; before = λ k h. absurd (omega (arith, h)) }

or_from : ℕ → Option (ℕ × ℕ) → Option ℕ → Option (ℕ × ℕ)
or_from k rest o = option_map_or (λ line. Some (k, line)) o rest

line_counted : (b : ddb.Block) (k : ℕ) (ts : List TunedState) (i l : ℕ) (d : TunedState) → line_from b k ts ≡ Some (i, l) → (j : ℕ) × (i ≡ k + j) × IsLineAt b ts j l d
unfolding or_from
line_counted b k [] i l d e = cc
line_counted b k (t ∷ ts) i l d e = go (line_in b t) refl (line_counted b (k + 1) ts i l d) where
  go : (o : Option ℕ) → line_in b t ≡ o → (line_from b (k + 1) ts ≡ Some (i, l) → (j : ℕ) × (i ≡ (k + 1) + j) × IsLineAt b ts j l d) → (j : ℕ) × (i ≡ k + j) × IsLineAt b (t ∷ ts) j l d
  go None f rest =
      let r = rest (sym (ap (or_from k (line_from b (k + 1) ts)) f) ∙ e) in
      let at : i ≡ (k + 1) + r.0 = r.1 in
      (suc r.0, omega (arith, at), record { first = one_later (has_line b) t ts r.0 d (has_line_is b t ∙ ap is_some f) r.2.first; line = r.2.line })
  go (Some m) f rest =
      let same : ◌≡◌ {A = Option (ℕ × ℕ)} (Some (k, m)) (Some (i, l)) = sym (ap (or_from k (line_from b (k + 1) ts)) f) ∙ e in
      let pair : ◌≡◌ {A = ℕ × ℕ} (k, m) (i, l) = same_Some (k, m) (i, l) same in
      let at : k ≡ i = ap (λ p. p.0) pair in
      (0, omega (arith, at), record { first = at_once (has_line b) t ts d (has_line_is b t ∙ ap is_some f); line = f ∙ ap (λ p. Some p.1) pair })

pub line_found : (b : ddb.Block) (ts : List TunedState) (i l : ℕ) (d : TunedState) → line_from b 0 ts ≡ Some (i, l) → IsLineAt b ts i l d
line_found b ts i l d e =
    let r = line_counted b 0 ts i l d e in
    let at : i ≡ 0 + r.0 = r.1 in
    subst (λ j. IsLineAt b ts j l d) (sym (omega (arith, at))) r.2

pub line_missing : (b : ddb.Block) (k : ℕ) (ts : List TunedState) → line_from b k ts ≡ None → find (has_line b) ts ≡ None
unfolding or_from
line_missing b k [] e = refl
line_missing b k (t ∷ ts) e = go (line_in b t) refl (line_missing b (k + 1) ts) where
  go : (o : Option ℕ) → line_in b t ≡ o → (line_from b (k + 1) ts ≡ None → find (has_line b) ts ≡ None) → find (has_line b) (t ∷ ts) ≡ None
  go None f rest = cond-false _ _ _ (has_line_is b t ∙ ap is_some f) ∙ rest (sym (ap (or_from k (line_from b (k + 1) ts)) f) ∙ e)
  go (Some m) f rest = let bad : ◌≡◌ {A = Option (ℕ × ℕ)} (Some (k, m)) None = sym (ap (or_from k (line_from b (k + 1) ts)) f) ∙ e in cc

-- ---- the search, one DII more

pub next_one : (ts : List TunedState) (i : ℕ) (t : TunedState) → i < length ts → t ≡ get_or ts i t → drop i ts ≡ t ∷ drop (i + 1) ts
next_one ts i t lt at = drop-cons ts i t lt ∙ ap (λ u. u ∷ drop (suc i) ts) (sym at) ∙ ap (λ k. t ∷ drop k ts) (sym (add-one i))

pub line_past : (b : ddb.Block) (ts : List TunedState) (i : ℕ) (t : TunedState) → i < length ts → t ≡ get_or ts i t → line_in b t ≡ None → line_from b i (drop i ts) ≡ line_from b (i + 1) (drop (i + 1) ts)
unfolding or_from
line_past b ts i t lt at none = ap (line_from b i) (next_one ts i t lt at) ∙ ap (or_from i (line_from b (i + 1) (drop (i + 1) ts))) none

pub line_here : (b : ddb.Block) (ts : List TunedState) (i l : ℕ) (t : TunedState) → i < length ts → t ≡ get_or ts i t → line_in b t ≡ Some l → line_from b i (drop i ts) ≡ Some (i, l)
unfolding or_from
line_here b ts i l t lt at is = ap (line_from b i) (next_one ts i t lt at) ∙ ap (or_from i (line_from b (i + 1) (drop (i + 1) ts))) is

pub line_none : (b : ddb.Block) (ts : List TunedState) (i : ℕ) → length ts ≤ i → line_from b i (drop i ts) ≡ None
line_none b ts i le = ap (line_from b i) (drop_all i ts le)

-- ---- one block offered to that line

abbrev pub with_lines : TunedState → List Line → TunedState
with_lines t ls = record t { lines = ls }

abbrev pub with_stored : Line → StoredState → Line
with_stored x s = record { line = x.line; stored = s }

-- the DII has the block's download, and the line is the first of its module
pub record IsLineOf (b : ddb.Block) (t : TunedState) (l : ℕ) : Type 0 where
  pub download : eqb t.download b.download ≡ true
  pub place : position (λ x. eqb x.line.id b.module_id) t.lines ≡ Some l

pub line_of : (b : ddb.Block) (t : TunedState) (l : ℕ) → line_in b t ≡ Some l → IsLineOf b t l
line_of b t l e = go (eqb t.download b.download) refl where
  go : (c : Bool) → eqb t.download b.download ≡ c → IsLineOf b t l
  go true f = record { download = f; place = sym (cond-true _ _ _ f) ∙ e }
  go false f = let bad : ◌≡◌ {A = Option ℕ} None (Some l) = sym (cond-false _ _ _ f) ∙ e in cc

placed_inside : {X : Type 0} (p : X → Bool) (xs : List X) (i : ℕ) → position p xs ≡ Some i → i < length xs
placed_inside p [] i e = cc
placed_inside p (x ∷ xs) i e = (first_place p (x ∷ xs) i x e).inside

pub line_inside : (b : ddb.Block) (t : TunedState) (l : ℕ) → line_in b t ≡ Some l → l < length t.lines
line_inside b t l e = placed_inside (λ x. eqb x.line.id b.module_id) t.lines l (line_of b t l e).place

module _ (b : ddb.Block) (t : TunedState) (l : ℕ) (x : Line) where
  pub taken_at_line : line_in b t ≡ Some l → x ≡ get_or t.lines l x → taken_tuned t b ≡ taken_line b (Some x)
  taken_at_line e at =
      let is = line_of b t l e in
      cond-true _ _ _ is.download ∙ ap (taken_line b) (found_first (λ y. eqb y.line.id b.module_id) t.lines l x (first_place (λ y. eqb y.line.id b.module_id) t.lines l x is.place) ∙ ap (λ (y : Line). Some y) (sym at))

  pub refused_at : line_in b t ≡ Some l → x ≡ get_or t.lines l x → (x.line.version ≡ b.version → ⊥) → taken_tuned t b ≡ taken.OtherVersion
  refused_at e at other = taken_at_line e at ∙ cond-false _ _ _ (ne_eqb x.line.version b.version other)

  pub taken_at : line_in b t ≡ Some l → x ≡ get_or t.lines l x → x.line.version ≡ b.version → taken_tuned t b ≡ taken_in x.stored b.number b.bytes
  taken_at e at same = taken_at_line e at ∙ cond-true _ _ _ (eq-eqb x.line.version b.version same)

  after_line : (y : Line) → line_in b t ≡ Some l → x ≡ get_or t.lines l x → y ≡ line_after b x → with_lines t (set t.lines l y) ≡ tuned_after t b
  after_line y e at is =
      let its = line_of b t l e in
      ap (with_lines t)
      (ap (set t.lines l) is ∙ ap (λ z. set t.lines l (line_after b z)) at
      ∙ sym (first_changed (λ y. eqb y.line.id b.module_id) (line_after b) t.lines l x (first_place (λ y. eqb y.line.id b.module_id) t.lines l x its.place)))
      ∙ sym (cond-true _ _ _ its.download)

  pub after_refused : line_in b t ≡ Some l → x ≡ get_or t.lines l x → (x.line.version ≡ b.version → ⊥) → with_lines t (set t.lines l x) ≡ tuned_after t b
  after_refused e at other = after_line x e at (sym (cond-false _ _ _ (ne_eqb x.line.version b.version other)))

  pub after_taken : (s : StoredState) → line_in b t ≡ Some l → x ≡ get_or t.lines l x → x.line.version ≡ b.version → s ≡ stored_after x.stored b.number b.bytes
      → with_lines t (set t.lines l (with_stored x s)) ≡ tuned_after t b
  after_taken s e at same is = after_line (with_stored x s) e at (ap (with_stored x) is ∙ sym (cond-true _ _ _ (eq-eqb x.line.version b.version same)))

-- the lines say what they said
pub said_set : (xs : List Line) (l : ℕ) (x : Line) (s : StoredState) → x ≡ get_or xs l x → map (λ y. y.line) (set xs l (with_stored x s)) ≡ map (λ y. y.line) xs
said_set [] l x s at = refl
said_set (y ∷ ys) zero x s at = ap (λ (z : Line). z.line ∷ map (λ y. y.line) ys) at
said_set (y ∷ ys) (suc l) x s at = ap (λ ls. y.line ∷ ls) (said_set ys l x s at)
