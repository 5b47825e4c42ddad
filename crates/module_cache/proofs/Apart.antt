-- DIIs that are held together list no module twice and differ in identification, and so they do with one that may join them.
use Rattle.std.proofs.Common.{ℕ, ◌≡◌, Bool, true, false, eqb, ◌||◌, List, [], ◌∷◌, ◌++◌, refl, sym, ap, ◌∙◌}
use Rattle.std.specs.List.{filter, list_any}
use Rattle.std.proofs.lemmas.Bool.{or_parts, or_from, eqb-true}
use Rattle.std.proofs.lemmas.List.Folds.{list_any-append}
use Rattle.dsi_dii.specs.Controls.{DiiFields}
use Rattle.dsi_dii.specs.declared.ModuleLine.{ModuleLine}
use Rattle.module_cache.specs.Held.{TunedState}
use Rattle.module_cache.specs.Joining.{Outline, outline, lists, AreApart, AreOnce, AreDistinct, no_id_twice}
use Rattle.module_cache.specs.Inner.Joining.{numbers}
use Rattle.module_cache.proofs.Contents.{turned_round}

any_or : {X : Type 0} (p q : X → Bool) (xs : List X) → list_any (λ x. p x || q x) xs ≡ false → (list_any p xs ≡ false) × (list_any q xs ≡ false)
any_or p q [] e = (refl, refl)
any_or p q (x ∷ xs) e =
    let one = or_parts _ _ e in
    let here = or_parts _ _ one.0 in
    let rest = any_or p q xs one.1 in
    (or_from _ _ here.0 rest.0, or_from _ _ here.1 rest.1)

-- what one lists another doesn't, where none of the other's modules is listed
unlisted_by : (o : Outline) (ms : List ModuleLine) (id : ℕ) → lists o id ≡ true → list_any (λ l. lists o l.id) ms ≡ false → list_any (λ l. eqb l.id id) ms ≡ false
unlisted_by o [] id listed e = refl
unlisted_by o (l ∷ ms) id listed e = let p = or_parts _ _ e in or_from _ _ (go (eqb l.id id) refl p.0) (unlisted_by o ms id listed p.1) where
  go : (t : Bool) → eqb l.id id ≡ t → lists o l.id ≡ false → t ≡ false
  go true f none = sym listed ∙ ap (lists o) (sym (eqb-true _ _ f)) ∙ none
  go false f none = refl

pub apart_more : (os : List Outline) (d : DiiFields) → AreApart os → list_any (λ l. list_any (λ o. lists o l.id) os) d.modules ≡ false → AreApart (os ++ outline d ∷ [])
apart_more [] d a e = (λ id f. refl, tt)
apart_more (o ∷ os) d a e =
    let p = any_or (λ l. lists o l.id) (λ l. list_any (λ o. lists o l.id) os) d.modules e in (
      λ id f. list_any-append (λ p. lists p id) os (outline d ∷ []) ∙ or_from _ _ (a.0 id f) (or_from _ _ (unlisted_by o d.modules id f p.0) refl),
      apart_more os d a.1 p.1,
    )

pub once_more : (os : List Outline) (d : DiiFields) → AreOnce os → no_id_twice d.modules ≡ true → AreOnce (os ++ outline d ∷ [])
once_more [] d a e = (e, tt)
once_more (o ∷ os) d a e = (a.0, once_more os d a.1 e)

pub distinct_more : (ns : List ℕ) (m : ℕ) → AreDistinct ns → list_any (λ k. eqb k m) ns ≡ false → AreDistinct (ns ++ m ∷ [])
distinct_more [] m a e = (refl, tt)
distinct_more (n ∷ ns) m a e =
    let p = or_parts _ _ e in
    (list_any-append (λ k. eqb k n) ns (m ∷ []) ∙ or_from _ _ a.0 (or_from _ _ (turned_round n m false p.0) refl), distinct_more ns m a.1 p.1)

-- fewer of them differ too
none_left : (n : ℕ) (p : TunedState → Bool) (ts : List TunedState) → list_any (λ k. eqb k n) (numbers ts) ≡ false → list_any (λ k. eqb k n) (numbers (filter p ts)) ≡ false
none_left n p [] e = refl
none_left n p (t ∷ ts) e = go (p t) refl (none_left n p ts (or_parts _ _ e).1) where
  go : (b : Bool) → p t ≡ b → list_any (λ k. eqb k n) (numbers (filter p ts)) ≡ false → list_any (λ k. eqb k n) (numbers (filter p (t ∷ ts))) ≡ false
  go true f rest = rw f (or_from _ _ (or_parts _ _ e).0 rest)
  go false f rest = rw f rest

pub distinct_left : (p : TunedState → Bool) (ts : List TunedState) → AreDistinct (numbers ts) → AreDistinct (numbers (filter p ts))
distinct_left p [] a = tt
distinct_left p (t ∷ ts) a = go (p t) refl (distinct_left p ts a.1) where
  go : (b : Bool) → p t ≡ b → AreDistinct (numbers (filter p ts)) → AreDistinct (numbers (filter p (t ∷ ts)))
  go true f rest = rw f (none_left t.identification p ts a.0, rest)
  go false f rest = rw f rest
