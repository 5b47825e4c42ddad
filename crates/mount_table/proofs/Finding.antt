-- The mount of a name, in a list whose names differ: the same one in whatever order the mounts stand.
use Rattle.std.proofs.Common.{ℕ, ◌≡◌, ◌<◌, ◌⊎◌, Bool, true, false, cond, ◌||◌, List, [], ◌∷◌, length, get_or, Option, Some, None, inl, inr, refl, sym, ap, ◌∙◌}
use Rattle.std.specs.List.{All, find, list_any}
use Rattle.std.specs.List.Sorted.{IsPermutation}
use Rattle.std.proofs.lemmas.Bool.{cases_order}
use Rattle.std.proofs.lemmas.List.{get_or_default}
use Rattle.std.proofs.lemmas.List.Elements.{All-head, All-tail}
use Rattle.std.proofs.lemmas.List.Folds.{Any-from_list_any}
use Rattle.std.proofs.lemmas.List.Sorted.{All-permutation, list_any-IsPermutation}
use Rattle.path_tree.specs.Paths.{Bytes, same_name}
use Rattle.path_tree.proofs.CallerLemmas.{same_name-is}
use Rattle.mount_table.specs.declared.mount.Mount.{Mount}
use Rattle.mount_table.specs.Mounts.{mount_named, at_mount}
use Rattle.mount_table.specs.Laws.{IsSound, OrderIsFree}

-- where all that pass are one, it is found
found_only : (p : Mount → Bool) (xs : List Mount) (x : Mount) → All (λ y. p y ≡ true → y ≡ x) xs → list_any p xs ≡ true → find p xs ≡ Some x
found_only p [] x all e = cc
found_only p (y ∷ ys) x all e = go (p y) refl e (found_only p ys x (All-tail (λ z. p z ≡ true → z ≡ x) y ys all)) where
  go : (t : Bool) → p y ≡ t → (t || list_any p ys) ≡ true → (list_any p ys ≡ true → find p ys ≡ Some x) → cond {A = Option Mount} t (Some y) (find p ys) ≡ Some x
  go true f h later = ap (λ (m : Mount). Some m) (All-head (λ z. p z ≡ true → z ≡ x) y ys all f)
  go false f h later = later h

found_none : (p : Mount → Bool) (xs : List Mount) → list_any p xs ≡ false → find p xs ≡ None
found_none p [] e = refl
found_none p (y ∷ ys) e = go (p y) e (found_none p ys) where
  go : (t : Bool) → (t || list_any p ys) ≡ false → (list_any p ys ≡ false → find p ys ≡ None) → cond {A = Option Mount} t (Some y) (find p ys) ≡ None
  go true h later = cc
  go false h later = later h

abbrev is_of : Bytes → Mount → Bool
is_of name m = same_name m.name name

-- two mounts of one name are one
one_of_name : (list : List Mount) → IsSound list → (name : Bytes) (i j : ℕ) (d e : Mount) → i < length list → j < length list
    → is_of name (get_or list i d) ≡ true → is_of name (get_or list j e) ≡ true → get_or list i d ≡ get_or list j e
one_of_name list h name i j d e below within s t = go (cases_order i j) where
  same : (get_or list i d).name ≡ (get_or list j e).name
  same = same_name-is (get_or list i d).name name s ∙ sym (same_name-is (get_or list j e).name name t)

  here : get_or list i d ≡ get_or list i e
  here = get_or_default list i d e below

  there : get_or list j e ≡ get_or list j d
  there = get_or_default list j e d within

  go : (i ≡ j) ⊎ ((i < j) ⊎ (j < i)) → get_or list i d ≡ get_or list j e
  go (inl k) = here ∙ ap (λ (n : ℕ). get_or list n e) k
  go (inr (inl before)) = absurd ((h.apart i j d before within).0 (same ∙ ap (λ (m : Mount). m.name) there))
  go (inr (inr behind)) = absurd ((h.apart j i d behind below).0 (sym (same ∙ ap (λ (m : Mount). m.name) there)))

found_alike : (list table : List Mount) → IsSound list → IsPermutation list table → (name : Bytes) → mount_named table name ≡ mount_named list name
found_alike list table h moved name = go (list_any (is_of name) list) refl where
  alike : list_any (is_of name) table ≡ list_any (is_of name) list
  alike = sym (list_any-IsPermutation (is_of name) list table moved)

  go : (t : Bool) → list_any (is_of name) list ≡ t → find (is_of name) table ≡ find (is_of name) list
  go false f = found_none (is_of name) table (alike ∙ f) ∙ sym (found_none (is_of name) list f)
  go true f =
      let any = Any-from_list_any (is_of name) list f in
      let one : All (λ y. is_of name y ≡ true → y ≡ any.1) list = λ i d lt s. one_of_name list h name i any.0 d any.1 lt any.2 s (ap (is_of name) any.3 ∙ any.4) ∙ any.3 in
      found_only (is_of name) table any.1 (All-permutation (λ y. is_of name y ≡ true → y ≡ any.1) list table moved one) (alike ∙ f) ∙ sym (found_only (is_of name) list any.1 one f)

pub order_is_free : OrderIsFree
order_is_free list table h t packets [] = refl
order_is_free list table h t packets (n ∷ rest) = ap (at_mount packets rest) (found_alike list table h t.moved n)
