-- Paths of a carousel as path texts of the outside, name by name.
use Rattle.std.proofs.Common.{◌≡◌, ℕ, ◌+◌, ◌<◌, Bool, cond, true, false, not, ◌&&◌, List, [], ◌∷◌, ◌++◌, length, take, drop, Some, None, refl, sym, ap, ◌∙◌, arith, append-nil, append_assoc, length-take}
use Rattle.std.specs.Prelude.{slice_get}
use Rattle.std.specs.List.{flat_map, list_all}
use Rattle.std.specs.Str.{is_utf8}
use Rattle.std.proofs.lemmas.List.{take_more, drop_more, take-append-drop, get_or-take}
use Rattle.std.proofs.lemmas.List.Folds.{list_all-append}
use Rattle.std.proofs.lemmas.Grind.{flat_map-append}
use Rattle.std.proofs.lemmas.Option.{slice_get_within, get_or_from_slice_get, slice_get_read}
use Rattle.path_tree.specs.Paths.{Bytes, PathNames}
use Rattle.folder_store.specs.Walk.{text_below}
use Rattle.path_tree.specs.Texts.{is_name}
use Rattle.folder_extract.specs.Naming.{is_file_name, is_taken}
use Rattle.folder_extract.specs.Inner.Naming.{place_text}

pub front_more : {X : Type 0} (xs : List X) (i : ℕ) (x : X) → slice_get xs i ≡ Some x → take (i + 1) xs ≡ take i xs ++ x ∷ []
front_more {X} xs i x e = take_more xs i x (slice_get_within xs i x e) ∙ ap (λ (y : X). take i xs ++ y ∷ []) (get_or_from_slice_get xs i x x e)

pub at_one : {X : Type 0} (xs : List X) (i : ℕ) (x : X) → slice_get xs i ≡ Some x → xs ≡ take i xs ++ x ∷ drop (i + 1) xs
at_one {X} xs i x e =
    sym (take-append-drop i xs)
    ∙ ap (λ (ys : List X). take i xs ++ ys) (drop_more xs i x (slice_get_within xs i x e) ∙ ap (λ (y : X). y ∷ drop (i + 1) xs) (get_or_from_slice_get xs i x x e))

-- ---- the text

-- a slash and a name more
pub text_next : (folder : Bytes) (p : PathNames) (i : ℕ) (n : Bytes) → slice_get p i ≡ Some n → (text_below folder (take i p) ++ 47 ∷ []) ++ n ≡ text_below folder (take (i + 1) p)
text_next folder p i n e =
    append_assoc (text_below folder (take i p)) (47 ∷ []) n
    ∙ append_assoc folder (flat_map (λ (name : Bytes). 47 ∷ name) (take i p)) (47 ∷ n)
    ∙ ap (λ (bs : Bytes). folder ++ bs) (sym (ap (flat_map (λ (name : Bytes). 47 ∷ name)) (front_more p i n e)
    ∙ flat_map-append (λ (name : Bytes). 47 ∷ name) (take i p) (n ∷ [])
    ∙ ap (λ (bs : Bytes). flat_map (λ (name : Bytes). 47 ∷ name) (take i p) ++ bs) (append-nil (47 ∷ n))))

-- ---- whether names can be those of files

pub and_true : (a : Bool) → (a && true) ≡ a
and_true true = refl
and_true false = refl

pub and_false : (a : Bool) → (a && false) ≡ false
and_false true = refl
and_false false = refl

-- the next one can
pub stand_next : (p : PathNames) (i : ℕ) (n : Bytes) → list_all is_file_name (take i p) ≡ true → slice_get p i ≡ Some n → is_file_name n ≡ true → list_all is_file_name (take (i + 1) p) ≡ true
stand_next p i n all e can =
    ap (list_all is_file_name) (front_more p i n e) ∙ list_all-append is_file_name (take i p) (n ∷ [])
    ∙ ap (λ b. b && (is_file_name n && true)) all ∙ and_true (is_file_name n) ∙ can

-- one can't
pub stand_never : (p : PathNames) (i : ℕ) (n : Bytes) → slice_get p i ≡ Some n → is_file_name n ≡ false → list_all is_file_name p ≡ false
stand_never p i n e cannot =
    ap (list_all is_file_name) (at_one p i n e) ∙ list_all-append is_file_name (take i p) (n ∷ drop (i + 1) p)
    ∙ ap (λ b. list_all is_file_name (take i p) && (b && list_all is_file_name (drop (i + 1) p))) cannot ∙ and_false (list_all is_file_name (take i p))

pub text_named : (n t : Bytes) → t ≡ n → is_utf8 n ≡ true → is_name n ≡ true → is_taken t ≡ false → Some t ≡ cond (is_file_name n) (Some n) None
text_named n t e utf8 name free = ap Some e ∙ sym (ap (λ b. cond b (Some n) None) can) where
  can : is_file_name n ≡ true
  can = ap (λ b. (b && is_name n) && not (is_taken n)) utf8 ∙ ap (λ b. b && not (is_taken n)) name ∙ ap not (ap is_taken (sym e) ∙ free)

pub no_text : (n : Bytes) → is_utf8 n ≡ false → None ≡ cond (is_file_name n) (Some n) None
no_text n none = sym (ap (λ b. cond ((b && is_name n) && not (is_taken n)) (Some n) None) none)

-- what the text of a name that can says, and that there is none where it can't
pub named : (b : Bool) (n text : Bytes) → Some text ≡ cond b (Some n) None → (b ≡ true) × (text ≡ n)
named true n text e = (refl, cc)
named false n text e = absurd (cc)

pub unnamed : (b : Bool) (n : Bytes) → None ≡ cond b (Some n) None → b ≡ false
unnamed true n e = absurd (cc)
unnamed false n e = refl

pub place_none : (folder : Bytes) (p : PathNames) → list_all is_file_name p ≡ false → place_text folder p ≡ None
place_none folder p e = ap (λ b. cond b (Some (text_below folder p)) None) e

pub place_some : (folder : Bytes) (p : PathNames) → list_all is_file_name p ≡ true → place_text folder p ≡ Some (text_below folder p)
place_some folder p e = ap (λ b. cond b (Some (text_below folder p)) None) e

-- a name above the last one
pub slice_get_front : {X : Type 0} (xs : List X) (m i : ℕ) (x : X) → i < m → slice_get xs i ≡ Some x → slice_get (take m xs) i ≡ Some x
slice_get_front xs m i x h e =
    let within : i < length (take m xs) = omega (arith, length-take m xs, slice_get_within xs i x e) in
    slice_get_read (take m xs) (length (take m xs)) i x refl within (sym (get_or-take m xs i x h ∙ get_or_from_slice_get xs i x x e))
