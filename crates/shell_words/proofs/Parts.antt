-- Text in parts, one for each item of a list.
use Rattle.std.proofs.Common.{◌≡◌, ℕ, ◌+◌, ◌<◌, length, get_or, List, [], ◌∷◌, ◌++◌, take, drop, Some, ◌∙◌, sym, ap}
use Rattle.std.specs.Prelude.{slice_get}
use Rattle.std.specs.List.{flat_map}
use Rattle.std.proofs.lemmas.Option.{slice_get_within, get_or_from_slice_get, slice_get-get_or}
use Rattle.std.proofs.lemmas.List.{take-append-drop, take_more, flat_map_more}
use Rattle.std.proofs.lemmas.Grind.{flat_map-append}
use Rattle.path_tree.specs.Paths.{Bytes}

-- one part more
pub parts_more : {X : Type 0} (f : X → Bytes) (xs : List X) (i : ℕ) (x : X) → slice_get xs i ≡ Some x → flat_map f (take i xs) ++ f x ≡ flat_map f (take (i + 1) xs)
parts_more f xs i x e =
    flat_map_more f [] (take i xs) x
    ∙ ap (flat_map f) (sym (take_more xs i x (slice_get_within xs i x e) ∙ ap (λ y. take i xs ++ y ∷ []) (get_or_from_slice_get xs i x x e)))

pub parts_next : {X : Type 0} (f : X → Bytes) (xs : List X) (i : ℕ) (x : X) → i < length xs → x ≡ get_or xs i x → flat_map f (take i xs) ++ f x ≡ flat_map f (take (i + 1) xs)
parts_next f xs i x h e = parts_more f xs i x (slice_get-get_or xs i x h ∙ ap Some (sym e))

-- the first parts, and the others
pub parts_all : {X : Type 0} (f : X → Bytes) (xs : List X) (i : ℕ) → flat_map f (take i xs) ++ flat_map f (drop i xs) ≡ flat_map f xs
parts_all f xs i = sym (ap (flat_map f) (sym (take-append-drop i xs)) ∙ flat_map-append f (take i xs) (drop i xs))
