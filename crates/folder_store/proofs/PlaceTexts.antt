-- The text of a path with one name more.
use Rattle.std.proofs.Common.{◌≡◌, ◌<◌, [], ◌∷◌, ◌++◌, length, ◌∙◌, ap, arith, append-nil}
use Rattle.std.specs.List.{flat_map}
use Rattle.std.proofs.lemmas.Grind.{flat_map-append}
use Rattle.path_tree.specs.Paths.{Bytes, PathNames}
use Rattle.path_tree.specs.Texts.{printed_name, text_of}

pub text_more : (path : PathNames) (name : Bytes) → 0 < length path → text_of (path ++ name ∷ []) ≡ text_of path ++ printed_name name
text_more [] name some = absurd (omega (arith, some))
text_more (n ∷ ns) name some = flat_map-append printed_name (n ∷ ns) (name ∷ []) ∙ ap (λ bs. flat_map printed_name (n ∷ ns) ++ bs) (append-nil (printed_name name))

pub text_first : (path : PathNames) (name : Bytes) → length path ≡ 0 → text_of (path ++ name ∷ []) ≡ printed_name name
text_first [] name none = append-nil (printed_name name)
text_first (n ∷ ns) name none = absurd (omega (arith, none))
