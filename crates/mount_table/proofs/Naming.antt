-- The names behind a path's first one, put together one after another.
use Rattle.std.proofs.Common.{◌≡◌, ℕ, ◌+◌, ◌<◌, ◌≤◌, Bool, true, false, cond, not, ◌==◌, ◌&&◌, ◌||◌, ltb, [], ◌∷◌, ◌++◌, length, get_or, take, drop, Some, None, refl, sym, ap, subst, ◌∙◌, arith}
use Rattle.std.specs.List.{list_any, slice_get}
use Rattle.std.proofs.lemmas.Bool.{ne_eqb, lt-ltb, le-leb}
use Rattle.std.proofs.lemmas.List.{length-take, length-drop, take_more, take_all, drop-append-le}
use Rattle.std.proofs.lemmas.List.Folds.{list_any_none}
use Rattle.std.proofs.lemmas.Option.{get_or_from_slice_get, slice_get_within}
use Rattle.path_tree.specs.Paths.{Bytes, PathNames, IsName, IsPath}
use Rattle.path_tree.specs.Texts.{is_name, is_zero_or_slash, with_below}
use Rattle.path_tree.specs.declared.text.TheConstants.{MOST_NAMES}

-- ---- a name of a path passes the test

neither : (a b : Bool) → a ≡ false → b ≡ false → (a || b) ≡ false
neither true b e f = cc
neither false b e f = f

all_three : (a b c : Bool) → a ≡ true → b ≡ true → c ≡ false → (a && b && not c) ≡ true
all_three true true true e f g = cc
all_three true true false e f g = refl
all_three true false c e f g = cc
all_three false b c e f g = cc

both : (a b : Bool) → a ≡ true → b ≡ true → (a && b) ≡ true
both true b e f = f
both false b e f = cc

chosen : {A : Type 0} (b : Bool) (x y : A) → b ≡ true → cond b x y ≡ x
chosen true x y e = refl
chosen false x y e = cc

is_a_name : (name : Bytes) → IsName name → is_name name ≡ true
is_a_name name h =
    let none : list_any is_zero_or_slash name ≡ false = list_any_none is_zero_or_slash name
    (λ k d lt. neither (get_or name k d == 0) (get_or name k d == 47) (ne_eqb (get_or name k d) 0 (h.no_zero k d lt)) (ne_eqb (get_or name k d) 47 (h.no_slash k d lt))) in
    all_three _ _ (list_any is_zero_or_slash name) (le-leb 1 (length name) h.at_least) (le-leb (length name) 254 h.at_most) none

-- ---- one name more

pub nothing_yet : (path : PathNames) → drop 1 (take 1 path) ≡ []
nothing_yet [] = refl
nothing_yet (n ∷ ns) = refl

pub one_more : (path : PathNames) (i : ℕ) (name : Bytes) → 1 ≤ i → slice_get path i ≡ Some name → drop 1 (take i path) ++ name ∷ [] ≡ drop 1 (take (i + 1) path)
one_more path i name some e =
    let lt = slice_get_within path i name e in
    let size = length-take i path in
    let front : 1 ≤ length (take i path) = omega (arith, some, lt, size) in
    let longer : take (i + 1) path ≡ take i path ++ name ∷ [] = take_more path i name lt ∙ ap (λ (n : Bytes). take i path ++ n ∷ []) (get_or_from_slice_get path i name name e) in
    sym (ap (λ (ns : PathNames). drop 1 ns) longer ∙ drop-append-le 1 (take i path) (name ∷ []) front)

-- the path that far has room for the next name, and that is one
pub is_below : (path : PathNames) (i : ℕ) (name : Bytes) → IsPath path → 1 ≤ i → slice_get path i ≡ Some name
    → with_below (drop 1 (take i path)) name ≡ Some (drop 1 (take (i + 1) path))
is_below path i name h some e =
    let lt = slice_get_within path i name e in
    let named : is_name name ≡ true = is_a_name name (subst IsName (get_or_from_slice_get path i name name e) (h.names i name lt)) in
    let depth = h.depth in
    let taken = length-take i path in
    let left = length-drop 1 (take i path) in
    let room : length (drop 1 (take i path)) < MOST_NAMES = omega (arith, some, lt, depth, taken, left) in
    chosen (is_name name && ltb (length (drop 1 (take i path))) MOST_NAMES) (Some (drop 1 (take i path) ++ name ∷ [])) None (both _ _ named (lt-ltb (length (drop 1 (take i path))) MOST_NAMES room))
    ∙ ap (λ (ns : PathNames). Some ns) (one_more path i name some e)

pub all_behind : (path : PathNames) (i : ℕ) → length path ≤ i → drop 1 (take i path) ≡ drop 1 path
all_behind path i end = ap (λ (ns : PathNames). drop 1 ns) (take_all i path end)
