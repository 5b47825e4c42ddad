-- What was passed over, at its place between the objects.
use Rattle.std.proofs.Common.{◌≡◌, ℕ, zero, suc, ◌+◌, ◌-◌, ◌<◌, ◌≤◌, Bool, true, false, cond, List, [], ◌∷◌, ◌++◌, length, map, take, drop, get_or, Result, Ok, Err, is_ok, refl, ◌∙◌, sym, ap, arith, append_assoc, append-nil, add-one, length-drop}
use Rattle.std.specs.List.{flat_map}
use Rattle.std.proofs.lemmas.Grind.{flat_map-append}
use Rattle.std.proofs.lemmas.List.{drop-drop, drop-map, get_or-map, length-map, take-map, take_all, take_more}
use Rattle.path_tree.specs.Paths.{Bytes, PathNames}
use Rattle.path_tree.specs.Texts.{text_of}
use Rattle.path_tree.specs.Trees.{Tree}
use Rattle.cycle_planner.specs.Cycle.{cycle_of}
use Rattle.generation.specs.Layouts.{GenerationState, lines_of}
use Rattle.generation.specs.Objects.{object_of}
use Rattle.generation.specs.declared.listing.Object.{Object}
use Rattle.folder_store.specs.declared.sights.Standing.{Standing}
use Rattle.folder_store.specs.Surveys.{Stands, names_at, view_standing}
use Rattle.std.specs.Prelude.{codes, OnOk, if◌then◌else◌}
use Rattle.shell_words.specs.Texts.{line}
use Rattle.publication_plan.specs.Telling.{cycle_line, cycle_packets, entry_lines, four_fields, hidden_text, left_first, left_line, left_rest, module_line, object_line, plan_text, stands_before}

-- ---- those in front that stand before an object

pub rest_is : (p : PathNames) (ss : List Stands) → left_rest p ss ≡ drop (length (left_first p ss)) ss
rest_is p [] = refl
rest_is p (s ∷ ss) = go (stands_before s p) (rest_is p ss) where
  go : (b : Bool) → left_rest p ss ≡ drop (length (left_first p ss)) ss → cond b (left_rest p ss) (s ∷ ss) ≡ drop (length (cond b (s ∷ left_first p ss) [])) (s ∷ ss)
  go true e = e
  go false e = refl

first_is : (p : PathNames) (ss : List Stands) → left_first p ss ≡ take (length (left_first p ss)) ss
first_is p [] = refl
first_is p (s ∷ ss) = go (stands_before s p) (first_is p ss) where
  go : (b : Bool) → left_first p ss ≡ take (length (left_first p ss)) ss → cond b (s ∷ left_first p ss) [] ≡ take (length (cond b (s ∷ left_first p ss) [])) (s ∷ ss)
  go true e = ap (λ xs. s ∷ xs) e
  go false e = refl

drop_next : {A : Type 0} (xs : List A) (i : ℕ) (d : A) → i < length xs → drop i xs ≡ get_or xs i d ∷ drop (suc i) xs
drop_next [] i d lt = absurd (omega (arith, lt))
drop_next (x ∷ xs) zero d lt = refl
drop_next (x ∷ xs) (suc i) d lt = drop_next xs i d (omega (arith, lt))

drop_or : {A : Type 0} (xs : List A) (i : ℕ) (d : A) → i < length xs → drop i xs ≡ get_or xs i d ∷ drop (i + 1) xs
drop_or xs i d lt = drop_next xs i d lt ∙ ap (λ k. get_or xs i d ∷ drop k xs) (sym (add-one i))

abbrev pub views : List Standing → List Stands
views left = map view_standing left

views_from : (left : List Standing) (i : ℕ) (x : Standing) → i < length left → x ≡ get_or left i x → views (drop i left) ≡ view_standing x ∷ views (drop (i + 1) left)
views_from left i x within is = ap views (drop_or left i x within) ∙ ap (λ y. view_standing y ∷ views (drop (i + 1) left)) (sym is)

-- so many stand before it, and this one too
pub first_more : (p : PathNames) (left : List Standing) (i : ℕ) (x : Standing) → i < length left → x ≡ get_or left i x → stands_before (view_standing x) p ≡ true
    → i + length (left_first p (views (drop i left))) ≡ (i + 1) + length (left_first p (views (drop (i + 1) left)))
first_more p left i x within is before =
    let n = ap (λ ss. length (left_first p ss)) (views_from left i x within is) in
    let m : length (left_first p (view_standing x ∷ views (drop (i + 1) left))) ≡ suc (length (left_first p (views (drop (i + 1) left)))) = rw before refl in
    omega (arith, n, m)

-- and this one doesn't
pub first_ends : (p : PathNames) (left : List Standing) (i : ℕ) (x : Standing) → i < length left → x ≡ get_or left i x → stands_before (view_standing x) p ≡ false
    → length (left_first p (views (drop i left))) ≡ 0
first_ends p left i x within is behind =
    let n = ap (λ ss. length (left_first p ss)) (views_from left i x within is) in
    n ∙ rw behind refl

pub first_none : (p : PathNames) (left : List Standing) (i : ℕ) → length left ≤ i → length (left_first p (views (drop i left))) ≡ 0
first_none p [] i all = ap (λ ss. length (left_first p (views ss))) (none i) where
  none : (i : ℕ) → drop {A = Standing} i [] ≡ []
  none zero = refl
  none (suc i) = refl
first_none p (s ∷ left) zero all = absurd (omega (arith, all))
first_none p (s ∷ left) (suc i) all = first_none p left i (omega (arith, all))

-- the lines of so many are those of the ones before an object
pub first_lines : (p : PathNames) (left : List Standing) (n : ℕ) → n ≡ length (left_first p (views left)) → flat_map left_line (views (take n left)) ≡ flat_map left_line (left_first p (views left))
first_lines p left n is =
    ap (flat_map left_line) (sym (take-map view_standing n left) ∙ ap (λ k. take k (views left)) is ∙ sym (first_is p (views left)))

-- ---- one after another

-- the lines that are still to come
abbrev pub IsTelling : Tree → List Object → List Standing → (text begun : Bytes) (i next : ℕ) → Type 0
IsTelling t os left text begun i next = text ++ entry_lines t (drop i os) (views (drop next left)) ≡ begun ++ entry_lines t os (views left)

pub telling_more : (t : Tree) (os : List Object) (left : List Standing) (text first second begun : Bytes) (i next n : ℕ) (o : Object) → i < length os → o ≡ get_or os i o
    → n ≡ length (left_first o.path (views (drop next left))) → first ≡ text ++ flat_map left_line (left_first o.path (views (drop next left))) → second ≡ first ++ object_line t o
    → IsTelling t os left text begun i next → IsTelling t os left second begun (i + 1) (next + n)
telling_more t os left text first second begun i next n o within is count f s told =
    let ss : List Stands = views (drop next left) in
    let front : Bytes = flat_map left_line (left_first o.path ss) in
    let os_is : drop i os ≡ o ∷ drop (i + 1) os = drop_or os i o within ∙ ap (λ (x : Object). x ∷ drop (i + 1) os) (sym is) in
    let rest : views (drop (next + n) left) ≡ left_rest o.path ss =
    ap views (sym (drop-drop n next left)) ∙ sym (drop-map view_standing n (drop next left)) ∙ ap (λ k. drop k ss) count ∙ sym (rest_is o.path ss) in
    let after : Bytes = entry_lines t (drop (i + 1) os) (left_rest o.path ss) in
    let here : entry_lines t (drop i os) ss ≡ front ++ (object_line t o ++ after) = ap (λ (xs : List Object). entry_lines t xs ss) os_is in
    ap (λ (xs : List Stands). second ++ entry_lines t (drop (i + 1) os) xs) rest
    ∙ ap (λ (bs : Bytes). bs ++ after) (s ∙ ap (λ (bs : Bytes). bs ++ object_line t o) f)
    ∙ append_assoc (text ++ front) (object_line t o) after ∙ append_assoc text front (object_line t o ++ after)
    ∙ ap (λ (bs : Bytes). text ++ bs) (sym here) ∙ told

-- the rest of a slice from a place on
rest_whole : {A : Type 0} (xs : List A) (n : ℕ) → take (length xs - n) (drop n xs) ≡ drop n xs
rest_whole xs n = let size = length-drop n xs in take_all (length xs - n) (drop n xs) (omega (arith, size))

pub rest_within : {A : Type 0} (xs : List A) (next n : ℕ) → next ≤ length xs → n ≤ length (take (length xs - next) (drop next xs)) → next + n ≤ length xs
rest_within xs next n le few = let whole = ap length (rest_whole xs next) in let size = length-drop next xs in omega (arith, le, few, whole, size)

pub telling_next : (t : Tree) (os : List Object) (left : List Standing) (text first second begun : Bytes) (i next n : ℕ) (o : Object) → i < length os → o ≡ get_or os i o
    → n ≡ length (left_first o.path (views (take (length left - next) (drop next left)))) → first ≡ text ++ flat_map left_line (left_first o.path (views (take (length left - next) (drop next left))))
    → second ≡ first ++ object_line t o → IsTelling t os left text begun i next → IsTelling t os left second begun (i + 1) (next + n)
telling_next t os left text first second begun i next n o within is count f s told =
    telling_more t os left text first second begun i next n o within is
    (count ∙ ap (λ (r : List Standing). length (left_first o.path (views r))) (rest_whole left next))
    (f ∙ ap (λ (r : List Standing). text ++ flat_map left_line (left_first o.path (views r))) (rest_whole left next)) s told

pub telling_ends : (t : Tree) (os : List Object) (left : List Standing) (text begun last : Bytes) (i next : ℕ) → length os ≤ i → last ≡ text ++ flat_map left_line (views (drop next left))
    → IsTelling t os left text begun i next → last ≡ begun ++ entry_lines t os (views left)
telling_ends t os left text begun last i next all is told =
    let none : drop i os ≡ [] = empty os i all in
    is ∙ sym (ap (λ (xs : List Object). text ++ entry_lines t xs (views (drop next left))) none) ∙ told
  where
    empty : (xs : List Object) (i : ℕ) → length xs ≤ i → drop i xs ≡ []
    empty [] zero all = refl
    empty [] (suc i) all = refl
    empty (x ∷ xs) zero all = absurd (omega (arith, all))
    empty (x ∷ xs) (suc i) all = empty xs i (omega (arith, all))

-- a line for each element
pub lines_over : {X Y : Type 0} (f : X → List Y) (xs : List X) (i : ℕ) (d : X) (text line next begun : List Y) → i < length xs → text ≡ begun ++ flat_map f (take i xs) → line ≡ f (get_or xs i d) → next ≡ text ++ line
    → next ≡ begun ++ flat_map f (take (i + 1) xs)
lines_over {X} f xs i d text line next begun within t l n =
    let x : X = get_or xs i d in
    let more : flat_map f (take (i + 1) xs) ≡ flat_map f (take i xs) ++ f x =
    ap (flat_map f) (take_more xs i d within) ∙ flat_map-append f (take i xs) (x ∷ []) ∙ ap (λ ys. flat_map f (take i xs) ++ ys) (append-nil (f x)) in
    n ∙ ap (λ bs. bs ++ line) t ∙ ap (λ l. (begun ++ flat_map f (take i xs)) ++ l) l ∙ append_assoc begun (flat_map f (take i xs)) (f x) ∙ ap (λ bs. begun ++ bs) (sym more)

pub lines_more : {X Y : Type 0} (f : X → List Y) (xs : List X) (i : ℕ) (x : X) (text line next begun : List Y) → i < length xs → x ≡ get_or xs i x → text ≡ begun ++ flat_map f (take i xs) → line ≡ f x → next ≡ text ++ line
    → next ≡ begun ++ flat_map f (take (i + 1) xs)
lines_more f xs i x text line next begun within is t l n =
    let more : flat_map f (take (i + 1) xs) ≡ flat_map f (take i xs) ++ f x =
    ap (flat_map f) (take_more xs i x within) ∙ ap (λ y. flat_map f (take i xs ++ y ∷ [])) (sym is) ∙ flat_map-append f (take i xs) (x ∷ []) ∙ ap (λ ys. flat_map f (take i xs) ++ ys) (append-nil (f x)) in
    n ∙ ap (λ bs. bs ++ line) t ∙ ap (λ l. (begun ++ flat_map f (take i xs)) ++ l) l ∙ append_assoc begun (flat_map f (take i xs)) (f x) ∙ ap (λ bs. begun ++ bs) (sym more)

-- the same of what the elements are seen as
pub mapped_more : {W X Y : Type 0} (view : W → X) (f : X → List Y) (xs : List W) (i : ℕ) (x : W) (text line next begun : List Y) → i < length xs → x ≡ get_or xs i x → text ≡ begun ++ flat_map f (take i (map view xs))
    → line ≡ f (view x) → next ≡ text ++ line → next ≡ begun ++ flat_map f (take (i + 1) (map view xs))
mapped_more view f xs i x text line next begun within is t l n =
    let size = length-map xs view in
    lines_more f (map view xs) i (view x) text line next begun (omega (arith, within, size)) (ap view is ∙ sym (get_or-map view xs i x (view x) within)) t l n

-- ---- the whole text

pub plan_made : (weights : List ℕ) (bitrate : ℕ) (g : GenerationState) (left : List Stands) (empty first second third : Bytes)
    → empty ≡ [] → first ≡ empty ++ entry_lines g.tree (map object_of g.objects) left → second ≡ first ++ flat_map (module_line weights g) (lines_of g)
    → third ≡ second ++ cycle_line (length (cycle_of weights (lines_of g))) (length (cycle_packets weights g)) bitrate → third ≡ plan_text weights bitrate g left
plan_made weights bitrate g left empty first second third none f s d =
    let entries : Bytes = entry_lines g.tree (map object_of g.objects) left in
    let modules : Bytes = flat_map (module_line weights g) (lines_of g) in
    let last : Bytes = cycle_line (length (cycle_of weights (lines_of g))) (length (cycle_packets weights g)) bitrate in
    let front : first ≡ entries = f ∙ ap (λ (bs : Bytes). bs ++ entries) none in
    d ∙ ap (λ (bs : Bytes). bs ++ last) (s ∙ ap (λ (bs : Bytes). bs ++ modules) front) ∙ append_assoc entries modules last

-- a line that was put, by what it tells
pub put_made : {T E : Type 0} (r : Result T E) (old line told new : Bytes) → line ≡ told → new ≡ (if is_ok r then old ++ line else old) → OnOk r (new ≡ old ++ told)
put_made (Ok x) old line told new e n = n ∙ ap (λ (bs : Bytes). old ++ bs) e
put_made (Err x) old line told new e n = tt

-- equal fields make equal lines
same_fields : (a b c d p q r s : Bytes) → a ≡ p → b ≡ q → c ≡ r → d ≡ s → four_fields a b c d ≡ four_fields p q r s
same_fields a b c d p q r s e f g h =
    ap (λ (x : Bytes). four_fields x b c d) e ∙ ap (λ (x : Bytes). four_fields p x c d) f ∙ ap (λ (x : Bytes). four_fields p q x d) g ∙ ap (λ (x : Bytes). four_fields p q r x) h

-- equal fields, two by two, make equal lines
pub same_pairs : (front back a b c d p q r s : Bytes) → front ≡ a ++ 32 ∷ b → back ≡ c ++ 32 ∷ d → a ≡ p → b ≡ q → c ≡ r → d ≡ s → line (front ++ 32 ∷ back) ≡ four_fields p q r s
same_pairs front back a b c d p q r s f g =
    λ e h i j. ap (λ (x : Bytes). line (x ++ 32 ∷ back)) f ∙ ap (λ (x : Bytes). line (a ++ 32 ∷ b ++ 32 ∷ x)) g ∙ ap line (sym (append_assoc (a ++ 32 ∷ b) (32 ∷ c) (32 ∷ d))) ∙ same_fields a b c d p q r s e h i j

pub same_left : (path hidden : Bytes) (s : Stands) → path ≡ text_of (names_at s) → hidden ≡ hidden_text (names_at s) → line (codes "left " ++ path ++ hidden) ≡ left_line s
same_left path hidden s e f =
    ap (λ (x : Bytes). line (codes "left " ++ x ++ hidden)) e ∙ ap (λ (x : Bytes). line (codes "left " ++ text_of (names_at s) ++ x)) f
