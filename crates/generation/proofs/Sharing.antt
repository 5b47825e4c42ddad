-- The objects of one tree beside those of another: they are found in one pass, since both stand in the order of paths, and modules whose objects are as before have the same bytes.
use Rattle.std.proofs.Common.{◌≡◌, ◌≢◌, ℕ, zero, suc, ◌<◌, Bool, true, false, List, [], ◌∷◌, ◌++◌, length, take, Some, None, refl, sym, ◌∙◌, ap, subst, arith, get_or, ◌⊎◌, inl, inr, ◌+◌, map, Option, cond, ◌&&◌}
use Rattle.generation.proofs.Words.{same_kind, All, option_map, is_eq, Ordering, Less, take-length, same_Some, All-head, All-tail, Bytes, path_cmp, same_name, Tree, IsTree, content_at, same_name-refl, Layout, module_in, key_bytes, object_bytes, module_bytes, layout_of, same_module, placed_at, is_same_spot, AreAsBefore, SameModules, AreTheirs, view_placed, view_spot, path_at, bytes_at, IsSpotIn, content_here, file_spelling, AreRising, Placed, CodePlaced, CodeSpot, Spot, all_unmap, map-append, map_more, cases_Bool, AreBefore, find, false_from_ne_true, All-map}
use Rattle.path_tree.proofs.CallerLemmas.{same_path-is, same_path-cmp}
use Rattle.generation.proofs.Keyed.{same_there}
use Rattle.generation.proofs.Carrying.{listed_bytes}

-- ---- one file

file_bytes : (c : ℕ) (all : List Placed) (t : Tree) (o : CodePlaced) → o.spot.whole ≡ true → object_bytes c all (view_placed t o) ≡ file_spelling (key_bytes o.key) (bytes_at t o.spot.entry)
file_bytes c all t o whole = rw whole refl

file_path : (t : Tree) (s : CodeSpot) → IsSpotIn t s → s.whole ≡ true → (view_spot t s).path ≡ path_at t s.entry
file_path t s valid whole = ap (λ n. take n (path_at t s.entry)) (valid.whole whole).1 ∙ take-length (path_at t s.entry)

pub same_file : (old t : Tree) (b o : CodePlaced) (flags : List Bool) → IsTree old → IsSpotIn old b.spot → IsSpotIn t o.spot → AreAsBefore old t flags
    → b.spot.whole ≡ true → o.spot.whole ≡ true → b.key ≡ o.key → get_or flags o.spot.entry true ≡ false
    → is_eq (path_cmp (view_spot old b.spot).path (view_spot t o.spot).path) ≡ true
    → (c : ℕ) (olds news : List Placed) → object_bytes c olds (view_placed old b) ≡ object_bytes c news (view_placed t o)
same_file old t b o flags tree bv ov known bw ow key still same c olds news =
    let p = (view_spot old b.spot).path in
    let q = (view_spot t o.spot).path in
    let paths = sym (file_path old b.spot bv bw) ∙ same_path-is p q (same_path-cmp p q ∙ same) ∙ file_path t o.spot ov ow in
    let before = content_here old b.spot.entry tree (bv.whole bw).0 (bv.whole bw).2 in
    let bytes = same_Some _ _ (sym before ∙ ap (content_at old) paths ∙ known o.spot.entry (ov.whole ow).0 (ov.whole ow).2 still) in
    file_bytes c olds old b bw ∙ (λ i. file_spelling (key_bytes (key i)) (bytes i)) ∙ sym (file_bytes c news t o ow)

-- ---- flags of modules

on : (flags : List Bool) (b : Bool) (m : ℕ) → get_or (flags ++ b ∷ []) m false ≡ true → (get_or flags m false ≡ true) ⊎ ((m ≡ length flags) × (b ≡ true))
on [] b zero e = inr (refl, e)
on [] b (suc m) e = cc
on (x ∷ xs) b zero e = inl e
on (x ∷ xs) b (suc m) e = elim (on xs b m e) [ inl h ↦ inl h | inr h ↦ inr (ap suc h.0, h.1) ]

pub more_same : (olds news : List Placed) (flags : List Bool) (b : Bool) (id : ℕ) → SameModules olds news flags → length flags ≡ id → (b ≡ true → (c : ℕ) → module_bytes c olds id ≡ module_bytes c news id)
    → SameModules olds news (flags ++ b ∷ [])
more_same olds news flags b id same at one = λ c m e. elim (on flags b m e) [
  | inl h ↦ same c m h
  | inr h ↦ subst (λ k. module_bytes c olds k ≡ module_bytes c news k) (sym (h.0 ∙ at)) (one h.1 c)
]

pub are_theirs : (c : ℕ) (olds news : List Placed) (layout : Layout) (flags : List Bool) → layout ≡ layout_of c olds → SameModules olds news flags → AreTheirs c news layout flags
are_theirs c olds news layout flags is same = λ m bytes on has.
    listed_bytes c olds m bytes (ap (λ l. module_in l m) (sym is) ∙ has) ∙ same c m on

-- ---- marks of listed modules

-- what the layout before has under the id is the same module
pub marked_here : (before : Layout) (id : ℕ) (bytes other : Bytes) → module_in before id ≡ Some other → bytes ≡ other → true ≡ same_module (module_in before id) (Some bytes)
marked_here before id bytes other has is = sym (ap (λ o. same_module o (Some bytes)) has ∙ (ap (same_name other) is ∙ same_name-refl other))

-- ---- objects of one tree looked for among those of another

lower_differs : (a b : Spot) → path_cmp a.path b.path ≡ Less → is_same_spot a b ≡ false
lower_differs a b e = rw (same_path-cmp a.path b.path, e) refl

none_found : {A : Type 0} (p : A → Bool) (xs : List A) → All (λ x. p x ≡ false) xs → find p xs ≡ None
none_found p [] all = refl
none_found p (x ∷ xs) all = rw (All-head (λ y. p y ≡ false) x xs all) (none_found p xs (All-tail (λ y. p y ≡ false) x xs all))

pub none_before : (t : Tree) (os : List CodePlaced) (s : Spot) → AreBefore t s.path os → placed_at (map (view_placed t) os) s ≡ None
none_before t os s before =
    none_found (λ o. is_same_spot o.spot s) (map (view_placed t) os)
    (All-map (λ o. is_same_spot o.spot s ≡ false) (view_placed t) os (λ k d lt. lower_differs (view_spot t (get_or os k d).spot) s (before k d lt)))

-- the first object that isn't before the path is the only one that can stand there
pub found_at : (t : Tree) (os : List CodePlaced) (n : ℕ) (d : CodePlaced) (s : Spot) → AreRising (map (λ o. o.spot) (map (view_placed t) os)) → n < length os
    → AreBefore t s.path (take n os) → path_cmp (view_placed t (get_or os n d)).spot.path s.path ≢ Less
    → placed_at (map (view_placed t) os) s ≡ cond (is_same_spot (view_placed t (get_or os n d)).spot s) (Some (view_placed t (get_or os n d))) None
found_at t [] n d s rising lt before stop = absurd (omega arith)
found_at t (o ∷ os) (suc n) d s rising lt before stop =
    rw (lower_differs (view_placed t o).spot s (before 0 o (omega arith))) (found_at t os n d s rising.1 (omega arith) (λ i e l. before (suc i) e (omega (arith, l))) stop)
found_at t (o ∷ os) zero d s rising lt before stop =
    let higher = all_unmap (λ r. path_cmp (view_placed t o).spot.path r.path ≡ Less) (λ q. q.spot) (map (view_placed t) os) rising.0 in
    ap (λ r. cond (is_same_spot (view_placed t o).spot s) (Some (view_placed t o)) r) (none_found (λ q. is_same_spot q.spot s) (map (view_placed t) os) (λ k e l.
    let q = (get_or (map (view_placed t) os) k e).spot in
    false_from_ne_true (is_same_spot q s) (λ same. stop (subst (λ p. path_cmp (view_placed t o).spot.path p ≡ Less) (same_there q s same) (higher k e l)))))

-- it is what is looked for where it stands at the path and is of the kind
pub one_object : (t : Tree) (o : CodePlaced) (s : Spot) (found : Option CodePlaced) (order : Ordering) → path_cmp (view_placed t o).spot.path s.path ≡ order
    → found ≡ cond (is_eq order && same_kind (view_placed t o).spot.content s.content) (Some o) None
    → option_map (view_placed t) found ≡ cond (is_same_spot (view_placed t o).spot s) (Some (view_placed t o)) None
one_object t o s found order e is =
    rw (is, same_path-cmp (view_placed t o).spot.path s.path, e) (elim (cases_Bool (is_eq order && same_kind (view_placed t o).spot.content s.content)) [ inl h ↦ rw h refl | inr h ↦ rw h refl ])

-- ---- all objects

pub rising_at : (view : CodeSpot → Spot) (xs : List CodeSpot) → AreRising (map view xs) → (i j : ℕ) (d : CodeSpot) → i < j → j < length xs → path_cmp (view (get_or xs i d)).path (view (get_or xs j d)).path ≡ Less
rising_at view [] rising i j d lt inside = absurd (omega arith)
rising_at view (x ∷ xs) rising i zero d lt inside = absurd (omega arith)
rising_at view (x ∷ xs) rising zero (suc j) d lt inside = all_unmap (λ r. path_cmp (view x).path r.path ≡ Less) view xs rising.0 j d (omega arith)
rising_at view (x ∷ xs) rising (suc i) (suc j) d lt inside = rising_at view xs rising.1 i j d (omega arith) (omega arith)

pub one_seen : {A : Type 0} (f : Spot → A) (view : CodeSpot → Spot) (xs : List CodeSpot) (i : ℕ) (d : CodeSpot) (found : List A) (x : A) → i < length xs → found ≡ map f (map view (take i xs)) → x ≡ f (view (get_or xs i d))
    → found ++ x ∷ [] ≡ map f (map view (take (i + 1) xs))
one_seen f view xs i d found x lt so_far is = (λ j. so_far j ++ is j ∷ []) ∙ sym (ap (map f) (map_more view xs i d lt) ∙ map-append f (map view (take i xs)) (view (get_or xs i d) ∷ []))
