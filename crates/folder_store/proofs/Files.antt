-- The edits of a walk are the files and the bare folders below the folder.
use Rattle.std.proofs.Common.{◌≡◌, ◌≢◌, ◌⊎◌, ℕ, zero, suc, ◌+◌, ◌<◌, ◌≤◌, Bool, true, false, not, ◌==◌, ◌||◌, ◌&&◌, nat_lt, List, [], ◌∷◌, ◌++◌, length, map, take, get_or, Option, Some, None, Ok, Err, cond, refl, sym, ap, ◌∙◌, subst, inl, inr, arith, append_assoc, append-nil}
use Rattle.std.specs.declared.cmp.Ordering.TheVariants.{Less}
use Rattle.std.specs.List.{AllPairs, AllByRecursion, Contains, IsDistinct, cons_option, find, flat_map, list_any, sum_by}
use Rattle.std.specs.Option.{option_map}
use Rattle.std.proofs.lemmas.Bool.{ltb-true, le-leb}
use Rattle.std.proofs.lemmas.Bool.Decides.{nat_tests}
use Rattle.std.proofs.lemmas.Cmp.{tied_itself}
use Rattle.std.proofs.lemmas.Grind.{flat_map-append}
use Rattle.std.proofs.lemmas.List.Elements.{All-from_recursion, recursion_from_All}
use Rattle.std.proofs.lemmas.List.Folds.{list_any_none}
use Rattle.std.proofs.lemmas.List.Sums.{sum_by-cons}
use Rattle.path_tree.specs.Paths.{Bytes, PathNames, IsName, IsPath, name_cmp, path_cmp, same_name}
use Rattle.path_tree.specs.Texts.{is_name, is_zero_or_slash}
use Rattle.path_tree.specs.declared.tree.Edit.{Edit}
use Rattle.path_tree.specs.declared.tree.Edit.TheVariants.{Put, MakeFolder}
use Rattle.path_tree.proofs.CallerLemmas.{name_total, same_name-is, same_name-refl}
use Rattle.folder_store.specs.Folders.{Entry, AFile, AFolder, AnOther, FolderTree, IsFolderTree, after_prefix, content_of, entries_below, entry_at, is_folder_at, is_name_text, named_by}
use Rattle.folder_store.specs.Walk.{Met, Walked, IsBadName, MakesFolder, PutsFile, PutsFiles, counts, edits_of, is_bare_folder, met_at, met_below, met_or_made, met_past, onto, path_in, size, sort_entries, text_below, walk_edits}
use Rattle.folder_store.proofs.Naming.{In, AreDistinct, all_in, contains_from, distinct_from_pairs, each_in, in_map, names, named_at, named_is, stands, true_or_false}
use Rattle.folder_store.proofs.Sorting.{Climbs, sorted_all, sorted_climbs, sorted_only}

-- ---- what was walked of what was met

-- without a cut, all of it, and no fault
abbrev pub total : List Edit → ℕ
total [] = 0
total (e ∷ es) = size e + total es

pub total_is : (es : List Edit) → total es ≡ sum_by size es
total_is [] = refl
total_is (e ∷ es) = ap (λ n. size e + n) (total_is es) ∙ sym (sum_by-cons size e es)

onto_ok : (e : Edit) (w : Walked) (es : List Edit) → onto e w ≡ Ok es → (rest : List Edit) × ((w ≡ Ok rest) × (es ≡ e ∷ rest))
onto_ok e (Ok rest) es h = (rest, (refl, cc))
onto_ok e (Err fault) es h = cc

-- each edit was met, in this order
pub walked_front : (n : ℕ) (met : List Met) (es : List Edit) → walk_edits n met ≡ Ok es → (more : List Met) × (met ≡ map Ok es ++ more)
walked_front n [] es h = let none : es ≡ [] = cc in ([], rw none refl)
walked_front n (Err fault ∷ met) es h = go (true_or_false (nat_lt 536870912 n)) h where
  go : (nat_lt 536870912 n ≡ true) ⊎ (nat_lt 536870912 n ≡ false) → cond (nat_lt 536870912 n) (Ok []) (Err fault) ≡ Ok es → (more : List Met) × ((Err fault ∷ met) ≡ map Ok es ++ more)
  go (inl full) k = let j : Ok [] ≡ Ok es = rw full at k in let none : es ≡ [] = cc in (Err fault ∷ met, rw none refl)
  go (inr room) k = let j : Err fault ≡ Ok es = rw room at k in cc
walked_front n (Ok e ∷ met) es h = go (true_or_false (nat_lt 536870912 n)) h (λ fs k. walked_front (n + size e) met fs k) where
  go : (nat_lt 536870912 n ≡ true) ⊎ (nat_lt 536870912 n ≡ false) → cond (nat_lt 536870912 n) (Ok []) (onto e (walk_edits (n + size e) met)) ≡ Ok es
      → ((fs : List Edit) → walk_edits (n + size e) met ≡ Ok fs → (more : List Met) × (met ≡ map Ok fs ++ more)) → (more : List Met) × ((Ok e ∷ met) ≡ map Ok es ++ more)
  go (inl full) k rest = let j : Ok [] ≡ Ok es = rw full at k in let none : es ≡ [] = cc in (Ok e ∷ met, rw none refl)
  go (inr room) k rest =
      let j : onto e (walk_edits (n + size e) met) ≡ Ok es = rw room at k in
      let r = onto_ok e (walk_edits (n + size e) met) es j in
      let q = rest r.0 r.1.0 in
      (q.0, ap (λ (ms : List Met). Ok e ∷ ms) q.1 ∙ ap (λ (fs : List Edit). map Ok fs ++ q.0) (sym r.1.1))

over : (n k : ℕ) → nat_lt 536870912 n ≡ true → n + k ≤ 536870912 → ⊥
over n k full le = let lt : 536870912 < n = ltb-true 536870912 n full in omega (arith, lt, le)

pub walked_whole : (n : ℕ) (met : List Met) (es : List Edit) → walk_edits n met ≡ Ok es → n + total es ≤ 536870912 → met ≡ map Ok es
walked_whole n [] es h few = let none : es ≡ [] = cc in rw none refl
walked_whole n (Err fault ∷ met) es h few = go (true_or_false (nat_lt 536870912 n)) h where
  go : (nat_lt 536870912 n ≡ true) ⊎ (nat_lt 536870912 n ≡ false) → cond (nat_lt 536870912 n) (Ok []) (Err fault) ≡ Ok es → (Err fault ∷ met) ≡ map Ok es
  go (inl full) k = absurd (over n (total es) full few)
  go (inr room) k = let j : Err fault ≡ Ok es = rw room at k in cc
walked_whole n (Ok e ∷ met) es h few = go (true_or_false (nat_lt 536870912 n)) h (λ fs k le. walked_whole (n + size e) met fs k le) where
  go : (nat_lt 536870912 n ≡ true) ⊎ (nat_lt 536870912 n ≡ false) → cond (nat_lt 536870912 n) (Ok []) (onto e (walk_edits (n + size e) met)) ≡ Ok es
      → ((fs : List Edit) → walk_edits (n + size e) met ≡ Ok fs → (n + size e) + total fs ≤ 536870912 → met ≡ map Ok fs) → (Ok e ∷ met) ≡ map Ok es
  go (inl full) k rest = absurd (over n (total es) full few)
  go (inr room) k rest =
      let j : onto e (walk_edits (n + size e) met) ≡ Ok es = rw room at k in
      let r = onto_ok e (walk_edits (n + size e) met) es j in
      let sum : n + (size e + total r.0) ≤ 536870912 = subst (λ (fs : List Edit). n + total fs ≤ 536870912) r.1.1 few in
      ap (λ (ms : List Met). Ok e ∷ ms) (rest r.0 r.1.0 (omega (arith, sum))) ∙ ap (map Ok) (sym r.1.1)

-- ---- lists of lists

pub in_either : {X : Type 0} (xs ys : List X) (x : X) → In x (xs ++ ys) → In x xs ⊎ In x ys
in_either [] ys x h = inr h
in_either (y ∷ xs) ys x (inl is) = inl (inl is)
in_either {X} (y ∷ xs) ys x (inr h) = go (in_either xs ys x h) where
  go : In x xs ⊎ In x ys → In x (y ∷ xs) ⊎ In x ys
  go (inl i) = inl (inr i)
  go (inr i) = inr i

pub in_front : {X : Type 0} (xs ys : List X) (x : X) → In x xs → In x (xs ++ ys)
in_front [] ys x h = absurd h
in_front (y ∷ xs) ys x (inl is) = inl is
in_front (y ∷ xs) ys x (inr h) = inr (in_front xs ys x h)

in_back : {X : Type 0} (xs ys : List X) (x : X) → In x ys → In x (xs ++ ys)
in_back [] ys x h = h
in_back (y ∷ xs) ys x h = inr (in_back xs ys x h)

into_flat_map : {X Y : Type 0} (f : X → List Y) (xs : List X) (x : X) (y : Y) → In x xs → In y (f x) → In y (flat_map f xs)
into_flat_map f [] x y h i = absurd h
into_flat_map {X} {Y} f (z ∷ xs) x y (inl is) i = in_front (f z) (flat_map f xs) y (subst (λ (w : X). In y (f w)) (sym is) i)
into_flat_map f (z ∷ xs) x y (inr h) i = in_back (f z) (flat_map f xs) y (into_flat_map f xs x y h i)

from_flat_map : {X Y : Type 0} (f : X → List Y) (xs : List X) (y : Y) → In y (flat_map f xs) → (x : X) × (In x xs × In y (f x))
from_flat_map f [] y h = absurd h
from_flat_map {X} {Y} f (x ∷ xs) y h = go (in_either (f x) (flat_map f xs) y h) (λ i. from_flat_map f xs y i) where
  go : In y (f x) ⊎ In y (flat_map f xs) → (In y (flat_map f xs) → (z : X) × (In z xs × In y (f z))) → (z : X) × (In z (x ∷ xs) × In y (f z))
  go (inl i) rest = (x, (inl refl, i))
  go (inr i) rest = let r = rest i in (r.0, (inr r.1.0, r.1.1))

-- ---- the order of edits

-- each edit's path stands before those of the later ones
abbrev pub Ascends : List Edit → Type 0
Ascends [] = Unit {0}
Ascends (e ∷ es) = AllByRecursion (λ f. path_cmp (path_in e) (path_in f) ≡ Less) es × Ascends es

-- the edits among what was met
abbrev edit_of : Met → List Edit
edit_of (Ok e) = e ∷ []
edit_of (Err fault) = []

abbrev edits_in : List Met → List Edit
edits_in met = flat_map edit_of met

edits_both : (met more : List Met) → edits_in (met ++ more) ≡ edits_in met ++ edits_in more
edits_both met more = flat_map-append edit_of met more

edits_all : (es : List Edit) → edits_in (map Ok es) ≡ es
edits_all [] = refl
edits_all (e ∷ es) = ap (λ (fs : List Edit). e ∷ fs) (edits_all es)

edit_met : (met : List Met) (e : Edit) → In e (edits_in met) → In (Ok e) met
edit_met met e h = go (from_flat_map edit_of met e h) where
  by : (m : Met) → In m met → In e (edit_of m) → In (Ok e) met
  by (Ok f) i (inl is) = subst (λ (g : Edit). In (Ok g) met) is i
  by (Ok f) i (inr none) = absurd none
  by (Err fault) i none = absurd none

  go : (m : Met) × (In m met × In e (edit_of m)) → In (Ok e) met
  go (m, (i, j)) = by m i j

ascends_front : (es fs : List Edit) → Ascends (es ++ fs) → Ascends es
ascends_front [] fs h = tt
ascends_front (e ∷ es) fs h = (before es fs h.0, ascends_front es fs h.1) where
  before : (es fs : List Edit) → AllByRecursion (λ f. path_cmp (path_in e) (path_in f) ≡ Less) (es ++ fs) → AllByRecursion (λ f. path_cmp (path_in e) (path_in f) ≡ Less) es
  before [] fs h = tt
  before (f ∷ es) fs h = (h.0, before es fs h.1)

ascends_both : (es fs : List Edit) → Ascends es → Ascends fs → ((e f : Edit) → In e es → In f fs → path_cmp (path_in e) (path_in f) ≡ Less) → Ascends (es ++ fs)
ascends_both [] fs h k less = k
ascends_both (e ∷ es) fs h k less = (both es fs h.0 (λ f i. less e f (inl refl) i), ascends_both es fs h.1 k (λ g f i j. less g f (inr i) j)) where
  both : (es fs : List Edit) → AllByRecursion (λ f. path_cmp (path_in e) (path_in f) ≡ Less) es → ((f : Edit) → In f fs → path_cmp (path_in e) (path_in f) ≡ Less) → AllByRecursion (λ f. path_cmp (path_in e) (path_in f) ≡ Less) (es ++ fs)
  both [] fs h less = all_in (λ f. path_cmp (path_in e) (path_in f) ≡ Less) fs less
  both (f ∷ es) fs h less = (h.0, both es fs h.1 less)

pairs : (es : List Edit) → Ascends es → AllPairs (λ e f. path_cmp (path_in e) (path_in f) ≡ Less) es
pairs [] h i j d up within = absurd (omega arith)
pairs (e ∷ es) h i zero d up within = absurd (omega arith)
pairs (e ∷ es) h zero (suc j) d up within = All-from_recursion (λ f. path_cmp (path_in e) (path_in f) ≡ Less) es h.0 j d (omega arith)
pairs (e ∷ es) h (suc i) (suc j) d up within = pairs es h.1 i j d (omega arith) (omega arith)

pub ascends_from : (es : List Edit) → AllPairs (λ e f. path_cmp (path_in e) (path_in f) ≡ Less) es → Ascends es
ascends_from [] h = tt
ascends_from (e ∷ es) h =
    (recursion_from_All (λ f. path_cmp (path_in e) (path_in f) ≡ Less) es (λ k d within. h 0 (suc k) d (omega arith) (omega arith)), ascends_from es (λ i j d up within. h (suc i) (suc j) d (omega arith) (omega arith)))

-- paths that begin alike compare by what follows
front_alike : (p q r : PathNames) → path_cmp (p ++ q) (p ++ r) ≡ path_cmp q r
front_alike [] q r = refl
front_alike (n ∷ p) q r = rw (tied_itself name_total n) (front_alike p q r)

-- the edit's path begins with this one
abbrev Under : PathNames → Edit → Type 0
Under path e = (rest : PathNames) × (path_in e ≡ path ++ rest)

names_less : (path : PathNames) (m n : Bytes) (e f : Edit) → name_cmp m n ≡ Less → Under (path ++ m ∷ []) e → Under (path ++ n ∷ []) f → path_cmp (path_in e) (path_in f) ≡ Less
names_less path m n e f less (q, is_e) (r, is_f) =
    let first : path_in e ≡ path ++ m ∷ q = is_e ∙ append_assoc path (m ∷ []) q in
    let second : path_in f ≡ path ++ n ∷ r = is_f ∙ append_assoc path (n ∷ []) r in
    rw (first, second, front_alike path (m ∷ q) (n ∷ r), less) refl

in_order_all : (path : PathNames) (f : Bytes × Entry → List Met) (xs : List (Bytes × Entry)) → Climbs xs → ((x : Bytes × Entry) (e : Edit) → In (Ok e) (f x) → Under (path ++ x.0 ∷ []) e) → ((x : Bytes × Entry) → Ascends (edits_in (f x))) → Ascends (edits_in (flat_map f xs))
in_order_all path f [] up under each = tt
in_order_all path f (x ∷ xs) up under each =
    subst Ascends (sym (edits_both (f x) (flat_map f xs)))
    (ascends_both (edits_in (f x)) (edits_in (flat_map f xs)) (each x) (in_order_all path f xs up.1 under each)
    (λ e g i j. later e g (edit_met (f x) e i) (from_flat_map f xs (Ok g) (edit_met (flat_map f xs) g j))))
  where
    later : (e g : Edit) → In (Ok e) (f x) → (y : Bytes × Entry) × (In y xs × In (Ok g) (f y)) → path_cmp (path_in e) (path_in g) ≡ Less
    later e g i (y, (j, k)) = names_less path x.0 y.0 e g (each_in (λ z. name_cmp x.0 z.0 ≡ Less) xs y up.0 j) (under x e i) (under y g k)

under_made : (path : PathNames) (met : List Met) (e : Edit) → (In (Ok e) met → Under path e) → In (Ok e) (met_or_made path met) → Under path e
under_made path [] e rest (inl is) = let same : MakeFolder path ≡ e = cc in ([], ap path_in (sym same) ∙ sym (append-nil path))
under_made path [] e rest (inr none) = absurd none
under_made path (m ∷ met) e rest h = rest h

under_at : (deeper : PathNames → Bytes → List Met) → ((p : PathNames) (x : Bytes) (e : Edit) → In (Ok e) (deeper p x) → Under p e)
    → (path : PathNames) (text : Bytes) (x : Bytes × Entry) (e : Edit) → In (Ok e) (met_at deeper path text x) → Under (path ++ x.0 ∷ []) e
under_at deeper below path text (name, AnOther) e h = absurd h
under_at deeper below path text (name, AFile content) e h = go (is_name name) h where
  go : (b : Bool) → In (Ok e) (cond b (Ok (Put (path ++ name ∷ []) (take 16777217 content)) ∷ []) (Err IsBadName ∷ [])) → Under (path ++ name ∷ []) e
  go true (inl is) = let same : Put (path ++ name ∷ []) (take 16777217 content) ≡ e = cc in ([], ap path_in (sym same) ∙ sym (append-nil (path ++ name ∷ [])))
  go true (inr none) = absurd none
  go false (inl is) = cc
  go false (inr none) = absurd none
under_at deeper below path text (name, AFolder) e h = go (is_name name) h (below (path ++ name ∷ []) (text ++ 47 ∷ name) e) where
  go : (b : Bool) → In (Ok e) (cond b (met_or_made (path ++ name ∷ []) (deeper (path ++ name ∷ []) (text ++ 47 ∷ name))) (Err IsBadName ∷ [])) → (In (Ok e) (deeper (path ++ name ∷ []) (text ++ 47 ∷ name)) → Under (path ++ name ∷ []) e) → Under (path ++ name ∷ []) e
  go true i rest = under_made (path ++ name ∷ []) (deeper (path ++ name ∷ []) (text ++ 47 ∷ name)) e rest i
  go false (inl is) rest = cc
  go false (inr none) rest = absurd none

none_past : (x : Bytes × Entry) (e : Edit) → In (Ok e) (met_past x) → ⊥
none_past (name, AnOther) e h = h
none_past (name, AFile content) e (inl is) = cc
none_past (name, AFile content) e (inr none) = none
none_past (name, AFolder) e (inl is) = cc
none_past (name, AFolder) e (inr none) = none

under_below : (t : FolderTree) (room : ℕ) (path : PathNames) (text : Bytes) (e : Edit) → In (Ok e) (met_below t room path text) → Under path e
unfolding met_below
under_below t zero path text e h = let r = from_flat_map met_past (sort_entries (entries_below t text)) (Ok e) h in absurd (none_past r.0 e r.1.1)
under_below t (suc room) path text e h =
    let r = from_flat_map (met_at (met_below t room) path text) (sort_entries (entries_below t text)) (Ok e) h in
    let u = under_at (met_below t room) (λ p x f i. under_below t room p x f i) path text r.0 e r.1.1 in
    (r.0.0 ∷ u.0, u.1 ∙ append_assoc path (r.0.0 ∷ []) u.0)

ascends_made : (path : PathNames) (met : List Met) → Ascends (edits_in met) → Ascends (edits_in (met_or_made path met))
ascends_made path [] h = (tt, tt)
ascends_made path (m ∷ met) h = h

ascends_at : (deeper : PathNames → Bytes → List Met) → ((p : PathNames) (x : Bytes) → Ascends (edits_in (deeper p x))) → (path : PathNames) (text : Bytes) (x : Bytes × Entry) → Ascends (edits_in (met_at deeper path text x))
ascends_at deeper below path text (name, AnOther) = tt
ascends_at deeper below path text (name, AFile content) = go (is_name name) where
  go : (b : Bool) → Ascends (edits_in (cond b (Ok (Put (path ++ name ∷ []) (take 16777217 content)) ∷ []) (Err IsBadName ∷ [])))
  go true = (tt, tt)
  go false = tt
ascends_at deeper below path text (name, AFolder) = go (is_name name) (below (path ++ name ∷ []) (text ++ 47 ∷ name)) where
  go : (b : Bool) → Ascends (edits_in (deeper (path ++ name ∷ []) (text ++ 47 ∷ name))) → Ascends (edits_in (cond b (met_or_made (path ++ name ∷ []) (deeper (path ++ name ∷ []) (text ++ 47 ∷ name))) (Err IsBadName ∷ [])))
  go true h = ascends_made (path ++ name ∷ []) (deeper (path ++ name ∷ []) (text ++ 47 ∷ name)) h
  go false h = tt

ascends_past : (x : Bytes × Entry) → Ascends (edits_in (met_past x))
ascends_past (name, AnOther) = tt
ascends_past (name, AFile content) = tt
ascends_past (name, AFolder) = tt

ascends_below : (t : FolderTree) (room : ℕ) (path : PathNames) (text : Bytes) → Ascends (edits_in (met_below t room path text))
unfolding met_below
ascends_below t zero path text = in_order_all path met_past (sort_entries (entries_below t text)) (sorted_climbs (entries_below t text)) (λ x e i. absurd (none_past x e i)) ascends_past
ascends_below t (suc room) path text =
    in_order_all path (met_at (met_below t room) path text) (sort_entries (entries_below t text)) (sorted_climbs (entries_below t text))
    (under_at (met_below t room) (under_below t room) path text) (ascends_at (met_below t room) (λ p x. ascends_below t room p x) path text)

-- ---- what stands below a folder of a tree

-- an entry of a listing is one of the tree
below_from : (t : FolderTree) (path : Bytes) (e : Bytes × Entry) → In e (entries_below t path) → In (path ++ 47 ∷ e.0, e.1) t
below_from [] path e h = absurd h
below_from (f ∷ t) path e h = go (named_by f.1 (after_prefix (path ++ 47 ∷ []) f.0)) refl h (λ i. below_from t path e i) where
  here : (g : Bytes × Entry) → g ≡ e → (f.0 ≡ path ++ 47 ∷ g.0) × (is_name_text g.0 ≡ true) × (g.1 ≡ f.1) → f ≡ (path ++ 47 ∷ e.0, e.1)
  here g same is =
      let text : f.0 ≡ path ++ 47 ∷ e.0 = is.0 ∙ ap (λ (x : Bytes × Entry). path ++ 47 ∷ x.0) same in
      let entry : f.1 ≡ e.1 = sym is.2 ∙ ap (λ (x : Bytes × Entry). x.1) same in
      ap (λ (n : Bytes). (n, f.1)) text ∙ ap (λ (x : Entry). (path ++ 47 ∷ e.0, x)) entry

  go : (o : Option (Bytes × Entry)) → named_by f.1 (after_prefix (path ++ 47 ∷ []) f.0) ≡ o → In e (cons_option o (entries_below t path)) → (In e (entries_below t path) → In (path ++ 47 ∷ e.0, e.1) t) → In (path ++ 47 ∷ e.0, e.1) (f ∷ t)
  go None is h rest = inr (rest h)
  go (Some g) is (inl same) rest = inl (here g same (named_is path f.0 f.1 g is))
  go (Some g) is (inr h) rest = inr (rest h)

-- and one of the tree, under a name, is one of the listing
below_into : (t : FolderTree) (path name : Bytes) (entry : Entry) → is_name_text name ≡ true → In (path ++ 47 ∷ name, entry) t → In (name, entry) (entries_below t path)
below_into [] path name entry plain h = absurd h
below_into (f ∷ t) path name entry plain (inl is) =
    let first : named_by f.1 (after_prefix (path ++ 47 ∷ []) f.0) ≡ Some (name, entry) =
    ap (λ (x : Bytes × Entry). named_by x.1 (after_prefix (path ++ 47 ∷ []) x.0)) is ∙ named_at path name entry plain in
    rw first (inl refl)
below_into (f ∷ t) path name entry plain (inr h) = behind_one (named_by f.1 (after_prefix (path ++ 47 ∷ []) f.0)) (entries_below t path) (name, entry) (below_into t path name entry plain h) where
  behind_one : (o : Option (Bytes × Entry)) (es : List (Bytes × Entry)) (x : Bytes × Entry) → In x es → In x (cons_option o es)
  behind_one None es x i = i
  behind_one (Some y) es x i = inr i

distinct_below : (t : FolderTree) (path : Bytes) → AreDistinct t → AreDistinct (entries_below t path)
unfolding IsDistinct
distinct_below [] path h = tt
distinct_below (f ∷ t) path h = go (named_by f.1 (after_prefix (path ++ 47 ∷ []) f.0)) refl (distinct_below t path h.1) where
  apart : (g : Bytes × Entry) → f.0 ≡ path ++ 47 ∷ g.0 → (e : Bytes × Entry) → In e (entries_below t path) → same_name g.0 e.0 ≡ false
  apart g text e i = by (true_or_false (same_name g.0 e.0)) where
    by : (same_name g.0 e.0 ≡ true) ⊎ (same_name g.0 e.0 ≡ false) → same_name g.0 e.0 ≡ false
    by (inr isnt) = isnt
    by (inl found) =
        let other : same_name f.0 (path ++ 47 ∷ e.0) ≡ false = each_in (λ m. same_name f.0 m ≡ false) (names t) (path ++ 47 ∷ e.0) h.0 (in_map (λ (x : Bytes × Entry). x.0) t (path ++ 47 ∷ e.0, e.1) (below_from t path e i)) in
        let alike : f.0 ≡ path ++ 47 ∷ e.0 = text ∙ ap (λ (n : Bytes). path ++ 47 ∷ n) (same_name-is g.0 e.0 found) in
        let same : same_name f.0 (path ++ 47 ∷ e.0) ≡ true = ap (same_name f.0) (sym alike) ∙ same_name-refl f.0 in
        let z : true ≡ false = sym same ∙ other in cc

  go : (o : Option (Bytes × Entry)) → named_by f.1 (after_prefix (path ++ 47 ∷ []) f.0) ≡ o → AreDistinct (entries_below t path) → AreDistinct (cons_option o (entries_below t path))
  go None is rest = rest
  go (Some g) is rest = (by_names g.0 (entries_below t path) (apart g (named_is path f.0 f.1 g is).0), rest) where
    by_names : (n : Bytes) (es : List (Bytes × Entry)) → ((e : Bytes × Entry) → In e es → same_name n e.0 ≡ false) → AllByRecursion (λ m. same_name n m ≡ false) (names es)
    by_names n [] k = tt
    by_names n (e ∷ es) k = (k e (inl refl), by_names n es (λ g i. k g (inr i)))

entry_in : (t : FolderTree) (text : Bytes) (e : Entry) → entry_at t text ≡ Some e → In (text, e) t
entry_in [] text e h = cc
entry_in (f ∷ t) text e h = go (true_or_false (same_name f.0 text)) h (λ k. entry_in t text e k) where
  go : (same_name f.0 text ≡ true) ⊎ (same_name f.0 text ≡ false) → option_map (λ (x : Bytes × Entry). x.1) (cond (same_name f.0 text) (Some f) (find (λ x. same_name x.0 text) t)) ≡ Some e
      → (entry_at t text ≡ Some e → In (text, e) t) → In (text, e) (f ∷ t)
  go (inl found) k rest =
      let j : Some f.1 ≡ Some e = rw found at k in
      let entry : f.1 ≡ e = cc in
      inl (ap (λ (n : Bytes). (n, f.1)) (same_name-is f.0 text found) ∙ ap (λ (x : Entry). (text, x)) entry)
  go (inr isnt) k rest = let j : entry_at t text ≡ Some e = rw isnt at k in inr (rest j)

-- ---- folders in which neither a file nor a folder stands

none_in : (es : List (Bytes × Entry)) → list_any (λ e. counts e.1) es ≡ false → (x : Bytes × Entry) → In x es → counts x.1 ≡ false
none_in [] h x i = absurd i
none_in (e ∷ es) h x i = go (true_or_false (counts e.1)) h i (λ k j. none_in es k x j) where
  go : (counts e.1 ≡ true) ⊎ (counts e.1 ≡ false) → (counts e.1 || list_any (λ f. counts f.1) es) ≡ false → (e ≡ x) ⊎ In x es → (list_any (λ f. counts f.1) es ≡ false → In x es → counts x.1 ≡ false) → counts x.1 ≡ false
  go (inl stands) k j rest = let z : true ≡ false = rw stands at k in cc
  go (inr passed) k (inl is) rest = subst (λ (y : Bytes × Entry). counts y.1 ≡ false) is passed
  go (inr passed) k (inr j) rest = rest (rw passed at k) j

in_none : (es : List (Bytes × Entry)) → ((x : Bytes × Entry) → In x es → counts x.1 ≡ false) → list_any (λ e. counts e.1) es ≡ false
in_none [] h = refl
in_none (e ∷ es) h = rw (h e (inl refl)) (in_none es (λ x i. h x (inr i)))

-- something is met at files and folders, and at them alone
record Shows (f : Bytes × Entry → List Met) : Type 0 where
  pub nothing : (x : Bytes × Entry) → counts x.1 ≡ false → f x ≡ []
  pub something : (x : Bytes × Entry) → counts x.1 ≡ true → f x ≡ [] → ⊥

past_shows : Shows met_past
past_shows = record { nothing = none; something = some } where
  none : (x : Bytes × Entry) → counts x.1 ≡ false → met_past x ≡ []
  none (name, AnOther) h = refl
  none (name, AFile content) h = cc
  none (name, AFolder) h = cc

  some : (x : Bytes × Entry) → counts x.1 ≡ true → met_past x ≡ [] → ⊥
  some (name, AnOther) h k = cc
  some (name, AFile content) h k = cc
  some (name, AFolder) h k = cc

made_some : (path : PathNames) (met : List Met) → met_or_made path met ≡ [] → ⊥
made_some path [] h = cc
made_some path (m ∷ met) h = cc

at_shows : (deeper : PathNames → Bytes → List Met) (path : PathNames) (text : Bytes) → Shows (met_at deeper path text)
at_shows deeper path text = record { nothing = none; something = some } where
  none : (x : Bytes × Entry) → counts x.1 ≡ false → met_at deeper path text x ≡ []
  none (name, AnOther) h = refl
  none (name, AFile content) h = cc
  none (name, AFolder) h = cc

  file : (b : Bool) (one : Met) → cond b (one ∷ []) (Err IsBadName ∷ []) ≡ [] → ⊥
  file true one h = cc
  file false one h = cc

  folder : (b : Bool) (below : PathNames) (met : List Met) → cond b (met_or_made below met) (Err IsBadName ∷ []) ≡ [] → ⊥
  folder true below met h = made_some below met h
  folder false below met h = cc

  some : (x : Bytes × Entry) → counts x.1 ≡ true → met_at deeper path text x ≡ [] → ⊥
  some (name, AnOther) h k = cc
  some (name, AFile content) h k = file (is_name name) (Ok (Put (path ++ name ∷ []) (take 16777217 content))) k
  some (name, AFolder) h k = folder (is_name name) (path ++ name ∷ []) (deeper (path ++ name ∷ []) (text ++ 47 ∷ name)) k

append_none : {X : Type 0} (xs ys : List X) → xs ++ ys ≡ [] → (xs ≡ []) × (ys ≡ [])
append_none [] ys h = (refl, h)
append_none (x ∷ xs) ys h = cc

none_counts : (f : Bytes × Entry → List Met) → Shows f → (es : List (Bytes × Entry)) → flat_map f es ≡ [] → (x : Bytes × Entry) → In x es → counts x.1 ≡ false
none_counts f shows [] h x i = absurd i
none_counts f shows (e ∷ es) h x (inl is) = go (true_or_false (counts x.1)) where
  empty : f x ≡ []
  empty = ap f (sym is) ∙ (append_none (f e) (flat_map f es) h).0

  go : (counts x.1 ≡ true) ⊎ (counts x.1 ≡ false) → counts x.1 ≡ false
  go (inl stands) = absurd (shows.something x stands empty)
  go (inr passed) = passed
none_counts f shows (e ∷ es) h x (inr i) = none_counts f shows es (append_none (f e) (flat_map f es) h).1 x i

none_met : (f : Bytes × Entry → List Met) → Shows f → (es : List (Bytes × Entry)) → ((x : Bytes × Entry) → In x es → counts x.1 ≡ false) → flat_map f es ≡ []
none_met f shows [] h = refl
none_met f shows (e ∷ es) h = rw (shows.nothing e (h e (inl refl))) (none_met f shows es (λ x i. h x (inr i)))

-- what is met below a folder, by its entries in order
abbrev met_of : FolderTree → ℕ → PathNames → Bytes → Bytes × Entry → List Met
met_of t zero path text = met_past
met_of t (suc room) path text = met_at (met_below t room) path text

met_of_is : (t : FolderTree) (room : ℕ) (path : PathNames) (text : Bytes) → met_below t room path text ≡ flat_map (met_of t room path text) (sort_entries (entries_below t text))
unfolding met_below
met_of_is t zero path text = refl
met_of_is t (suc room) path text = refl

of_shows : (t : FolderTree) (room : ℕ) (path : PathNames) (text : Bytes) → Shows (met_of t room path text)
of_shows t zero path text = past_shows
of_shows t (suc room) path text = at_shows (met_below t room) path text

pub met_bare : (t : FolderTree) → AreDistinct t → (room : ℕ) (path : PathNames) (text : Bytes) → met_below t room path text ≡ [] → is_folder_at t text ≡ true → is_bare_folder t text ≡ true
met_bare t apart room path text h folder =
    let differ : AreDistinct (entries_below t text) = distinct_below t text apart in
    let none : list_any (λ e. counts e.1) (entries_below t text) ≡ false =
    in_none (entries_below t text) (λ x i. none_counts (met_of t room path text) (of_shows t room path text) (sort_entries (entries_below t text)) (sym (met_of_is t room path text) ∙ h) x (sorted_all (entries_below t text) x differ i)) in
    rw (folder, none) refl

bare_parts : (a b : Bool) → (a && not b) ≡ true → (a ≡ true) × (b ≡ false)
bare_parts true false h = (refl, refl)
bare_parts true true h = cc
bare_parts false b h = cc

pub bare_folder : (t : FolderTree) (text : Bytes) → is_bare_folder t text ≡ true → is_folder_at t text ≡ true
bare_folder t text h = (bare_parts (is_folder_at t text) (list_any (λ e. counts e.1) (entries_below t text)) h).0

pub bare_met : (t : FolderTree) → AreDistinct t → (room : ℕ) (path : PathNames) (text : Bytes) → is_bare_folder t text ≡ true → met_below t room path text ≡ []
bare_met t apart room path text h =
    let differ : AreDistinct (entries_below t text) = distinct_below t text apart in
    let none = (bare_parts (is_folder_at t text) (list_any (λ e. counts e.1) (entries_below t text)) h).1 in
    met_of_is t room path text ∙ none_met (met_of t room path text) (of_shows t room path text) (sort_entries (entries_below t text))
    (λ x i. none_in (entries_below t text) none x (sorted_only (entries_below t text) x differ i))

made_keeps : (path : PathNames) (met : List Met) (m : Met) → In m met → In m (met_or_made path met)
made_keeps path [] m h = absurd h
made_keeps path (n ∷ met) m h = h

-- ---- each edit is a file's, or a bare folder's

abbrev IsOf : FolderTree → Bytes → Edit → Type 0
IsOf t root e = PutsFile t root e ⊎ MakesFolder t root e

pub text_more : (root : Bytes) (path : PathNames) (name : Bytes) → text_below root (path ++ name ∷ []) ≡ text_below root path ++ 47 ∷ name
text_more root path name =
    ap (λ (x : Bytes). root ++ x) (flat_map-append (λ (n : Bytes). 47 ∷ n) path (name ∷ []) ∙ ap (λ (x : Bytes). flat_map (λ (n : Bytes). 47 ∷ n) path ++ x) (append-nil (47 ∷ name)))
    ∙ sym (append_assoc root (flat_map (λ (n : Bytes). 47 ∷ n) path) (47 ∷ name))

some_names : (path : PathNames) (name : Bytes) → (path ++ name ∷ []) ≡ [] → ⊥
some_names [] name h = cc
some_names (n ∷ path) name h = cc

file_at : (t : FolderTree) (root : Bytes) (deeper : PathNames → Bytes → List Met) → ((p : PathNames) (x : Bytes) (e : Edit) → x ≡ text_below root p → In (Ok e) (deeper p x) → IsOf t root e)
    → ((p : PathNames) (x : Bytes) → deeper p x ≡ [] → is_folder_at t x ≡ true → is_bare_folder t x ≡ true)
    → (path : PathNames) (text : Bytes) (x : Bytes × Entry) (e : Edit) → text ≡ text_below root path → entry_at t (text ++ 47 ∷ x.0) ≡ Some x.1 → In (Ok e) (met_at deeper path text x) → IsOf t root e
file_at t root deeper below bare path text (name, AnOther) e is there h = absurd h
file_at t root deeper below bare path text (name, AFile content) e is there h = go (is_name name) h where
  whole : text_below root (path ++ name ∷ []) ≡ text ++ 47 ∷ name
  whole = text_more root path name ∙ ap (λ (x : Bytes). x ++ 47 ∷ name) (sym is)

  go : (b : Bool) → In (Ok e) (cond b (Ok (Put (path ++ name ∷ []) (take 16777217 content)) ∷ []) (Err IsBadName ∷ [])) → IsOf t root e
  go true (inl same) = inl (record { path = path ++ name ∷ []; content = content; form = cc; file = ap (λ (x : Bytes). content_of (entry_at t x)) whole ∙ ap content_of there })
  go true (inr none) = absurd none
  go false (inl same) = cc
  go false (inr none) = absurd none
file_at t root deeper below bare path text (name, AFolder) e is there h = go (is_name name) h where
  whole : text_below root (path ++ name ∷ []) ≡ text ++ 47 ∷ name
  whole = text_more root path name ∙ ap (λ (x : Bytes). x ++ 47 ∷ name) (sym is)

  folder : is_folder_at t (text ++ 47 ∷ name) ≡ true
  folder = rw there refl

  made : (met : List Met) → (met ≡ [] → is_bare_folder t (text ++ 47 ∷ name) ≡ true) → (In (Ok e) met → IsOf t root e) → In (Ok e) (met_or_made (path ++ name ∷ []) met) → IsOf t root e
  made [] none rest (inl same) =
      inr (record { path = path ++ name ∷ []; form = cc; below = some_names path name; bare = ap (is_bare_folder t) whole ∙ none refl })
  made [] none rest (inr other) = absurd other
  made (m ∷ met) none rest i = rest i

  go : (b : Bool) → In (Ok e) (cond b (met_or_made (path ++ name ∷ []) (deeper (path ++ name ∷ []) (text ++ 47 ∷ name))) (Err IsBadName ∷ [])) → IsOf t root e
  go true i = made (deeper (path ++ name ∷ []) (text ++ 47 ∷ name)) (λ none. bare (path ++ name ∷ []) (text ++ 47 ∷ name) none folder) (below (path ++ name ∷ []) (text ++ 47 ∷ name) e (sym whole)) i
  go false (inl same) = cc
  go false (inr none) = absurd none

file_below : (t : FolderTree) (root : Bytes) → AreDistinct t → (room : ℕ) (path : PathNames) (text : Bytes) (e : Edit) → text ≡ text_below root path → In (Ok e) (met_below t room path text) → IsOf t root e
unfolding met_below
file_below t root apart zero path text e is h = let r = from_flat_map met_past (sort_entries (entries_below t text)) (Ok e) h in absurd (none_past r.0 e r.1.1)
file_below t root apart (suc room) path text e is h =
    let r = from_flat_map (met_at (met_below t room) path text) (sort_entries (entries_below t text)) (Ok e) h in
    let differ : AreDistinct (entries_below t text) = distinct_below t text apart in
    file_at t root (met_below t room) (λ p x f same i. file_below t root apart room p x f same i) (λ p x none folder. met_bare t apart room p x none folder) path text r.0 e is (stands t text r.0 differ (sorted_only (entries_below t text) r.0 differ r.1.0)) r.1.1

-- ---- each file has its edit, and each bare folder

no_zero_or_slash : (b : ℕ) → b ≢ 0 → b ≢ 47 → is_zero_or_slash b ≡ false
no_zero_or_slash b z s = grind (arith, nat_tests, z, s)

not_slash : (b : ℕ) → b ≢ 47 → (b == 47) ≡ false
not_slash b s = grind (arith, nat_tests, s)

name_good : (name : Bytes) → IsName name → is_name name ≡ true
name_good name h =
    let none : list_any is_zero_or_slash name ≡ false = list_any_none is_zero_or_slash name (λ k d within. no_zero_or_slash (get_or name k d) (h.no_zero k d within) (h.no_slash k d within)) in
    rw (le-leb 1 (length name) h.at_least, le-leb (length name) 254 h.at_most, none) refl

name_plain : (name : Bytes) → IsName name → is_name_text name ≡ true
name_plain name h =
    let none : list_any (λ b. b == 47) name ≡ false = list_any_none (λ b. b == 47) name (λ k d within. not_slash (get_or name k d) (h.no_slash k d within)) in
    rw none refl

folder_is : (t : FolderTree) (text : Bytes) → is_folder_at t text ≡ true → entry_at t text ≡ Some AFolder
folder_is t text h = go (entry_at t text) refl where
  go : (o : Option Entry) → entry_at t text ≡ o → entry_at t text ≡ Some AFolder
  go None e = let z : false ≡ true = rw e at h in cc
  go (Some AFolder) e = e
  go (Some AnOther) e = let z : false ≡ true = rw e at h in cc
  go (Some (AFile content)) e = let z : false ≡ true = rw e at h in cc

file_is : (o : Option Entry) (content : Bytes) → content_of o ≡ Some content → o ≡ Some (AFile content)
file_is None content h = cc
file_is (Some AFolder) content h = cc
file_is (Some AnOther) content h = cc
file_is (Some (AFile bytes)) content h = let same : bytes ≡ content = cc in ap (λ (x : Bytes). Some (AFile x)) same

text_into : (text name : Bytes) (rest : PathNames) → text_below text (name ∷ rest) ≡ text_below (text ++ 47 ∷ name) rest
text_into text name rest = sym (append_assoc text (47 ∷ name) (flat_map (λ (n : Bytes). 47 ∷ n) rest))

-- what stands below a text stands in folders
folders_up : (t : FolderTree) → IsFolderTree t → (text name : Bytes) (rest : PathNames) (entry : Entry) → is_name_text name ≡ true → AllByRecursion IsName rest → In (text_below text (name ∷ rest), entry) t → is_folder_at t text ≡ true
folders_up t tree text name [] entry plain good h =
    let one : text_below text (name ∷ []) ≡ text ++ 47 ∷ name = text_into text name [] ∙ append-nil (text ++ 47 ∷ name) in
    tree.inside text name entry (contains_from t (text ++ 47 ∷ name, entry) (subst (λ (x : Bytes). In (x, entry) t) one h)) plain
folders_up t tree text name (next ∷ rest) entry plain good h =
    let up : is_folder_at t (text ++ 47 ∷ name) ≡ true = folders_up t tree (text ++ 47 ∷ name) next rest entry (name_plain next good.0) good.1 (subst (λ (x : Bytes). In (x, entry) t) (text_into text name (next ∷ rest)) h) in
    tree.inside text name AFolder (contains_from t (text ++ 47 ∷ name, AFolder) (entry_in t (text ++ 47 ∷ name) AFolder (folder_is t (text ++ 47 ∷ name) up))) plain

reach : (t : FolderTree) → IsFolderTree t → AreDistinct t → (room : ℕ) (done : PathNames) (text name : Bytes) (rest : PathNames) (content : Bytes) → length rest < room → IsName name → AllByRecursion IsName rest
    → content_of (entry_at t (text_below text (name ∷ rest))) ≡ Some content → In (Ok (Put (done ++ name ∷ rest) (take 16777217 content))) (met_below t room done text)
unfolding met_below
reach t tree apart zero done text name rest content few good all h = absurd (omega (arith, few))
reach t tree apart (suc room) done text name [] content few good all h =
    let below : List (Bytes × Entry) = entries_below t text in
    let one : text_below text (name ∷ []) ≡ text ++ 47 ∷ name = text_into text name [] ∙ append-nil (text ++ 47 ∷ name) in
    let there : entry_at t (text ++ 47 ∷ name) ≡ Some (AFile content) = ap (entry_at t) (sym one) ∙ file_is (entry_at t (text_below text (name ∷ []))) content h in
    let listed : In (name, AFile content) below = below_into t text name (AFile content) (name_plain name good) (entry_in t (text ++ 47 ∷ name) (AFile content) there) in
    let met : In (Ok (Put (done ++ name ∷ []) (take 16777217 content))) (met_at (met_below t room) done text (name, AFile content)) = rw (name_good name good) (inl refl) in
    into_flat_map (met_at (met_below t room) done text) (sort_entries below) (name, AFile content) (Ok (Put (done ++ name ∷ []) (take 16777217 content))) (sorted_all below (name, AFile content) (distinct_below t text apart) listed) met
reach t tree apart (suc room) done text name (next ∷ rest) content few good all h =
    let below : List (Bytes × Entry) = entries_below t text in
    let inner : Bytes = text ++ 47 ∷ name in
    let deep : content_of (entry_at t (text_below inner (next ∷ rest))) ≡ Some content = ap (λ (x : Bytes). content_of (entry_at t x)) (sym (text_into text name (next ∷ rest))) ∙ h in
    let file : In (text_below inner (next ∷ rest), AFile content) t = entry_in t (text_below inner (next ∷ rest)) (AFile content) (file_is (entry_at t (text_below inner (next ∷ rest))) content deep) in
    let folder : entry_at t inner ≡ Some AFolder = folder_is t inner (folders_up t tree inner next rest (AFile content) (name_plain next all.0) all.1 file) in
    let listed : In (name, AFolder) below = below_into t text name AFolder (name_plain name good) (entry_in t inner AFolder folder) in
    let found : In (Ok (Put ((done ++ name ∷ []) ++ next ∷ rest) (take 16777217 content))) (met_below t room (done ++ name ∷ []) inner) = reach t tree apart room (done ++ name ∷ []) inner next rest content (omega (arith, few)) all.0 all.1 deep in
    let whole : In (Ok (Put (done ++ name ∷ next ∷ rest) (take 16777217 content))) (met_below t room (done ++ name ∷ []) inner) =
    subst (λ (p : PathNames). In (Ok (Put p (take 16777217 content))) (met_below t room (done ++ name ∷ []) inner)) (append_assoc done (name ∷ []) (next ∷ rest)) found in
    let met : In (Ok (Put (done ++ name ∷ next ∷ rest) (take 16777217 content))) (met_at (met_below t room) done text (name, AFolder)) =
    rw (name_good name good) (made_keeps (done ++ name ∷ []) (met_below t room (done ++ name ∷ []) inner) (Ok (Put (done ++ name ∷ next ∷ rest) (take 16777217 content))) whole) in
    into_flat_map (met_at (met_below t room) done text) (sort_entries below) (name, AFolder) (Ok (Put (done ++ name ∷ next ∷ rest) (take 16777217 content))) (sorted_all below (name, AFolder) (distinct_below t text apart) listed) met

reach_bare : (t : FolderTree) → IsFolderTree t → AreDistinct t → (room : ℕ) (done : PathNames) (text name : Bytes) (rest : PathNames) → length rest < room → IsName name → AllByRecursion IsName rest
    → is_bare_folder t (text_below text (name ∷ rest)) ≡ true → In (Ok (MakeFolder (done ++ name ∷ rest))) (met_below t room done text)
unfolding met_below
reach_bare t tree apart zero done text name rest few good all h = absurd (omega (arith, few))
reach_bare t tree apart (suc room) done text name [] few good all h =
    let below : List (Bytes × Entry) = entries_below t text in
    let inner : Bytes = text ++ 47 ∷ name in
    let one : text_below text (name ∷ []) ≡ inner = text_into text name [] ∙ append-nil inner in
    let bare : is_bare_folder t inner ≡ true = ap (is_bare_folder t) (sym one) ∙ h in
    let listed : In (name, AFolder) below = below_into t text name AFolder (name_plain name good) (entry_in t inner AFolder (folder_is t inner (bare_folder t inner bare))) in
    let none : met_below t room (done ++ name ∷ []) inner ≡ [] = bare_met t apart room (done ++ name ∷ []) inner bare in
    let met : In (Ok (MakeFolder (done ++ name ∷ []))) (met_at (met_below t room) done text (name, AFolder)) = rw (name_good name good, none) (inl refl) in
    into_flat_map (met_at (met_below t room) done text) (sort_entries below) (name, AFolder) (Ok (MakeFolder (done ++ name ∷ []))) (sorted_all below (name, AFolder) (distinct_below t text apart) listed) met
reach_bare t tree apart (suc room) done text name (next ∷ rest) few good all h =
    let below : List (Bytes × Entry) = entries_below t text in
    let inner : Bytes = text ++ 47 ∷ name in
    let deep : is_bare_folder t (text_below inner (next ∷ rest)) ≡ true = ap (is_bare_folder t) (sym (text_into text name (next ∷ rest))) ∙ h in
    let there : In (text_below inner (next ∷ rest), AFolder) t = entry_in t (text_below inner (next ∷ rest)) AFolder (folder_is t (text_below inner (next ∷ rest)) (bare_folder t (text_below inner (next ∷ rest)) deep)) in
    let folder : entry_at t inner ≡ Some AFolder = folder_is t inner (folders_up t tree inner next rest AFolder (name_plain next all.0) all.1 there) in
    let listed : In (name, AFolder) below = below_into t text name AFolder (name_plain name good) (entry_in t inner AFolder folder) in
    let found : In (Ok (MakeFolder ((done ++ name ∷ []) ++ next ∷ rest))) (met_below t room (done ++ name ∷ []) inner) = reach_bare t tree apart room (done ++ name ∷ []) inner next rest (omega (arith, few)) all.0 all.1 deep in
    let whole : In (Ok (MakeFolder (done ++ name ∷ next ∷ rest))) (met_below t room (done ++ name ∷ []) inner) =
    subst (λ (p : PathNames). In (Ok (MakeFolder p)) (met_below t room (done ++ name ∷ []) inner)) (append_assoc done (name ∷ []) (next ∷ rest)) found in
    let met : In (Ok (MakeFolder (done ++ name ∷ next ∷ rest))) (met_at (met_below t room) done text (name, AFolder)) =
    rw (name_good name good) (made_keeps (done ++ name ∷ []) (met_below t room (done ++ name ∷ []) inner) (Ok (MakeFolder (done ++ name ∷ next ∷ rest))) whole) in
    into_flat_map (met_at (met_below t room) done text) (sort_entries below) (name, AFolder) (Ok (MakeFolder (done ++ name ∷ next ∷ rest))) (sorted_all below (name, AFolder) (distinct_below t text apart) listed) met

-- ---- the whole

same_edit : (f e : Edit) (m n : Met) → m ≡ Ok f → n ≡ Ok e → m ≡ n → f ≡ e
same_edit f e m n p q h = cc

met_edit : (es : List Edit) (e : Edit) → In {X = Met} (Ok e) (map Ok es) → In e es
met_edit [] e h = absurd h
met_edit (f ∷ es) e (inl is) = inl (same_edit f e (Ok f) (Ok e) refl refl is)
met_edit (f ∷ es) e (inr h) = inr (met_edit es e h)

edit_walked : (es : List Edit) (e : Edit) → In e es → In {X = Met} (Ok e) (map Ok es)
edit_walked [] e h = absurd h
edit_walked (f ∷ es) e (inl is) = inl (ap Ok is)
edit_walked (f ∷ es) e (inr h) = inr (edit_walked es e h)

each_file : (t : FolderTree) (root : Bytes) (es : List Edit) → IsFolderTree t → AreDistinct t → edits_of t root ≡ Ok es → sum_by size es ≤ 536870912 → (path : PathNames) (content : Bytes) → IsPath path → path ≢ []
    → content_of (entry_at t (text_below root path)) ≡ Some content → Contains es (Put path (take 16777217 content))
each_file t root es tree apart h few [] content good some there = absurd (some refl)
each_file t root es tree apart h few (name ∷ rest) content good some there =
    let e : Edit = Put (name ∷ rest) (take 16777217 content) in
    let names_good : AllByRecursion IsName (name ∷ rest) = recursion_from_All IsName (name ∷ rest) good.names in
    let short : length rest < 16 = omega (arith, good.depth) in
    let found : In (Ok e) (met_below t 16 [] root) = reach t tree apart 16 [] root name rest content short names_good.0 names_good.1 there in
    let sum : 0 + total es ≤ 536870912 = omega (arith, total_is es, few) in
    let all : met_below t 16 [] root ≡ map Ok es = walked_whole 0 (met_below t 16 [] root) es h sum in
    contains_from es e (met_edit es e (subst (λ (ms : List Met). In (Ok e) ms) all found))

each_folder : (t : FolderTree) (root : Bytes) (es : List Edit) → IsFolderTree t → AreDistinct t → edits_of t root ≡ Ok es → sum_by size es ≤ 536870912 → (path : PathNames) → IsPath path → path ≢ []
    → is_bare_folder t (text_below root path) ≡ true → Contains es (MakeFolder path)
each_folder t root es tree apart h few [] good some there = absurd (some refl)
each_folder t root es tree apart h few (name ∷ rest) good some there =
    let e : Edit = MakeFolder (name ∷ rest) in
    let names_good : AllByRecursion IsName (name ∷ rest) = recursion_from_All IsName (name ∷ rest) good.names in
    let short : length rest < 16 = omega (arith, good.depth) in
    let found : In (Ok e) (met_below t 16 [] root) = reach_bare t tree apart 16 [] root name rest short names_good.0 names_good.1 there in
    let sum : 0 + total es ≤ 536870912 = omega (arith, total_is es, few) in
    let all : met_below t 16 [] root ≡ map Ok es = walked_whole 0 (met_below t 16 [] root) es h sum in
    contains_from es e (met_edit es e (subst (λ (ms : List Met). In (Ok e) ms) all found))

pub puts_files : (t : FolderTree) (root : Bytes) (es : List Edit) → IsFolderTree t → edits_of t root ≡ Ok es → PutsFiles t root es
puts_files t root es tree h =
    let apart : AreDistinct t = distinct_from_pairs t tree.distinct in
    let met : List Met = met_below t 16 [] root in
    let front = walked_front 0 met es h in
    let split : edits_in met ≡ es ++ edits_in front.0 = ap edits_in front.1 ∙ edits_both (map Ok es) front.0 ∙ ap (λ (fs : List Edit). fs ++ edits_in front.0) (edits_all es) in
    record {
      in_order = pairs es (ascends_front es (edits_in front.0) (subst Ascends split (ascends_below t 16 [] root)));
      each_is = All-from_recursion (λ e. IsOf t root e) es (all_in (λ e. IsOf t root e) es (λ e i.
          file_below t root apart 16 [] root e (sym (append-nil root)) (subst (λ (ms : List Met). In (Ok e) ms) (sym front.1) (in_front (map Ok es) front.0 (Ok e) (edit_walked es e i)))));
      each = each_file t root es tree apart h;
      each_bare = each_folder t root es tree apart h;
    }
