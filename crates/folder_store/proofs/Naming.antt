-- What stands at the text of a folder and a name, and names that differ.
use Rattle.std.proofs.Common.{◌≡◌, ◌⊎◌, ℕ, zero, suc, Bool, true, false, ◌==◌, List, [], ◌∷◌, ◌++◌, map, Option, Some, None, cond, refl, sym, ap, ◌∙◌, subst, inl, inr, arith}
use Rattle.std.specs.List.{All, AllPairs, AllByRecursion, Contains, IsDistinct, cons_option}
use Rattle.std.proofs.lemmas.List.Elements.{recursion_from_All}
use Rattle.std.proofs.lemmas.Bool.Decides.{nat_tests}
use Rattle.std.proofs.lemmas.Map.Keys.{IsDistinct-head, IsDistinct-tail}
use Rattle.path_tree.specs.Paths.{Bytes, same_name}
use Rattle.path_tree.proofs.CallerLemmas.{same_name-is, same_name-refl}
use Rattle.folder_store.specs.Folders.{Entry, FolderTree, after_prefix, entries_below, entry_at, is_name_text, named_by}

-- ---- names

pub true_or_false : (b : Bool) → (b ≡ true) ⊎ (b ≡ false)
true_or_false true = inl refl
true_or_false false = inr refl

-- ---- an element of a list

abbrev pub In : {X : Type 0} → X → List X → Type 0
In x [] = ⊥
In x (y ∷ ys) = (y ≡ x) ⊎ In x ys

pub in_from : {X : Type 0} (xs : List X) (x : X) → Contains xs x → In x xs
in_from [] x (k, within, is) = absurd (omega arith)
in_from (y ∷ ys) x (zero, within, is) = inl is
in_from (y ∷ ys) x (suc k, within, is) = inr (in_from ys x (k, omega arith, is))

pub contains_from : {X : Type 0} (xs : List X) (x : X) → In x xs → Contains xs x
contains_from [] x h = absurd h
contains_from (y ∷ ys) x (inl is) = (zero, omega arith, is)
contains_from (y ∷ ys) x (inr h) = let c = contains_from ys x h in (suc c.0, omega (arith, c.1), c.2)

pub all_in : {X : Type 0} (P : X → Type 0) (xs : List X) → ((x : X) → In x xs → P x) → AllByRecursion P xs
all_in P [] h = tt
all_in P (x ∷ xs) h = (h x (inl refl), all_in P xs (λ y i. h y (inr i)))

pub each_in : {X : Type 0} (P : X → Type 0) (xs : List X) (x : X) → AllByRecursion P xs → In x xs → P x
each_in P [] x h i = absurd i
each_in P (y ∷ ys) x h (inl is) = subst P is h.0
each_in P (y ∷ ys) x h (inr i) = each_in P ys x h.1 i

pub in_map : {X Y : Type 0} (f : X → Y) (xs : List X) (x : X) → In x xs → In (f x) (map f xs)
in_map f [] x h = absurd h
in_map f (y ∷ ys) x (inl is) = inl (ap f is)
in_map f (y ∷ ys) x (inr h) = inr (in_map f ys x h)

pub from_map : {X Y : Type 0} (f : X → Y) (xs : List X) (y : Y) → In y (map f xs) → (x : X) × (In x xs × (f x ≡ y))
from_map f [] y h = absurd h
from_map f (x ∷ xs) y (inl is) = (x, (inl refl, is))
from_map f (x ∷ xs) y (inr h) = let r = from_map f xs y h in (r.0, (inr r.1.0, r.1.1))

-- ---- entries whose names differ

abbrev pub names : {A : Type 0} → List (Bytes × A) → List Bytes
names es = map (λ e. e.0) es

abbrev pub AreDistinct : {A : Type 0} → List (Bytes × A) → Type 0
AreDistinct es = IsDistinct same_name (names es)

names_apart : {A : Type 0} (n : Bytes) (es : List (Bytes × A)) → AllByRecursion (λ e. same_name n e.0 ≡ false) es → AllByRecursion (λ m. same_name n m ≡ false) (names es)
names_apart n [] h = tt
names_apart n (e ∷ es) h = (h.0, names_apart n es h.1)

pub distinct_from_pairs : {A : Type 0} (es : List (Bytes × A)) → AllPairs (λ e f. same_name e.0 f.0 ≡ false) es → AreDistinct es
unfolding IsDistinct
distinct_from_pairs [] h = tt
distinct_from_pairs {A} (e ∷ es) h =
    let P : Bytes × A → Type 0 = λ f. same_name e.0 f.0 ≡ false in
    let apart : All P es = λ k d within. h 0 (suc k) d (omega arith) (omega arith) in
    (names_apart e.0 es (recursion_from_All P es apart), distinct_from_pairs es (λ i j d less within. h (suc i) (suc j) d (omega arith) (omega arith)))

-- ---- texts

behind_is : (front text rest : Bytes) → after_prefix front text ≡ Some rest → text ≡ front ++ rest
behind_is [] text rest e = cc
behind_is (b ∷ bs) [] rest e = cc
behind_is (b ∷ bs) (c ∷ cs) rest e = go (λ k. behind_is bs cs rest k) (true_or_false (b == c)) e where
  go : (after_prefix bs cs ≡ Some rest → cs ≡ bs ++ rest) → ((b == c) ≡ true) ⊎ ((b == c) ≡ false) → cond (b == c) (after_prefix bs cs) None ≡ Some rest → (c ∷ cs) ≡ ((b ∷ bs) ++ rest)
  go deeper (inl is) h =
      let further : after_prefix bs cs ≡ Some rest = rw is at h in
      let same : b ≡ c = grind (arith, nat_tests, is) in
      ap (λ (d : ℕ). d ∷ cs) (sym same) ∙ ap (λ (ds : Bytes). b ∷ ds) (deeper further)
  go deeper (inr isnt) h = let none : None ≡ Some rest = rw isnt at h in cc

behind_front : (front rest : Bytes) → after_prefix front (front ++ rest) ≡ Some rest
behind_front [] rest = refl
behind_front (b ∷ bs) rest = grind (arith, nat_tests, behind_front bs rest)

-- ---- what stands below a folder

append_one : (path rest : Bytes) → (path ++ 47 ∷ []) ++ rest ≡ path ++ 47 ∷ rest
append_one [] rest = refl
append_one (b ∷ bs) rest = ap (λ (cs : Bytes). b ∷ cs) (append_one bs rest)

-- the entry is one of the folder's, by its name
pub named_is : (path text : Bytes) (entry : Entry) (e : Bytes × Entry) → named_by entry (after_prefix (path ++ 47 ∷ []) text) ≡ Some e → (text ≡ path ++ 47 ∷ e.0) × (is_name_text e.0 ≡ true) × (e.1 ≡ entry)
named_is path text entry e h = go (after_prefix (path ++ 47 ∷ []) text) refl h where
  go : (o : Option Bytes) → after_prefix (path ++ 47 ∷ []) text ≡ o → named_by entry o ≡ Some e → (text ≡ path ++ 47 ∷ e.0) × (is_name_text e.0 ≡ true) × (e.1 ≡ entry)
  go None is k = absurd (none k) where
    none : None ≡ Some e → ⊥
    none z = cc
  go (Some name) is k = by (true_or_false (is_name_text name)) k where
    by : (is_name_text name ≡ true) ⊎ (is_name_text name ≡ false) → cond (is_name_text name) (Some (name, entry)) None ≡ Some e → (text ≡ path ++ 47 ∷ e.0) × (is_name_text e.0 ≡ true) × (e.1 ≡ entry)
    by (inl plain) z =
        let got : Some (name, entry) ≡ Some e = rw plain at z in
        let same : (name, entry) ≡ e = cc in
        let whole : text ≡ path ++ 47 ∷ name = behind_is (path ++ 47 ∷ []) text name is ∙ append_one path name in
        subst (λ (f : Bytes × Entry). (text ≡ path ++ 47 ∷ f.0) × (is_name_text f.0 ≡ true) × (f.1 ≡ entry)) same (whole, plain, refl)
    by (inr slash) z = let got : None ≡ Some e = rw slash at z in absurd (none got) where
      none : None ≡ Some e → ⊥
      none y = cc

pub named_at : (path name : Bytes) (entry : Entry) → is_name_text name ≡ true → named_by entry (after_prefix (path ++ 47 ∷ []) (path ++ 47 ∷ name)) ≡ Some (name, entry)
named_at path name entry plain =
    ap (λ (text : Bytes). named_by entry (after_prefix (path ++ 47 ∷ []) text)) (sym (append_one path name))
    ∙ ap (named_by entry) (behind_front (path ++ 47 ∷ []) name) ∙ rw plain refl

-- each entry below a folder is a name's
pub below_named : (t : FolderTree) (path : Bytes) (e : Bytes × Entry) → In e (entries_below t path) → is_name_text e.0 ≡ true
below_named [] path e h = absurd h
below_named (f ∷ t) path e h = go (named_by f.1 (after_prefix (path ++ 47 ∷ []) f.0)) refl h (λ i. below_named t path e i) where
  go : (o : Option (Bytes × Entry)) → named_by f.1 (after_prefix (path ++ 47 ∷ []) f.0) ≡ o → In e (cons_option o (entries_below t path)) → (In e (entries_below t path) → is_name_text e.0 ≡ true) → is_name_text e.0 ≡ true
  go None is h rest = rest h
  go (Some g) is (inl same) rest = subst (λ (x : Bytes × Entry). is_name_text x.0 ≡ true) same (named_is path f.0 f.1 g is).1
  go (Some g) is (inr h) rest = rest h

-- a name of a folder stands once in its listing: so what is listed is what stands at its text
pub stands : (t : FolderTree) (path : Bytes) (e : Bytes × Entry) → AreDistinct (entries_below t path) → In e (entries_below t path) → entry_at t (path ++ 47 ∷ e.0) ≡ Some e.1
stands [] path e apart h = absurd h
stands (f ∷ t) path e apart h = go (named_by f.1 (after_prefix (path ++ 47 ∷ []) f.0)) refl apart h (λ a i. stands t path e a i) where
  later : same_name f.0 (path ++ 47 ∷ e.0) ≡ false → entry_at t (path ++ 47 ∷ e.0) ≡ Some e.1 → entry_at (f ∷ t) (path ++ 47 ∷ e.0) ≡ Some e.1
  later isnt rest = rw isnt rest

  here : (g : Bytes × Entry) → g ≡ e → (f.0 ≡ path ++ 47 ∷ g.0) × (is_name_text g.0 ≡ true) × (g.1 ≡ f.1) → entry_at (f ∷ t) (path ++ 47 ∷ e.0) ≡ Some e.1
  here g same is =
      let text : f.0 ≡ path ++ 47 ∷ e.0 = is.0 ∙ ap (λ (x : Bytes × Entry). path ++ 47 ∷ x.0) same in
      let yes : same_name f.0 (path ++ 47 ∷ e.0) ≡ true = ap (same_name f.0) (sym text) ∙ same_name-refl f.0 in
      let entry : f.1 ≡ e.1 = sym is.2 ∙ ap (λ (x : Bytes × Entry). x.1) same in
      rw yes (ap Some entry)

  -- the first of the tree is another: else it would be listed
  other : (o : Option (Bytes × Entry)) → named_by f.1 (after_prefix (path ++ 47 ∷ []) f.0) ≡ o → (o ≡ Some (e.0, f.1) → ⊥) → is_name_text e.0 ≡ true → same_name f.0 (path ++ 47 ∷ e.0) ≡ false
  other o is differs plain = by (true_or_false (same_name f.0 (path ++ 47 ∷ e.0))) where
    by : (same_name f.0 (path ++ 47 ∷ e.0) ≡ true) ⊎ (same_name f.0 (path ++ 47 ∷ e.0) ≡ false) → same_name f.0 (path ++ 47 ∷ e.0) ≡ false
    by (inr isnt) = isnt
    by (inl found) =
        let text : f.0 ≡ path ++ 47 ∷ e.0 = same_name-is f.0 (path ++ 47 ∷ e.0) found in
        absurd (differs (sym is ∙ ap (λ (x : Bytes). named_by f.1 (after_prefix (path ++ 47 ∷ []) x)) text ∙ named_at path e.0 f.1 plain))

  go : (o : Option (Bytes × Entry)) → named_by f.1 (after_prefix (path ++ 47 ∷ []) f.0) ≡ o → AreDistinct (cons_option o (entries_below t path)) → In e (cons_option o (entries_below t path))
      → (AreDistinct (entries_below t path) → In e (entries_below t path) → entry_at t (path ++ 47 ∷ e.0) ≡ Some e.1) → entry_at (f ∷ t) (path ++ 47 ∷ e.0) ≡ Some e.1
  go None is apart h rest = later (other None is (λ z. none (e.0, f.1) z) (below_named t path e h)) (rest apart h) where
    none : (g : Bytes × Entry) → None ≡ Some g → ⊥
    none g z = cc
  go (Some g) is apart (inl same) rest = here g same (named_is path f.0 f.1 g is)
  go (Some g) is apart (inr h) rest =
      let heads = IsDistinct-head same_name g.0 (names (entries_below t path)) apart in
      let differ : same_name g.0 e.0 ≡ false = each_in (λ m. same_name g.0 m ≡ false) (names (entries_below t path)) e.0 heads (in_map (λ (x : Bytes × Entry). x.0) (entries_below t path) e h) in
      later (other (Some g) is (λ z. unlike g z differ) (below_named t path e h)) (rest (IsDistinct-tail same_name g.0 (names (entries_below t path)) apart) h)
    where
      unlike : (g : Bytes × Entry) → Some g ≡ Some (e.0, f.1) → same_name g.0 e.0 ≡ false → ⊥
      unlike g z isnt = let is : g ≡ (e.0, f.1) = cc in let name : g.0 ≡ e.0 = ap (λ (x : Bytes × Entry). x.0) is in let yes : same_name g.0 e.0 ≡ true = ap (same_name g.0) (sym name) ∙ same_name-refl g.0 in let z : true ≡ false = sym yes ∙ isnt in cc
