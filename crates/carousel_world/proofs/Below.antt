-- A name in a folder's listing leads to a file or a folder.
use Rattle.std.proofs.Common.{◌≡◌, Bool, true, false, ◌||◌, List, [], ◌∷◌, ◌++◌, Option, Some, None, refl, ap, sym, ◌∙◌, subst}
use Rattle.std.specs.List.{list_any, filter_map, dedup, dedup_from}
use Rattle.path_tree.specs.Paths.{Bytes, PathNames, same_name, same_path, is_below, next_name}
use Rattle.path_tree.specs.Trees.{Tree, Node, File, Folder, NoSuch, node_at, content_at, entry_at, file_in, is_folder, is_kept, leads_on, names_below}
use Rattle.path_tree.specs.declared.entry.Entry.{Entry}
use Rattle.path_tree.specs.declared.entry.Entry.TheVariants as entries

-- ---- tests

or_widen : (a b c : Bool) → (a || c) ≡ true → (a || (b || c)) ≡ true
or_widen true b c e = refl
or_widen false true c e = refl
or_widen false false c e = e

or_then : (a b c : Bool) → (a || b) ≡ true → (b ≡ true → c ≡ true) → (a || c) ≡ true
or_then true b c e next = refl
or_then false b c e next = next e

-- ---- names

-- a name is there, and is this one
abbrev pub is_named : Bytes → Option Bytes → Bool
is_named n (Some k) = same_name n k
is_named n None = false

in_dedup_from : (n k : Bytes) (xs : List Bytes) → list_any (same_name n) (dedup_from same_name k xs) ≡ true → (same_name n k || list_any (same_name n) xs) ≡ true
in_dedup_from n k [] e = e
in_dedup_from n k (x ∷ xs) e = go (same_name x k) refl (λ h. in_dedup_from n k xs h) (λ h. in_dedup_from n x xs h) where
  go : (t : Bool) → same_name x k ≡ t → (list_any (same_name n) (dedup_from same_name k xs) ≡ true → (same_name n k || list_any (same_name n) xs) ≡ true)
      → (list_any (same_name n) (dedup_from same_name x xs) ≡ true → (same_name n x || list_any (same_name n) xs) ≡ true)
      → (same_name n k || (same_name n x || list_any (same_name n) xs)) ≡ true
  go true h first second = or_widen (same_name n k) (same_name n x) (list_any (same_name n) xs) (first (rw h at e))
  go false h first second = or_then (same_name n k) (list_any (same_name n) (dedup_from same_name x xs)) (same_name n x || list_any (same_name n) xs) (rw h at e) second

in_dedup : (n : Bytes) (xs : List Bytes) → list_any (same_name n) (dedup same_name xs) ≡ true → list_any (same_name n) xs ≡ true
in_dedup n [] e = e
in_dedup n (x ∷ xs) e = in_dedup_from n x xs e

in_next : (p : PathNames) (n : Bytes) (es : Tree) → list_any (same_name n) (filter_map (λ e. next_name p e.0) es) ≡ true → list_any (λ e. is_named n (next_name p e.0)) es ≡ true
in_next p n [] e = e
in_next p n (x ∷ xs) e = go (next_name p x.0) refl (λ h. in_next p n xs h) where
  go : (k : Option Bytes) → next_name p x.0 ≡ k → (list_any (same_name n) (filter_map (λ e. next_name p e.0) xs) ≡ true → list_any (λ e. is_named n (next_name p e.0)) xs ≡ true)
      → list_any (λ e. is_named n (next_name p e.0)) (x ∷ xs) ≡ true
  go None h rest = rw h (rest (rw h at e))
  go (Some k) h rest = rw h (or_then (same_name n k) (list_any (same_name n) (filter_map (λ e. next_name p e.0) xs)) (list_any (λ e. is_named n (next_name p e.0)) xs) (rw h at e) rest)

-- ---- paths

-- at a path, or below it
abbrev pub is_at_or_below : PathNames → PathNames → Bool
is_at_or_below p q = same_path p q || is_below p q

next_stands : (p q : PathNames) (n : Bytes) → is_named n (next_name p q) ≡ true → is_at_or_below (p ++ n ∷ []) q ≡ true
next_stands [] [] n e = cc
next_stands [] (k ∷ []) n e = rw e refl
next_stands [] (k ∷ j ∷ js) n e = rw e refl
next_stands (m ∷ ms) [] n e = cc
next_stands (m ∷ ms) (k ∷ ks) n e = go (same_name m k) refl (λ h. next_stands ms ks n h) where
  go : (t : Bool) → same_name m k ≡ t → (is_named n (next_name ms ks) ≡ true → is_at_or_below (ms ++ n ∷ []) ks ≡ true) → is_at_or_below (m ∷ (ms ++ n ∷ [])) (k ∷ ks) ≡ true
  go true h rest = rw h (rest (rw h at e))
  go false h rest = let bad = rw h at e in cc

any_stands : (p : PathNames) (n : Bytes) (es : Tree) → list_any (λ e. is_named n (next_name p e.0)) es ≡ true → list_any (λ e. is_at_or_below (p ++ n ∷ []) e.0) es ≡ true
any_stands p n [] e = e
any_stands p n (x ∷ xs) e = go (is_named n (next_name p x.0)) refl (λ h. any_stands p n xs h) where
  go : (t : Bool) → is_named n (next_name p x.0) ≡ t → (list_any (λ e. is_named n (next_name p e.0)) xs ≡ true → list_any (λ e. is_at_or_below (p ++ n ∷ []) e.0) xs ≡ true)
      → (is_at_or_below (p ++ n ∷ []) x.0 || list_any (λ e. is_at_or_below (p ++ n ∷ []) e.0) xs) ≡ true
  go true h rest = rw (next_stands p x.0 n h) refl
  go false h rest = or_right (is_at_or_below (p ++ n ∷ []) x.0) _ (rest (rw h at e)) where
    or_right : (a b : Bool) → b ≡ true → (a || b) ≡ true
    or_right true b h = refl
    or_right false b h = h

no_file : (e : Entry) → file_in (Some e) ≡ None → is_kept (Some e) ≡ true
no_file (entries.File b) h = cc
no_file entries.Folder h = refl

left_then : (k b l a : Bool) → (b || a) ≡ true → (a ≡ true → (k || l) ≡ true) → (k || (b || l)) ≡ true
left_then true b l a e next = refl
left_then false true l a e next = refl
left_then false false l a e next = next e

-- where something stands at a path or below it, and no file at it, a folder is kept there, or the path leads on
folder_there : (q : PathNames) (es : Tree) → content_at es q ≡ None → list_any (λ e. is_at_or_below q e.0) es ≡ true → (is_kept (entry_at es q) || leads_on es q) ≡ true
folder_there q [] c e = e
folder_there q (x ∷ xs) c e = go (same_path q x.0) refl (λ d h. folder_there q xs d h) where
  go : (t : Bool) → same_path q x.0 ≡ t → (content_at xs q ≡ None → list_any (λ e. is_at_or_below q e.0) xs ≡ true → (is_kept (entry_at xs q) || leads_on xs q) ≡ true)
      → (is_kept (entry_at (x ∷ xs) q) || (is_below q x.0 || leads_on xs q)) ≡ true
  go true h rest =
      let here : entry_at (x ∷ xs) q ≡ Some x.1 = rw h refl in
      let kept : is_kept (entry_at (x ∷ xs) q) ≡ true = ap is_kept here ∙ no_file x.1 (sym (ap file_in here) ∙ c) in
      rw kept refl
  go false h rest =
      let later : entry_at (x ∷ xs) q ≡ entry_at xs q = rw h refl in
      let d : content_at xs q ≡ None = sym (ap file_in later) ∙ c in
      ap (λ o. is_kept o || (is_below q x.0 || leads_on xs q)) later
      ∙ left_then (is_kept (entry_at xs q)) (is_below q x.0) (leads_on xs q) (list_any (λ e. is_at_or_below q e.0) xs) (rw h at e) (rest d)

-- ---- nodes

folder_is : (t : Tree) (p : PathNames) (n : Bytes) → is_folder t (p ++ n ∷ []) ≡ (is_kept (entry_at t (p ++ n ∷ [])) || leads_on t (p ++ n ∷ []))
folder_is t [] n = refl
folder_is t (m ∷ ms) n = refl

node_file : (t : Tree) (q : PathNames) (b : Bytes) → content_at t q ≡ Some b → node_at t q ≡ File b
node_file t q b e = rw e refl

node_folder : (t : Tree) (q : PathNames) → content_at t q ≡ None → is_folder t q ≡ true → node_at t q ≡ Folder (names_below t q)
node_folder t q e f = rw (e, f) refl

node_none : (t : Tree) (q : PathNames) → content_at t q ≡ None → is_folder t q ≡ false → node_at t q ≡ NoSuch
node_none t q e f = rw (e, f) refl

same_names : (a b : List Bytes) → Folder a ≡ Folder b → a ≡ b
same_names a b e = cc

-- a folder's names are those that the entries below it have next
listing : (t : Tree) (p : PathNames) (names : List Bytes) → node_at t p ≡ Folder names → names_below t p ≡ names
listing t p names e = go (content_at t p) refl where
  go : (b : Option Bytes) → content_at t p ≡ b → names_below t p ≡ names
  go (Some b) h = let bad = sym (node_file t p b h) ∙ e in cc
  go None h = at_folder (is_folder t p) refl where
    at_folder : (u : Bool) → is_folder t p ≡ u → names_below t p ≡ names
    at_folder true f = same_names (names_below t p) names (sym (node_folder t p h f) ∙ e)
    at_folder false f = let bad = sym (node_none t p h f) ∙ e in cc

stands : (t : Tree) (p : PathNames) (n : Bytes) → list_any (λ e. is_at_or_below (p ++ n ∷ []) e.0) t ≡ true → node_at t (p ++ n ∷ []) ≡ NoSuch → ⊥
stands t p n e none = go (content_at t (p ++ n ∷ [])) refl where
  go : (b : Option Bytes) → content_at t (p ++ n ∷ []) ≡ b → ⊥
  go (Some b) h = let bad = sym (node_file t (p ++ n ∷ []) b h) ∙ none in cc
  go None h =
      let folder = folder_is t p n ∙ folder_there (p ++ n ∷ []) t h e in
      let bad = sym (node_folder t (p ++ n ∷ []) h folder) ∙ none in cc

-- each name of a listing leads to something
abbrev pub IsClosed : (PathNames → Node) → Type 0
IsClosed node = (p : PathNames) (names : List Bytes) (n : Bytes) → node p ≡ Folder names → list_any (same_name n) names ≡ true → node (p ++ n ∷ []) ≡ NoSuch → ⊥

pub tree_closed : (t : Tree) → IsClosed (node_at t)
tree_closed t p names n e has none =
    let is : list_any (same_name n) (names_below t p) ≡ true = subst (λ ns. list_any (same_name n) ns ≡ true) (sym (listing t p names e)) has in
    stands t p n (any_stands p n t (in_next p n t (in_dedup n (filter_map (λ e. next_name p e.0) t) is))) none

-- the root is there
pub root_there : (t : Tree) → node_at t [] ≡ NoSuch → ⊥
root_there t none = go (content_at t []) refl where
  go : (b : Option Bytes) → content_at t [] ≡ b → ⊥
  go (Some b) h = let bad = sym (node_file t [] b h) ∙ none in cc
  go None h = let bad = sym (node_folder t [] h refl) ∙ none in cc
