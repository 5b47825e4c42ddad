-- The tree of entries in memory: no text twice, which texts are folders, and what a file holds.
use Rattle.std.proofs.Common.{◌≡◌, ◌⊎◌, ℕ, suc, zero, ◌+◌, ◌<◌, ◌≤◌, Bool, true, false, not, ◌&&◌, ◌||◌, List, [], ◌∷◌, ◌++◌, length, take, drop, map, Option, Some, None, cond, get_or, is_some, refl, ap, sym, ◌∙◌, subst, inl, inr, append_assoc, drop-cons, add-one, eqb, min, arith}
use Rattle.std.specs.List.{AllPairs, Contains, list_any, filter, filter_map, fold, find, cons_option}
use Rattle.std.specs.Option.{option_map}
use Rattle.std.specs.List.Sorted.{IsPermutation}
use Rattle.std.specs.Cmp.Lexicographic.{pointwise}
use Rattle.std.specs.String.{string_bytes}
use Rattle.std.specs.declared.string.String.{String}
use Rattle.std.proofs.lemmas.List.{drop_all, take_all, map-append}
use Rattle.std.proofs.lemmas.Bool.{cases_lt}
use Rattle.folder_store.specs.declared.folders.FolderEntry.{FolderEntry}
use Rattle.std.proofs.lemmas.List.Sorted.{IsPermutation-refl}
use Rattle.std.proofs.lemmas.List.Folds.{list_any-append, list_any_at}
use Rattle.path_tree.specs.Paths.{Bytes, same_name}
use Rattle.path_tree.proofs.CallerLemmas.{same_name-flips, same_name-is, same_name-refl}
use Rattle.folder_store.specs.declared.folders.EntryKind.{EntryKind}
use Rattle.folder_store.specs.Folders.{view_entry, Entry, FolderTree, entry_at, after_prefix, is_name_text, named_by, entries_below, is_folder_at, content_of, IsListed, IsRead, IsFolderTree}
use Rattle.folder_store.specs.Memory.{entries_in, folders_above, ends_in_slash, has_text, with_text, each_once, tree_of, all_apart, AreEntries}
use Rattle.folder_store.specs.Inner.Memory.{files_below, folders_below}
use Rattle.folder_store.proofs.MemoryTexts.{true_or_false, behind_is, behind_some, stands_in, stands_higher}
use Rattle.folder_store.proofs.MemoryLists.{Kept, Entries, view, a_file, a_folder, below, is_file, folder_texts, below-is}

and_first : (a b : Bool) → (a && b) ≡ true → a ≡ true
and_first true b e = refl
and_first false b e = e

and_second : (a b : Bool) → (a && b) ≡ true → b ≡ true
and_second true b e = e
and_second false b e = cc

or_first : (a b : Bool) → (a || b) ≡ false → a ≡ false
or_first true b e = e
or_first false b e = refl

or_second : (a b : Bool) → (a || b) ≡ false → b ≡ false
or_second true b e = cc
or_second false b e = e

not_true : (a : Bool) → not a ≡ true → a ≡ false
not_true true e = cc
not_true false e = refl

-- ---- no text twice

pub any_place : {X : Type 0} (p : X → Bool) (xs : List X) (i : ℕ) (d : X) → list_any p xs ≡ false → i < length xs → p (get_or xs i d) ≡ false
any_place p [] i d e within = absurd (omega arith)
any_place p (x ∷ xs) zero d e within = or_first (p x) (list_any p xs) e
any_place p (x ∷ xs) (suc i) d e within = any_place p xs i d (or_second (p x) (list_any p xs) e) (omega arith)

pub apart-pairs : {X : Type 0} (xs : List (Bytes × X)) → all_apart xs ≡ true → AllPairs (λ e f. same_name e.0 f.0 ≡ false) xs
apart-pairs [] e i j d up within = absurd (omega arith)
apart-pairs (x ∷ xs) e i zero d up within = absurd (omega arith)
apart-pairs (x ∷ xs) e zero (suc j) d up within =
    same_name-flips x.0 (get_or xs j d).0 ∙ any_place (λ f. same_name f.0 x.0) xs j d (not_true (list_any (λ f. same_name f.0 x.0) xs) (and_first (not (list_any (λ f. same_name f.0 x.0) xs)) (all_apart xs) e)) (omega arith)
apart-pairs (x ∷ xs) e (suc i) (suc j) d up within = apart-pairs xs (and_second (not (list_any (λ f. same_name f.0 x.0) xs)) (all_apart xs) e) i j d (omega arith) (omega arith)

-- an entry right below a folder has the folder's text, a slash and its name
below_some : (q : Bytes) (e x : Bytes × Entry) → below q e ≡ Some x → after_prefix q e.0 ≡ Some x.0
below_some q e x f = go (after_prefix q e.0) refl where
  pick : (rest : Bytes) (b : Bool) → after_prefix q e.0 ≡ Some rest → cond {A = Option (Bytes × Entry)} b (Some (rest, e.1)) None ≡ Some x → after_prefix q e.0 ≡ Some x.0
  pick rest true g h = let same : (rest, e.1) ≡ x = cc in g ∙ ap (λ (y : Bytes × Entry). Some y.0) same
  pick rest false g h = cc

  go : (o : Option Bytes) → after_prefix q e.0 ≡ o → after_prefix q e.0 ≡ Some x.0
  go None g = let none : None ≡ Some x = sym (ap (named_by e.1) g) ∙ f in cc
  go (Some rest) g = pick rest (is_name_text rest) g (sym (ap (named_by e.1) g) ∙ f)

other_name : (q : Bytes) (e f x y : Bytes × Entry) → below q e ≡ Some x → below q f ≡ Some y → same_name f.0 e.0 ≡ false → same_name y.0 x.0 ≡ false
other_name q e f x y g h apart = go (true_or_false (same_name y.0 x.0)) where
  go : (same_name y.0 x.0 ≡ true) ⊎ (same_name y.0 x.0 ≡ false) → same_name y.0 x.0 ≡ false
  go (inr isnt) = isnt
  go (inl is) =
      let in_e : e.0 ≡ q ++ x.0 = behind_is q e.0 x.0 (below_some q e x g) in
      let in_f : f.0 ≡ q ++ y.0 = behind_is q f.0 y.0 (below_some q f y h) in
      let one : f.0 ≡ e.0 = in_f ∙ ap (λ r. q ++ r) (same_name-is y.0 x.0 is) ∙ sym in_e in
      let self : same_name f.0 e.0 ≡ true = subst (λ (t : Bytes). same_name f.0 t ≡ true) one (same_name-refl f.0) in
      cc

others_named : (q : Bytes) (e x : Bytes × Entry) (t : FolderTree) → below q e ≡ Some x → list_any (λ f. same_name f.0 e.0) t ≡ false → list_any (λ f. same_name f.0 x.0) (map view (filter_map (below q) t)) ≡ false
others_named q e x [] g apart = refl
others_named q e x (f ∷ fs) g apart = go (below q f) refl (others_named q e x fs g (or_second (same_name f.0 e.0) (list_any (λ f. same_name f.0 e.0) fs) apart)) where
  go : (o : Option (Bytes × Entry)) → below q f ≡ o → list_any (λ f. same_name f.0 x.0) (map view (filter_map (below q) fs)) ≡ false
      → list_any (λ f. same_name f.0 x.0) (map view (cons_option o (filter_map (below q) fs))) ≡ false
  go None h rest = rest
  go (Some y) h rest = rw (other_name q e f x y g h (or_first (same_name f.0 e.0) (list_any (λ f. same_name f.0 e.0) fs) apart)) rest

apart-below : (q : Bytes) (t : FolderTree) → all_apart t ≡ true → all_apart (map view (filter_map (below q) t)) ≡ true
apart-below q [] e = refl
apart-below q (x ∷ xs) e = go (below q x) refl (apart-below q xs (and_second (not (list_any (λ f. same_name f.0 x.0) xs)) (all_apart xs) e)) where
  go : (o : Option (Bytes × Entry)) → below q x ≡ o → all_apart (map view (filter_map (below q) xs)) ≡ true → all_apart (map view (cons_option o (filter_map (below q) xs))) ≡ true
  go None f rest = rest
  go (Some y) f rest = rw (others_named q x y xs f (not_true (list_any (λ f. same_name f.0 x.0) xs) (and_first (not (list_any (λ f. same_name f.0 x.0) xs)) (all_apart xs) e))) rest

-- ---- which texts are folders

has_folder : (texts : List Bytes) (p : Bytes) → is_folder_at (map a_folder texts) p ≡ has_text texts p
has_folder [] p = refl
has_folder (t ∷ ts) p = go (has_folder ts p) (same_name t p) refl where
  go : is_folder_at (map a_folder ts) p ≡ has_text ts p → (b : Bool) → same_name t p ≡ b → is_folder_at (map a_folder (t ∷ ts)) p ≡ has_text (t ∷ ts) p
  go rest true e = rw e refl
  go rest false e = rw e rest

no_file : (files : Entries) (rest : FolderTree) (p : Bytes) → list_any (λ e. same_name e.0 p) files ≡ false → is_folder_at (map a_file files ++ rest) p ≡ is_folder_at rest p
no_file [] rest p e = refl
no_file (f ∷ fs) rest p e = rw (or_first (same_name f.0 p) (list_any (λ e. same_name e.0 p) fs) e) (no_file fs rest p (or_second (same_name f.0 p) (list_any (λ e. same_name e.0 p) fs) e))

a_file_there : (files : Entries) (rest : FolderTree) (p : Bytes) → list_any (λ e. same_name e.0 p) files ≡ true → is_folder_at (map a_file files ++ rest) p ≡ false
a_file_there [] rest p e = cc
a_file_there (f ∷ fs) rest p e = go (a_file_there fs rest p) (same_name f.0 p) refl e where
  go : (list_any (λ e. same_name e.0 p) fs ≡ true → is_folder_at (map a_file fs ++ rest) p ≡ false) → (b : Bool) → same_name f.0 p ≡ b → (b || list_any (λ e. same_name e.0 p) fs) ≡ true → is_folder_at (map a_file (f ∷ fs) ++ rest) p ≡ false
  go deeper true g h = rw g refl
  go deeper false g h = rw g (deeper h)

among_folders : (texts : List Bytes) (p : Bytes) → list_any (λ f. same_name f.0 p) (map a_folder texts) ≡ has_text texts p
among_folders [] p = refl
among_folders (t ∷ ts) p = ap (λ b. same_name t p || b) (among_folders ts p)

no_folder_there : (files : Entries) (texts : List Bytes) (p : Bytes) → all_apart (map a_file files ++ map a_folder texts) ≡ true → list_any (λ e. same_name e.0 p) files ≡ true → has_text texts p ≡ false
no_folder_there [] texts p apart e = cc
no_folder_there (f ∷ fs) texts p apart e = go (no_folder_there fs texts p (and_second (not (list_any (λ g. same_name g.0 f.0) (map a_file fs ++ map a_folder texts))) (all_apart (map a_file fs ++ map a_folder texts)) apart)) (same_name f.0 p) refl e where
  others : list_any (λ g. same_name g.0 f.0) (map a_file fs ++ map a_folder texts) ≡ false
  others = not_true (list_any (λ g. same_name g.0 f.0) (map a_file fs ++ map a_folder texts)) (and_first (not (list_any (λ g. same_name g.0 f.0) (map a_file fs ++ map a_folder texts))) (all_apart (map a_file fs ++ map a_folder texts)) apart)

  no_folder : has_text texts f.0 ≡ false
  no_folder = sym (among_folders texts f.0) ∙ or_second (list_any (λ g. same_name g.0 f.0) (map a_file fs)) (list_any (λ g. same_name g.0 f.0) (map a_folder texts)) (sym (list_any-append (λ g. same_name g.0 f.0) (map a_file fs) (map a_folder texts)) ∙ others)

  go : (list_any (λ e. same_name e.0 p) fs ≡ true → has_text texts p ≡ false) → (b : Bool) → same_name f.0 p ≡ b → (b || list_any (λ e. same_name e.0 p) fs) ≡ true → has_text texts p ≡ false
  go deeper true g h = subst (λ (x : Bytes). has_text texts x ≡ false) (same_name-is f.0 p g) no_folder
  go deeper false g h = deeper h

has_text-append : (xs ys : List Bytes) (p : Bytes) → has_text (xs ++ ys) p ≡ (has_text xs p || has_text ys p)
has_text-append xs ys p = list_any-append (λ t. same_name t p) xs ys

or_false : (b : Bool) → (b || false) ≡ b
or_false true = refl
or_false false = refl

or_assoc : (a b c : Bool) → ((a || b) || c) ≡ (a || (b || c))
or_assoc true b c = refl
or_assoc false b c = refl

-- whether a text is there already or is the one put in
has_text-with : (texts : List Bytes) (t p : Bytes) → has_text (with_text texts t) p ≡ (has_text texts p || same_name t p)
has_text-with texts t p = go (has_text texts t) refl where
  absorbed : (b : Bool) → same_name t p ≡ b → has_text texts t ≡ true → has_text texts p ≡ (has_text texts p || b)
  absorbed false e f = sym (or_false (has_text texts p))
  absorbed true e f = let there : has_text texts p ≡ true = subst (λ (x : Bytes). has_text texts x ≡ true) (same_name-is t p e) f in rw there refl

  go : (b : Bool) → has_text texts t ≡ b → has_text (with_text texts t) p ≡ (has_text texts p || same_name t p)
  go true e = rw e (absorbed (same_name t p) refl e)
  go false e = rw e (has_text-append texts (t ∷ []) p ∙ ap (λ b. has_text texts p || b) (or_false (same_name t p)))

has_text-once : (texts xs : List Bytes) (p : Bytes) → has_text (fold with_text texts xs) p ≡ (has_text texts p || has_text xs p)
has_text-once texts [] p = sym (or_false (has_text texts p))
has_text-once texts (x ∷ xs) p = has_text-once (with_text texts x) xs p ∙ ap (λ b. b || has_text xs p) (has_text-with texts x p) ∙ or_assoc (has_text texts p) (same_name x p) (has_text xs p)

-- whether an entry is a folder or stands in it
abbrev pub holds : Bytes → Entries → Bool
holds p entries = list_any (λ e. is_some (after_prefix (p ++ 47 ∷ []) e.0)) entries

has_text-entries : (es : Entries) (p : Bytes) → has_text (folder_texts es) p ≡ holds p es
has_text-entries [] p = refl
has_text-entries (e ∷ es) p =
    has_text-append (folders_above e.0) (folder_texts es) p
    ∙ ap (λ b. b || has_text (folder_texts es) p) (stands_in p e.0) ∙ ap (λ b. is_some (after_prefix (p ++ 47 ∷ []) e.0) || b) (has_text-entries es p)

pub folder-is : (es : Entries) (p : Bytes) → all_apart (tree_of es) ≡ true → is_folder_at (tree_of es) p ≡ holds p es
folder-is es p apart = go (list_any (λ e. same_name e.0 p) (filter is_file es)) refl ∙ has_text-once [] (folder_texts es) p ∙ has_text-entries es p where
  go : (b : Bool) → list_any (λ e. same_name e.0 p) (filter is_file es) ≡ b → is_folder_at (tree_of es) p ≡ has_text (each_once (folder_texts es)) p
  go true e = a_file_there (filter is_file es) (map a_folder (each_once (folder_texts es))) p e ∙ sym (no_folder_there (filter is_file es) (each_once (folder_texts es)) p apart e)
  go false e = no_file (filter is_file es) (map a_folder (each_once (folder_texts es))) p e ∙ has_folder (each_once (folder_texts es)) p

-- ---- a listing

pub is-listed : (es : Entries) (path : Bytes) (out : List (Bytes × EntryKind)) → all_apart (tree_of es) ≡ true → holds path es ≡ true → out ≡ files_below path es ++ folders_below path es → IsListed (tree_of es) path out
is-listed es path out apart there e =
    let same : out ≡ map view (entries_below (tree_of es) path) = e ∙ sym (below-is path es) in
    record {
      folder = folder-is es path apart ∙ there;
      distinct = apart-pairs out (ap all_apart same ∙ apart-below (path ++ 47 ∷ []) (tree_of es) apart);
      entries = subst (λ (xs : List (Bytes × EntryKind)). IsPermutation out xs) same (IsPermutation-refl out);
    }

-- ---- the law of trees

-- some entry of the tree has this text
there_is : {X : Type 0} (t : List (Bytes × X)) (s : Bytes) (x : X) → Contains t (s, x) → list_any (λ e. same_name e.0 s) t ≡ true
there_is t s x h = list_any_at (λ e. same_name e.0 s) t h.0 (s, x) h.1 (rw h.2 (same_name-refl s))

files_there : (es : Entries) (s : Bytes) → list_any (λ e. same_name e.0 s) (map a_file (filter is_file es)) ≡ true → list_any (λ e. same_name e.0 s) es ≡ true
files_there [] s h = cc
files_there (e ∷ es) s h = go (files_there es s) (is_file e) refl h where
  kept : (b : Bool) → (list_any (λ e. same_name e.0 s) (map a_file (filter is_file es)) ≡ true → list_any (λ e. same_name e.0 s) es ≡ true) → (b || list_any (λ e. same_name e.0 s) (map a_file (filter is_file es))) ≡ true → (b || list_any (λ e. same_name e.0 s) es) ≡ true
  kept true deeper g = refl
  kept false deeper g = deeper g

  more : (b : Bool) → list_any (λ e. same_name e.0 s) es ≡ true → (b || list_any (λ e. same_name e.0 s) es) ≡ true
  more true g = refl
  more false g = g

  go : (list_any (λ e. same_name e.0 s) (map a_file (filter is_file es)) ≡ true → list_any (λ e. same_name e.0 s) es ≡ true) → (b : Bool) → is_file e ≡ b
      → list_any (λ e. same_name e.0 s) (map a_file (cond b (e ∷ filter is_file es) (filter is_file es))) ≡ true → list_any (λ e. same_name e.0 s) (e ∷ es) ≡ true
  go deeper true f g = kept (same_name e.0 s) deeper g
  go deeper false f g = more (same_name e.0 s) (deeper g)

-- an entry of this text, or one below it, stands in the folder
or_any : {X : Type 0} (p q : X → Bool) → ((x : X) → p x ≡ true → q x ≡ true) → (xs : List X) → list_any p xs ≡ true → list_any q xs ≡ true
or_any p q f [] h = cc
or_any p q f (x ∷ xs) h = go (p x) (q x) refl refl (or_any p q f xs) h where
  go : (a b : Bool) → p x ≡ a → q x ≡ b → (list_any p xs ≡ true → list_any q xs ≡ true) → (a || list_any p xs) ≡ true → (q x || list_any q xs) ≡ true
  go a true e g deeper h = rw g refl
  go true false e g deeper h = let both = f x e in cc
  go false false e g deeper h = rw g (deeper h)

in_folder : (folder name s : Bytes) → same_name s (folder ++ 47 ∷ name) ≡ true → is_some (after_prefix (folder ++ 47 ∷ []) s) ≡ true
in_folder folder name s e = ap is_some (behind_some (folder ++ 47 ∷ []) s name (same_name-is s (folder ++ 47 ∷ name) e ∙ simp append_assoc))

pub inside : (es : Entries) (folder name : Bytes) → list_any (λ e. same_name e.0 (folder ++ 47 ∷ name)) (tree_of es) ≡ true → holds folder es ≡ true
inside es folder name h = go (true_or_false (list_any (λ e. same_name e.0 (folder ++ 47 ∷ name)) (map a_file (filter is_file es)))) where
  go : (list_any (λ e. same_name e.0 (folder ++ 47 ∷ name)) (map a_file (filter is_file es)) ≡ true) ⊎ (list_any (λ e. same_name e.0 (folder ++ 47 ∷ name)) (map a_file (filter is_file es)) ≡ false) → holds folder es ≡ true
  go (inl is) = or_any (λ (e : Bytes × Bytes). same_name e.0 (folder ++ 47 ∷ name)) (λ e. is_some (after_prefix (folder ++ 47 ∷ []) e.0)) (λ e. in_folder folder name e.0) es (files_there es (folder ++ 47 ∷ name) is)
  go (inr isnt) =
      let split = list_any-append (λ (e : Bytes × Entry). same_name e.0 (folder ++ 47 ∷ name)) (map a_file (filter is_file es)) (map a_folder (each_once (folder_texts es))) in
      let among : list_any (λ e. same_name e.0 (folder ++ 47 ∷ name)) (map a_folder (each_once (folder_texts es))) ≡ true = sym (ap (λ b. b || list_any (λ e. same_name e.0 (folder ++ 47 ∷ name)) (map a_folder (each_once (folder_texts es)))) isnt) ∙ sym split ∙ h in
      let folders : holds (folder ++ 47 ∷ name) es ≡ true = sym (has_text-entries es (folder ++ 47 ∷ name)) ∙ sym (has_text-once [] (folder_texts es) (folder ++ 47 ∷ name)) ∙ sym (among_folders (each_once (folder_texts es)) (folder ++ 47 ∷ name)) ∙ among in
      or_any (λ (e : Bytes × Bytes). is_some (after_prefix ((folder ++ 47 ∷ name) ++ 47 ∷ []) e.0)) (λ e. is_some (after_prefix (folder ++ 47 ∷ []) e.0)) (λ e. stands_higher folder name e.0) es folders

-- the tree of entries is one in which everything stands in a folder
pub is-tree : (es : Entries) → AreEntries es → IsFolderTree (tree_of es)
is-tree es apart = record {
  distinct = apart-pairs (tree_of es) apart;
  inside = λ folder name entry there _. folder-is es folder apart ∙ inside es folder name (there_is (tree_of es) (folder ++ 47 ∷ name) entry there);
}

-- ---- what a file holds

no_content : (texts : List Bytes) (p : Bytes) → content_of (entry_at (map a_folder texts) p) ≡ None
no_content [] p = refl
no_content (t ∷ ts) p = go (no_content ts p) (same_name t p) refl where
  go : content_of (entry_at (map a_folder ts) p) ≡ None → (b : Bool) → same_name t p ≡ b → content_of (entry_at (map a_folder (t ∷ ts)) p) ≡ None
  go rest true e = rw e refl
  go rest false e = rw e rest

-- the bytes of the entry of a text
abbrev pub bytes_at : Bytes → Entries → Option Bytes
bytes_at p entries = option_map (λ e. e.1) (find (λ e. same_name e.0 p) entries)

no_file_text : (es : Entries) (texts : List Bytes) (p : Bytes) → ends_in_slash p ≡ true → content_of (entry_at (map a_file (filter is_file es) ++ map a_folder texts) p) ≡ None
no_file_text [] texts p slash = no_content texts p
no_file_text (e ∷ es) texts p slash = go (no_file_text es texts p slash) (ends_in_slash e.0) (same_name e.0 p) refl refl where
  go : content_of (entry_at (map a_file (filter is_file es) ++ map a_folder texts) p) ≡ None → (a b : Bool) → ends_in_slash e.0 ≡ a → same_name e.0 p ≡ b
      → content_of (entry_at (map a_file (filter is_file (e ∷ es)) ++ map a_folder texts) p) ≡ None
  go rest true b f g = rw f rest
  go rest false true f g = let both : ends_in_slash e.0 ≡ true = ap ends_in_slash (same_name-is e.0 p g) ∙ slash in cc
  go rest false false f g = rw (f, g) rest

file_text : (es : Entries) (texts : List Bytes) (p : Bytes) → ends_in_slash p ≡ false → content_of (entry_at (map a_file (filter is_file es) ++ map a_folder texts) p) ≡ bytes_at p es
file_text [] texts p slash = no_content texts p
file_text (e ∷ es) texts p slash = go (file_text es texts p slash) (ends_in_slash e.0) (same_name e.0 p) refl refl where
  go : content_of (entry_at (map a_file (filter is_file es) ++ map a_folder texts) p) ≡ bytes_at p es → (a b : Bool) → ends_in_slash e.0 ≡ a → same_name e.0 p ≡ b
      → content_of (entry_at (map a_file (filter is_file (e ∷ es)) ++ map a_folder texts) p) ≡ bytes_at p (e ∷ es)
  go rest true true f g = let both : ends_in_slash e.0 ≡ false = ap ends_in_slash (same_name-is e.0 p g) ∙ slash in cc
  go rest true false f g = rw (f, g) rest
  go rest false true f g = rw (f, g) refl
  go rest false false f g = rw (f, g) rest

pub content-none : (es : Entries) (p : Bytes) → ends_in_slash p ≡ true → content_of (entry_at (tree_of es) p) ≡ None
content-none es p slash = no_file_text es (each_once (folder_texts es)) p slash

pub content-is : (es : Entries) (p : Bytes) → ends_in_slash p ≡ false → content_of (entry_at (tree_of es) p) ≡ bytes_at p es
content-is es p slash = file_text es (each_once (folder_texts es)) p slash

-- ---- the loop that looks for a file

pub bytes-drop : {Z : Type 0} (p : Bytes) (xs : Kept Z) (i : ℕ) (x : String Z × Bytes) → i < length xs → x ≡ get_or xs i x
    → bytes_at p (entries_in (drop i xs)) ≡ cond (same_name (string_bytes x.0) p) (Some x.1) (bytes_at p (entries_in (drop (i + 1) xs)))
bytes-drop p xs i x within is = rw (drop-cons xs i x, ← is, add-one) (go (same_name (string_bytes x.0) p) refl) where
  go : (b : Bool) → same_name (string_bytes x.0) p ≡ b → option_map (λ e. e.1) (cond b (Some (string_bytes x.0, x.1)) (find (λ e. same_name e.0 p) (entries_in (drop (suc i) xs)))) ≡ cond b (Some x.1) (bytes_at p (entries_in (drop (suc i) xs)))
  go true e = refl
  go false e = refl

pub bytes-next : {Z : Type 0} (p : Bytes) (xs : Kept Z) (i : ℕ) (x : String Z × Bytes) → i < length xs → x ≡ get_or xs i x → pointwise eqb (string_bytes x.0) p ≡ false
    → bytes_at p (entries_in (drop i xs)) ≡ bytes_at p (entries_in (drop (i + 1) xs))
bytes-next p xs i x within is other = bytes-drop p xs i x within is ∙ rw other refl

pub bytes-here : {Z : Type 0} (p : Bytes) (xs : Kept Z) (i : ℕ) (x : String Z × Bytes) → i < length xs → x ≡ get_or xs i x → pointwise eqb (string_bytes x.0) p ≡ true
    → bytes_at p (entries_in (drop i xs)) ≡ Some x.1
bytes-here p xs i x within is same = bytes-drop p xs i x within is ∙ rw same refl

pub bytes-end : {Z : Type 0} (p : Bytes) (xs : Kept Z) (i : ℕ) → length xs ≤ i → bytes_at p (entries_in (drop i xs)) ≡ None
bytes-end p xs i past = rw (drop_all i xs past) refl

-- ---- what the calls answer

pub listed-whole : (es : Entries) (path : Bytes) (files folders out : List FolderEntry) → all_apart (tree_of es) ≡ true → is_folder_at (tree_of es) path ≡ true
    → map view_entry files ≡ files_below path es → map view_entry folders ≡ folders_below path es → out ≡ files ++ folders → IsListed (tree_of es) path (map view_entry out)
listed-whole es path files folders out apart there e f g =
    is-listed es path (map view_entry out) apart (sym (folder-is es path apart) ∙ there)
    (ap (λ xs. map view_entry xs) g ∙ map-append view_entry files folders ∙ ap (λ xs. xs ++ map view_entry folders) e ∙ ap (λ xs. files_below path es ++ xs) f)

read-front : (most : ℕ) (content : Bytes) → take (min most (length content)) content ≡ take most content
read-front most content = go (cases_lt most (length content)) where
  go : (most < length content) ⊎ (length content ≤ most) → take (min most (length content)) content ≡ take most content
  go (inl short) = let e : min most (length content) ≡ most = omega arith in rw e refl
  go (inr long) = let e : min most (length content) ≡ length content = omega arith in rw e (take_all (length content) content (omega arith) ∙ sym (take_all most content long))

pub is-read : (t u : FolderTree) (path : Bytes) (most : ℕ) (content bytes : Bytes) → Some content ≡ content_of (entry_at t path) → bytes ≡ take (min most (length content)) content → Some t ≡ Some u → IsRead u path most bytes
is-read t u path most content bytes there front e =
    let same : t ≡ u = cc in
    subst (λ (x : FolderTree). IsRead x path most bytes) same (record { content = content; file = sym there; front = front ∙ read-front most content })
