-- Lists of texts each once, and what is listed of a tree's entries.
use Rattle.std.proofs.Common.{◌≡◌, ◌⊎◌, ℕ, ◌+◌, ◌<◌, Bool, true, false, not, ◌||◌, eqb, List, [], ◌∷◌, ◌++◌, length, take, map, Option, Some, None, cond, get_or, refl, ap, sym, ◌∙◌, subst, inl, inr, append-nil}
use Rattle.std.specs.List.{list_any, filter, filter_map, flat_map, fold, cons_option}
use Rattle.std.specs.Option.{option_to_list, option_map}
use Rattle.std.specs.Cmp.Lexicographic.{pointwise}
use Rattle.std.specs.String.{string_bytes}
use Rattle.std.specs.declared.string.String.{String}
use Rattle.std.proofs.lemmas.List.{map-append, take_more}
use Rattle.std.proofs.lemmas.List.Elements.{filter_map-append}
use Rattle.path_tree.specs.Paths.{Bytes, same_name}
use Rattle.path_tree.proofs.CallerLemmas.{same_name-is, same_name-refl}
use Rattle.folder_store.specs.declared.folders.EntryKind.{EntryKind}
use Rattle.folder_store.specs.declared.folders.EntryKind.TheVariants as kinds
use Rattle.folder_store.specs.declared.folders.FolderEntry.{FolderEntry}
use Rattle.folder_store.specs.Folders.{view_entry, Entry, AFile, AFolder, after_prefix, is_name_text, named_by, kind_of, entries_below}
use Rattle.folder_store.specs.Memory.{entries_in, folders_above, ends_in_slash, has_text, with_text, each_once, tree_of}
use Rattle.folder_store.specs.Inner.Memory.{file_name, folder_name, files_below, folders_below, with_folder, with_folder_of}
use Rattle.folder_store.proofs.MemoryTexts.{true_or_false, behind_is, name_behind, folder_right_below}

fold-append : {A B : Type 0} (f : B → A → B) (a : B) (xs ys : List A) → fold f a (xs ++ ys) ≡ fold f (fold f a xs) ys
fold-append f a [] ys = refl
fold-append f a (x ∷ xs) ys = fold-append f (f a x) xs ys

-- ---- texts after a prefix, each once

-- a name after the prefix is the text without it
pub named : (q s n : Bytes) → name_behind q s ≡ Some n → after_prefix q s ≡ Some n
named q s n e = go (after_prefix q s) refl where
  pick : (rest : Bytes) (b : Bool) → after_prefix q s ≡ Some rest → cond b (Some rest) None ≡ Some n → after_prefix q s ≡ Some n
  pick rest true f g = f ∙ g
  pick rest false f g = cc

  go : (o : Option Bytes) → after_prefix q s ≡ o → after_prefix q s ≡ Some n
  go None f = let none : None ≡ Some n = sym (ap file_name f) ∙ e in cc
  go (Some rest) f = pick rest (is_name_text rest) f (sym (ap file_name f) ∙ e)

same-names : (q s t m n : Bytes) → name_behind q s ≡ Some m → name_behind q t ≡ Some n → same_name s t ≡ same_name m n
same-names q s t m n e f = go (true_or_false (same_name s t)) (true_or_false (same_name m n)) where
  in_s : s ≡ q ++ m
  in_s = behind_is q s m (named q s m e)

  in_t : t ≡ q ++ n
  in_t = behind_is q t n (named q t n f)

  go : (same_name s t ≡ true) ⊎ (same_name s t ≡ false) → (same_name m n ≡ true) ⊎ (same_name m n ≡ false) → same_name s t ≡ same_name m n
  go (inl a) (inl b) = a ∙ sym b
  go (inr a) (inr b) = a ∙ sym b
  go (inl a) (inr b) =
      let one : s ≡ t = same_name-is s t a in
      let both : Some m ≡ Some n = sym e ∙ ap (name_behind q) one ∙ f in
      let same : m ≡ n = cc in
      let self : same_name m n ≡ true = subst (λ (x : Bytes). same_name m x ≡ true) same (same_name-refl m) in
      cc
  go (inr a) (inl b) =
      let same : m ≡ n = same_name-is m n b in
      let one : s ≡ t = in_s ∙ ap (λ r. q ++ r) same ∙ sym in_t in
      let self : same_name s t ≡ true = subst (λ (x : Bytes). same_name s x ≡ true) one (same_name-refl s) in
      cc

has_text-named : (q s n : Bytes) (texts : List Bytes) → name_behind q s ≡ Some n → has_text (filter_map (name_behind q) texts) n ≡ has_text texts s
has_text-named q s n [] e = refl
has_text-named q s n (t ∷ ts) e = go (name_behind q t) refl (has_text-named q s n ts e) where
  go : (o : Option Bytes) → name_behind q t ≡ o → has_text (filter_map (name_behind q) ts) n ≡ has_text ts s → has_text (filter_map (name_behind q) (t ∷ ts)) n ≡ has_text (t ∷ ts) s
  go None f rest = other (true_or_false (same_name t s)) where
    other : (same_name t s ≡ true) ⊎ (same_name t s ≡ false) → has_text (filter_map (name_behind q) (t ∷ ts)) n ≡ has_text (t ∷ ts) s
    other (inl is) = let both : None ≡ Some n = sym f ∙ ap (name_behind q) (same_name-is t s is) ∙ e in cc
    other (inr isnt) = rw (f, isnt) rest
  go (Some m) f rest = rw f (ap (λ b. b || has_text (filter_map (name_behind q) ts) n) (sym (same-names q t s m n f e)) ∙ ap (λ b. same_name t s || b) rest)

with_text-named : (q s n : Bytes) (texts : List Bytes) → name_behind q s ≡ Some n → filter_map (name_behind q) (with_text texts s) ≡ with_text (filter_map (name_behind q) texts) n
with_text-named q s n texts e = go (has_text texts s) refl where
  go : (b : Bool) → has_text texts s ≡ b → filter_map (name_behind q) (with_text texts s) ≡ with_text (filter_map (name_behind q) texts) n
  go true f = rw (has_text-named q s n texts e, f) refl
  go false f = rw (has_text-named q s n texts e, f) (filter_map-append (name_behind q) texts (s ∷ []) ∙ ap (λ o. filter_map (name_behind q) texts ++ cons_option o []) e)

with_text-unnamed : (q s : Bytes) (texts : List Bytes) → name_behind q s ≡ None → filter_map (name_behind q) (with_text texts s) ≡ filter_map (name_behind q) texts
with_text-unnamed q s texts e = go (has_text texts s) refl where
  go : (b : Bool) → has_text texts s ≡ b → filter_map (name_behind q) (with_text texts s) ≡ filter_map (name_behind q) texts
  go true f = rw f refl
  go false f = rw f (filter_map-append (name_behind q) texts (s ∷ []) ∙ ap (λ o. filter_map (name_behind q) texts ++ cons_option o []) e ∙ simp append-nil)

once-named : (q : Bytes) (texts xs : List Bytes) → filter_map (name_behind q) (fold with_text texts xs) ≡ fold with_text (filter_map (name_behind q) texts) (filter_map (name_behind q) xs)
once-named q texts [] = refl
once-named q texts (x ∷ xs) = once-named q (with_text texts x) xs ∙ go (name_behind q x) refl where
  go : (o : Option Bytes) → name_behind q x ≡ o → fold with_text (filter_map (name_behind q) (with_text texts x)) (filter_map (name_behind q) xs) ≡ fold with_text (filter_map (name_behind q) texts) (filter_map (name_behind q) (x ∷ xs))
  go None e = rw (with_text-unnamed q x texts e, e) refl
  go (Some n) e = rw (with_text-named q x n texts e, e) refl

-- the texts of a tree's folders
abbrev pub folder_texts : List (Bytes × Bytes) → List Bytes
folder_texts entries = flat_map (λ e. folders_above e.0) entries

abbrev with_name : List Bytes → Option Bytes → List Bytes
with_name names None = names
with_name names (Some name) = with_text names name

-- ---- the listing of a tree in memory

abbrev pub Entries : Type 0
Entries = List (Bytes × Bytes)

abbrev names_step : Bytes → List Bytes → Bytes × Bytes → List Bytes
names_step q names e = with_name names (folder_name (after_prefix q e.0))

once-step : (names : List Bytes) (o : Option Bytes) → fold with_text names (option_to_list o) ≡ with_name names o
once-step names None = refl
once-step names (Some n) = refl

names-of-entries : (q : Bytes) (names : List Bytes) (es : Entries) → fold with_text names (filter_map (name_behind q) (folder_texts es)) ≡ fold (names_step q) names es
names-of-entries q names [] = refl
names-of-entries q names (e ∷ es) =
    ap (λ ns. fold with_text names ns) (filter_map-append (name_behind q) (folders_above e.0) (folder_texts es))
    ∙ fold-append with_text names (filter_map (name_behind q) (folders_above e.0)) (filter_map (name_behind q) (folder_texts es))
    ∙ ap (λ ns. fold with_text ns (filter_map (name_behind q) (folder_texts es))) (ap (λ ns. fold with_text names ns) (folder_right_below q e.0) ∙ once-step names (folder_name (after_prefix q e.0)))
    ∙ names-of-entries q (names_step q names e) es

-- a name more among the folders that are listed
abbrev listed : Bytes → Bytes × EntryKind
listed name = (name, kinds.Folder)

is-listed : (names : List Bytes) (n : Bytes) → list_any (λ e. same_name e.0 n) (map listed names) ≡ has_text names n
is-listed [] n = refl
is-listed (m ∷ ms) n = ap (λ b. same_name m n || b) (is-listed ms n)

listed-one : (names : List Bytes) (n : Bytes) → with_folder (map listed names) n ≡ map listed (with_text names n)
listed-one names n = go (has_text names n) refl where
  go : (b : Bool) → has_text names n ≡ b → with_folder (map listed names) n ≡ map listed (with_text names n)
  go true e = rw (is-listed names n, e) refl
  go false e = rw (is-listed names n, e) (sym (map-append listed names (n ∷ [])))

listed-step : (names : List Bytes) (o : Option Bytes) → with_folder_of (map listed names) o ≡ map listed (with_name names o)
listed-step names None = refl
listed-step names (Some n) = listed-one names n

listed-all : (q : Bytes) (names : List Bytes) (es : Entries) → fold (λ out e. with_folder_of out (folder_name (after_prefix q e.0))) (map listed names) es ≡ map listed (fold (names_step q) names es)
listed-all q names [] = refl
listed-all q names (e ∷ es) =
    ap (λ out. fold (λ out e. with_folder_of out (folder_name (after_prefix q e.0))) out es) (listed-step names (folder_name (after_prefix q e.0)))
    ∙ listed-all q (names_step q names e) es

abbrev pub view : Bytes × Entry → Bytes × EntryKind
view e = (e.0, kind_of e.1)

abbrev pub a_file : Bytes × Bytes → Bytes × Entry
a_file e = (e.0, AFile e.1)

abbrev pub a_folder : Bytes → Bytes × Entry
a_folder text = (text, AFolder)

abbrev pub below : Bytes → Bytes × Entry → Option (Bytes × Entry)
below q e = named_by e.1 (after_prefix q e.0)

abbrev pub is_file : Bytes × Bytes → Bool
is_file e = not (ends_in_slash e.0)

view-files : (path : Bytes) (es : Entries) → map view (filter_map (below (path ++ 47 ∷ [])) (map a_file (filter is_file es))) ≡ files_below path es
view-files path [] = refl
view-files path (e ∷ es) = go (view-files path es) (ends_in_slash e.0) refl where
  name : (b : Bool) (text : Bytes) (more : List (Bytes × Entry)) (out : List (Bytes × EntryKind)) → is_name_text text ≡ b → map view more ≡ out
      → map view (cons_option (named_by (AFile e.1) (Some text)) more) ≡ cons_option (option_map (λ n. (n, kinds.File)) (file_name (Some text))) out
  name true text more out f h = rw (f, h) refl
  name false text more out f h = rw f h

  pick : (o : Option Bytes) (more : List (Bytes × Entry)) (out : List (Bytes × EntryKind)) → map view more ≡ out
      → map view (cons_option (named_by (AFile e.1) o) more) ≡ cons_option (option_map (λ n. (n, kinds.File)) (file_name o)) out
  pick None more out h = h
  pick (Some text) more out h = name (is_name_text text) text more out refl h

  go : map view (filter_map (below (path ++ 47 ∷ [])) (map a_file (filter is_file es))) ≡ files_below path es → (b : Bool) → ends_in_slash e.0 ≡ b
      → map view (filter_map (below (path ++ 47 ∷ [])) (map a_file (filter is_file (e ∷ es)))) ≡ files_below path (e ∷ es)
  go h true f = rw f h
  go h false f = rw f (pick (after_prefix (path ++ 47 ∷ []) e.0) (filter_map (below (path ++ 47 ∷ [])) (map a_file (filter is_file es))) (files_below path es) h)

view-folders : (q : Bytes) (texts : List Bytes) → map view (filter_map (below q) (map a_folder texts)) ≡ map listed (filter_map (name_behind q) texts)
view-folders q [] = refl
view-folders q (t ∷ ts) = pick (after_prefix q t) (filter_map (below q) (map a_folder ts)) (filter_map (name_behind q) ts) (view-folders q ts) where
  name : (b : Bool) (text : Bytes) (more : List (Bytes × Entry)) (out : List Bytes) → is_name_text text ≡ b → map view more ≡ map listed out
      → map view (cons_option (named_by AFolder (Some text)) more) ≡ map listed (cons_option (file_name (Some text)) out)
  name true text more out f h = rw (f, h) refl
  name false text more out f h = rw f h

  pick : (o : Option Bytes) (more : List (Bytes × Entry)) (out : List Bytes) → map view more ≡ map listed out
      → map view (cons_option (named_by AFolder o) more) ≡ map listed (cons_option (file_name o) out)
  pick None more out h = h
  pick (Some text) more out h = name (is_name_text text) text more out refl h

-- what stands right below a folder of a tree in memory: the files, then the folders
pub below-is : (path : Bytes) (es : Entries) → map view (entries_below (tree_of es) path) ≡ files_below path es ++ folders_below path es
below-is path es =
    let q : Bytes = path ++ 47 ∷ [] in
    let files : List (Bytes × Entry) = map a_file (filter is_file es) in
    let folders : List (Bytes × Entry) = map a_folder (each_once (folder_texts es)) in
    ap (λ xs. map view xs) (filter_map-append (below q) files folders)
    ∙ map-append view (filter_map (below q) files) (filter_map (below q) folders)
    ∙ ap (λ xs. xs ++ map view (filter_map (below q) folders)) (view-files path es)
    ∙ ap (λ xs. files_below path es ++ xs)
    (view-folders q (each_once (folder_texts es)) ∙ ap (λ ns. map listed ns) (once-named q [] (folder_texts es) ∙ names-of-entries q [] es) ∙ sym (listed-all q [] es))

-- ---- the loops that list

abbrev pub Kept : Type 0 → Type 0
Kept Z = List (String Z × Bytes)

abbrev pub file_here : Bytes → Bytes → Option Bytes
file_here path text = cond (ends_in_slash text) None (file_name (after_prefix (path ++ 47 ∷ []) text))

entries-more : {Z : Type 0} (xs : Kept Z) (i : ℕ) (x : String Z × Bytes) → i < length xs → x ≡ get_or xs i x → entries_in (take (i + 1) xs) ≡ entries_in (take i xs) ++ (string_bytes x.0, x.1) ∷ []
entries-more {Z = Z} xs i x within is = rw (take_more xs i x within, ← is) (map-append (λ (e : String Z × Bytes). (string_bytes e.0, e.1)) (take i xs) (x ∷ []))

files-more : {Z : Type 0} (path : Bytes) (xs : Kept Z) (i : ℕ) (x : String Z × Bytes) → i < length xs → x ≡ get_or xs i x
    → files_below path (entries_in (take (i + 1) xs)) ≡ files_below path (entries_in (take i xs)) ++ cons_option (option_map (λ n. (n, kinds.File)) (file_here path (string_bytes x.0))) []
files-more path xs i x within is =
    ap (λ es. files_below path es) (entries-more xs i x within is)
    ∙ filter_map-append (λ e. option_map (λ n. (n, kinds.File)) (file_here path e.0)) (entries_in (take i xs)) ((string_bytes x.0, x.1) ∷ [])

pub files-none : {Z : Type 0} (path : Bytes) (xs : Kept Z) (i : ℕ) (x : String Z × Bytes) (out : List (Bytes × EntryKind)) → i < length xs → x ≡ get_or xs i x → None ≡ file_here path (string_bytes x.0)
    → out ≡ files_below path (entries_in (take i xs)) → out ≡ files_below path (entries_in (take (i + 1) xs))
files-none path xs i x out within is none e =
    e ∙ sym (files-more path xs i x within is ∙ ap (λ o. files_below path (entries_in (take i xs)) ++ cons_option (option_map (λ n. (n, kinds.File)) o) []) (sym none) ∙ simp append-nil)

pub files-some : {Z : Type 0} (path : Bytes) (xs : Kept Z) (i : ℕ) (x : String Z × Bytes) (name : Bytes) (found : List FolderEntry) (new : FolderEntry) → i < length xs → x ≡ get_or xs i x → Some name ≡ file_here path (string_bytes x.0)
    → view_entry new ≡ (name, kinds.File) → map view_entry found ≡ files_below path (entries_in (take i xs)) → map view_entry (found ++ new ∷ []) ≡ files_below path (entries_in (take (i + 1) xs))
files-some path xs i x name found new within is some seen e =
    map-append view_entry found (new ∷ []) ∙ ap (λ out. out ++ view_entry new ∷ []) e ∙ ap (λ v. files_below path (entries_in (take i xs)) ++ v ∷ []) seen
    ∙ sym (files-more path xs i x within is ∙ ap (λ o. files_below path (entries_in (take i xs)) ++ cons_option (option_map (λ n. (n, kinds.File)) o) []) (sym some))

pub any-mapped : {X Y : Type 0} (p : Y → Bool) (f : X → Y) (xs : List X) → list_any p (map f xs) ≡ list_any (λ x. p (f x)) xs
any-mapped p f [] = refl
any-mapped p f (x ∷ xs) = ap (λ b. p (f x) || b) (any-mapped p f xs)

-- the test of a listed name, by the names as they are kept
pub is-found : (found : List FolderEntry) (name : Bytes) → list_any (λ e. same_name e.0 name) (map view_entry found) ≡ list_any (λ (e : FolderEntry). pointwise eqb (string_bytes e.name) name) found
is-found found name = any-mapped (λ e. same_name e.0 name) view_entry found

pub folder-kept : (found : List FolderEntry) (name : Bytes) → list_any (λ (e : FolderEntry). pointwise eqb (string_bytes e.name) name) found ≡ true → map view_entry found ≡ with_folder (map view_entry found) name
folder-kept found name e = rw (is-found found name ∙ e) refl

pub folder-put : (found : List FolderEntry) (new : FolderEntry) (name : Bytes) → list_any (λ (e : FolderEntry). pointwise eqb (string_bytes e.name) name) found ≡ false → view_entry new ≡ (name, kinds.Folder)
    → map view_entry (found ++ new ∷ []) ≡ with_folder (map view_entry found) name
folder-put found new name e seen = rw (is-found found name ∙ e) (map-append view_entry found (new ∷ []) ∙ ap (λ v. map view_entry found ++ v ∷ []) seen)
