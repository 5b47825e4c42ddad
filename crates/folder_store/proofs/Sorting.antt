-- The entries of a listing in the order of their names are those of the definition.
use Rattle.std.proofs.Common.{◌≡◌, ◌⊎◌, ℕ, suc, ◌+◌, ◌<◌, Bool, true, false, List, [], ◌∷◌, ◌++◌, length, map, Some, refl, sym, ap, ◌∙◌, subst, inl, inr, arith, get_or}
use Rattle.std.specs.declared.cmp.Ordering.{Ordering}
use Rattle.std.specs.declared.cmp.Ordering.TheVariants.{Less, Equal, Greater}
use Rattle.std.specs.Ordering.{is_lt, ordering_reverse, match_ordering}
use Rattle.std.specs.BTreeMap.{insert_entry}
use Rattle.std.specs.List.{All, AllByRecursion, IsDistinct, fold}
use Rattle.std.specs.List.Sorted.{IsPermutation, IsSortedBy}
use Rattle.std.specs.String.{string_cmp, string_cmp_total, string_bytes}
use Rattle.std.proofs.lemmas.Cmp.{tied_itself}
use Rattle.std.proofs.lemmas.List.Elements.{recursion_from_All, All-from_recursion}
use Rattle.std.proofs.lemmas.List.Sorted.{ranks_by, sorted_far, IsPermutation-map, Contains-permutation, IsPermutation-sym}
use Rattle.std.proofs.lemmas.Map.Keys.{IsDistinct-head, IsDistinct-tail, IsDistinct-IsPermutation}
use native.Mathlib.Numerals.{unary_clauses}
use Rattle.path_tree.specs.Paths.{Bytes, name_cmp, same_name}
use Rattle.path_tree.proofs.CallerLemmas.{name_cmp-is, name_total, same_name-flips, same_name-refl}
use Rattle.folder_store.specs.declared.folders.EntryKind.{EntryKind}
use Rattle.folder_store.specs.declared.folders.FolderEntry.{FolderEntry}
use Rattle.folder_store.specs.Folders.{Entry, FolderTree, IsListed, entries_below, entry_at, kind_of, view_entry}
use Rattle.folder_store.specs.Walk.{sort_entries}
use Rattle.folder_store.specs.Inner.Gathering.{IsSortedListing}
use Rattle.folder_store.proofs.Naming.{In, in_from, contains_from, all_in, each_in, in_map, from_map, names, AreDistinct, distinct_from_pairs, stands}

-- ---- the order of names

pub not_less_itself : (m : Bytes) → name_cmp m m ≡ Less → ⊥
not_less_itself m e = let t : name_cmp m m ≡ Equal = tied_itself name_total m in let z : Less ≡ Equal = sym e ∙ t in cc

not_both_less : (m n : Bytes) → name_cmp m n ≡ Less → name_cmp n m ≡ Less → ⊥
not_both_less m n e f = not_less_itself m (name_total.trans m n m e f)

-- ---- lists whose names rise

abbrev pub Climbs : {A : Type 0} → List (Bytes × A) → Type 0
Climbs [] = Unit {0}
Climbs (e ∷ es) = AllByRecursion (λ f. name_cmp e.0 f.0 ≡ Less) es × Climbs es

-- one more entry, at its place

above : {A : Type 0} (n m : Bytes) (es : List (Bytes × A)) → name_cmp n m ≡ Less → AllByRecursion (λ f. name_cmp m f.0 ≡ Less) es → AllByRecursion (λ f. name_cmp n f.0 ≡ Less) es
above n m [] less h = tt
above n m (e ∷ es) less h = (name_total.trans n m e.0 less h.0, above n m es less h.1)

insert_above : {A : Type 0} (n k : Bytes) (v : A) (es : List (Bytes × A)) → name_cmp n k ≡ Less → AllByRecursion (λ f. name_cmp n f.0 ≡ Less) es → AllByRecursion (λ f. name_cmp n f.0 ≡ Less) (insert_entry name_cmp es k v)
insert_above n k v [] less h = (less, tt)
insert_above {A} n k v (e ∷ es) less h = go (insert_above n k v es less h.1) (name_cmp k e.0) where
  go : AllByRecursion (λ f. name_cmp n f.0 ≡ Less) (insert_entry name_cmp es k v) → (o : Ordering) → AllByRecursion (λ f. name_cmp n f.0 ≡ Less) (match_ordering o ((k, v) ∷ e ∷ es) ((e.0, v) ∷ es) (e ∷ insert_entry name_cmp es k v))
  go rest Less = (less, h)
  go rest Equal = h
  go rest Greater = (h.0, rest)

insert_climbs : {A : Type 0} (k : Bytes) (v : A) (es : List (Bytes × A)) → Climbs es → Climbs (insert_entry name_cmp es k v)
insert_climbs k v [] h = (tt, tt)
insert_climbs {A} k v (e ∷ es) h = go (insert_climbs k v es h.1) (name_cmp k e.0) refl where
  go : Climbs (insert_entry name_cmp es k v) → (o : Ordering) → name_cmp k e.0 ≡ o → Climbs (match_ordering o ((k, v) ∷ e ∷ es) ((e.0, v) ∷ es) (e ∷ insert_entry name_cmp es k v))
  go rest Less is = ((is, above k e.0 es is h.0), h)
  go rest Equal is = h
  go rest Greater is = (insert_above e.0 k v es (name_total.antisymm e.0 k ∙ ap ordering_reverse is) h.0, rest)

-- what stands in the list then, where the name is new

insert_only : {A : Type 0} (k : Bytes) (v : A) (es : List (Bytes × A)) (x : Bytes × A) → (In k (names es) → ⊥) → In x (insert_entry name_cmp es k v) → ((k, v) ≡ x) ⊎ In x es
insert_only k v [] x new h = h
insert_only {A} k v (e ∷ es) x new h = go (λ i. insert_only k v es x (λ j. new (inr j)) i) (name_cmp k e.0) refl h where
  later : ((k, v) ≡ x) ⊎ In x es → ((k, v) ≡ x) ⊎ In x (e ∷ es)
  later (inl same) = inl same
  later (inr i) = inr (inr i)

  go : (In x (insert_entry name_cmp es k v) → ((k, v) ≡ x) ⊎ In x es) → (o : Ordering) → name_cmp k e.0 ≡ o → In x (match_ordering o ((k, v) ∷ e ∷ es) ((e.0, v) ∷ es) (e ∷ insert_entry name_cmp es k v)) → ((k, v) ≡ x) ⊎ In x (e ∷ es)
  go rest Less is i = i
  go rest Equal is i = absurd (new (inl (sym (name_cmp-is k e.0 is))))
  go rest Greater is (inl same) = inr (inl same)
  go rest Greater is (inr i) = later (rest i)

insert_new : {A : Type 0} (k : Bytes) (v : A) (es : List (Bytes × A)) → (In k (names es) → ⊥) → In (k, v) (insert_entry name_cmp es k v)
insert_new k v [] new = inl refl
insert_new {A} k v (e ∷ es) new = go (insert_new k v es (λ j. new (inr j))) (name_cmp k e.0) refl where
  go : In (k, v) (insert_entry name_cmp es k v) → (o : Ordering) → name_cmp k e.0 ≡ o → In (k, v) (match_ordering o ((k, v) ∷ e ∷ es) ((e.0, v) ∷ es) (e ∷ insert_entry name_cmp es k v))
  go rest Less is = inl refl
  go rest Equal is = absurd (new (inl (sym (name_cmp-is k e.0 is))))
  go rest Greater is = inr rest

insert_keeps : {A : Type 0} (k : Bytes) (v : A) (es : List (Bytes × A)) (x : Bytes × A) → (In k (names es) → ⊥) → In x es → In x (insert_entry name_cmp es k v)
insert_keeps k v [] x new h = absurd h
insert_keeps {A} k v (e ∷ es) x new h = go (λ i. insert_keeps k v es x (λ j. new (inr j)) i) (name_cmp k e.0) refl h where
  go : (In x es → In x (insert_entry name_cmp es k v)) → (o : Ordering) → name_cmp k e.0 ≡ o → In x (e ∷ es) → In x (match_ordering o ((k, v) ∷ e ∷ es) ((e.0, v) ∷ es) (e ∷ insert_entry name_cmp es k v))
  go rest Less is i = inr i
  go rest Equal is i = absurd (new (inl (sym (name_cmp-is k e.0 is))))
  go rest Greater is (inl same) = inl same
  go rest Greater is (inr i) = inr (rest i)

insert_names : {A : Type 0} (k : Bytes) (v : A) (es : List (Bytes × A)) (m : Bytes) → (In k (names es) → ⊥) → In m (names (insert_entry name_cmp es k v)) → (k ≡ m) ⊎ In m (names es)
insert_names {A} k v es m new h = go (from_map (λ (e : Bytes × A). e.0) (insert_entry name_cmp es k v) m h) where
  by : (x : Bytes × A) → x.0 ≡ m → ((k, v) ≡ x) ⊎ In x es → (k ≡ m) ⊎ In m (names es)
  by x is (inl same) = inl (ap (λ (e : Bytes × A). e.0) same ∙ is)
  by x is (inr i) = inr (subst (λ (n : Bytes). In n (names es)) is (in_map (λ (e : Bytes × A). e.0) es x i))

  go : (x : Bytes × A) × (In x (insert_entry name_cmp es k v) × (x.0 ≡ m)) → (k ≡ m) ⊎ In m (names es)
  go (x, (i, is)) = by x is (insert_only k v es x new i)

-- ---- all of them

abbrev put_all : {A : Type 0} → List (Bytes × A) → List (Bytes × A) → List (Bytes × A)
put_all sofar es = fold (λ fs e. insert_entry name_cmp fs e.0 e.1) sofar es

-- no name of the second stands in the first
abbrev AreNew : {A : Type 0} → List (Bytes × A) → List (Bytes × A) → Type 0
AreNew sofar es = (k : Bytes) → In k (names es) → In k (names sofar) → ⊥

new_names : {A : Type 0} (sofar : List (Bytes × A)) (e : Bytes × A) (es : List (Bytes × A)) → AreNew sofar (e ∷ es) → AreDistinct (e ∷ es) → AreNew (insert_entry name_cmp sofar e.0 e.1) es
new_names sofar e es new apart k later sooner = go (insert_names e.0 e.1 sofar k (new e.0 (inl refl)) sooner) where
  go : (e.0 ≡ k) ⊎ In k (names sofar) → ⊥
  go (inr i) = new k (inr later) i
  go (inl same) =
      let differ : same_name e.0 k ≡ false = each_in (λ m. same_name e.0 m ≡ false) (names es) k (IsDistinct-head same_name e.0 (names es) apart) later in
      let alike : same_name e.0 k ≡ true = ap (same_name e.0) (sym same) ∙ same_name-refl e.0 in
      let z : true ≡ false = sym alike ∙ differ in cc

all_climb : {A : Type 0} (sofar es : List (Bytes × A)) → Climbs sofar → Climbs (put_all sofar es)
all_climb sofar [] h = h
all_climb sofar (e ∷ es) h = all_climb (insert_entry name_cmp sofar e.0 e.1) es (insert_climbs e.0 e.1 sofar h)

all_only : {A : Type 0} (sofar es : List (Bytes × A)) (x : Bytes × A) → AreNew sofar es → AreDistinct es → In x (put_all sofar es) → In x sofar ⊎ In x es
all_only sofar [] x new apart h = inl h
all_only {A} sofar (e ∷ es) x new apart h = go (all_only (insert_entry name_cmp sofar e.0 e.1) es x (new_names sofar e es new apart) (IsDistinct-tail same_name e.0 (names es) apart) h) where
  first : (e ≡ x) ⊎ In x sofar → In x sofar ⊎ In x (e ∷ es)
  first (inl same) = inr (inl same)
  first (inr i) = inl i

  go : In x (insert_entry name_cmp sofar e.0 e.1) ⊎ In x es → In x sofar ⊎ In x (e ∷ es)
  go (inl i) = first (insert_only e.0 e.1 sofar x (new e.0 (inl refl)) i)
  go (inr i) = inr (inr i)

all_in_all : {A : Type 0} (sofar es : List (Bytes × A)) (x : Bytes × A) → AreNew sofar es → AreDistinct es → In x sofar ⊎ In x es → In x (put_all sofar es)
all_in_all sofar [] x new apart (inl h) = h
all_in_all sofar [] x new apart (inr h) = absurd h
all_in_all {A} sofar (e ∷ es) x new apart h = all_in_all (insert_entry name_cmp sofar e.0 e.1) es x (new_names sofar e es new apart) (IsDistinct-tail same_name e.0 (names es) apart) (go h) where
  go : In x sofar ⊎ In x (e ∷ es) → In x (insert_entry name_cmp sofar e.0 e.1) ⊎ In x es
  go (inl i) = inl (insert_keeps e.0 e.1 sofar x (new e.0 (inl refl)) i)
  go (inr (inl same)) = inl (subst (λ (y : Bytes × A). In y (insert_entry name_cmp sofar e.0 e.1)) same (insert_new e.0 e.1 sofar (new e.0 (inl refl))))
  go (inr (inr i)) = inr i

pub sorted_climbs : (es : List (Bytes × Entry)) → Climbs (sort_entries es)
sorted_climbs es = all_climb [] es tt

pub sorted_only : (es : List (Bytes × Entry)) (x : Bytes × Entry) → AreDistinct es → In x (sort_entries es) → In x es
sorted_only es x apart h = go (all_only [] es x (λ k i j. j) apart h) where
  go : In x [] ⊎ In x es → In x es
  go (inl i) = absurd i
  go (inr i) = i

pub sorted_all : (es : List (Bytes × Entry)) (x : Bytes × Entry) → AreDistinct es → In x es → In x (sort_entries es)
sorted_all es x apart h = all_in_all [] es x (λ k i j. j) apart (inr h)

-- ---- a list that climbs is told by its elements

unique : {A : Type 0} (xs ys : List (Bytes × A)) → Climbs xs → Climbs ys → ((x : Bytes × A) → In x xs → In x ys) → ((x : Bytes × A) → In x ys → In x xs) → xs ≡ ys
unique [] [] up also there back = refl
unique [] (y ∷ ys) up also there back = absurd (back y (inl refl))
unique (x ∷ xs) [] up also there back = absurd (there x (inl refl))
unique {A} (x ∷ xs) (y ∷ ys) up also there back =
    let same : x ≡ y = heads (there x (inl refl)) (back y (inl refl)) in
    let rest : xs ≡ ys = unique xs ys up.1 also.1 (λ z i. further z i (there z (inr i))) (λ z i. nearer z i (back z (inr i))) in
    ap (λ (z : Bytes × A). z ∷ xs) same ∙ ap (λ (zs : List (Bytes × A)). y ∷ zs) rest
  where
    heads : In x (y ∷ ys) → In y (x ∷ xs) → x ≡ y
    heads (inl same) j = sym same
    heads (inr i) (inl same) = same
    heads (inr i) (inr j) = absurd (not_both_less y.0 x.0 (each_in (λ f. name_cmp y.0 f.0 ≡ Less) ys x also.0 i) (each_in (λ f. name_cmp x.0 f.0 ≡ Less) xs y up.0 j))

    further : (z : Bytes × A) → In z xs → In z (y ∷ ys) → In z ys
    further z i (inr j) = j
    further z i (inl same) =
        let is : x ≡ y = heads (there x (inl refl)) (back y (inl refl)) in
        let less : name_cmp x.0 z.0 ≡ Less = each_in (λ f. name_cmp x.0 f.0 ≡ Less) xs z up.0 i in
        absurd (not_less_itself z.0 (subst (λ (w : Bytes × A). name_cmp w.0 z.0 ≡ Less) (is ∙ same) less))

    nearer : (z : Bytes × A) → In z ys → In z (x ∷ xs) → In z xs
    nearer z i (inr j) = j
    nearer z i (inl same) =
        let is : x ≡ y = heads (there x (inl refl)) (back y (inl refl)) in
        let less : name_cmp y.0 z.0 ≡ Less = each_in (λ f. name_cmp y.0 f.0 ≡ Less) ys z also.0 i in
        absurd (not_less_itself z.0 (subst (λ (w : Bytes × A). name_cmp w.0 z.0 ≡ Less) (sym is ∙ same) less))

-- ---- what a sort leaves

abbrev less : FolderEntry → FolderEntry → Bool
less x y = is_lt (string_cmp x.name y.name)

-- a name that isn't less and differs stands after
stands_behind : (m n : Bytes) → is_lt (name_cmp n m) ≡ false → same_name m n ≡ false → name_cmp m n ≡ Less
stands_behind m n e f = go (name_cmp n m) refl e where
  go : (o : Ordering) → name_cmp n m ≡ o → is_lt o ≡ false → name_cmp m n ≡ Less
  go Less is z = cc
  go Equal is z =
      let same : n ≡ m = name_cmp-is n m is in
      let alike : same_name m n ≡ true = ap (same_name m) same ∙ same_name-refl m in
      let y : true ≡ false = sym alike ∙ f in cc
  go Greater is z = name_total.antisymm m n ∙ ap ordering_reverse is

sort_climbs : (es : List FolderEntry) → IsSortedBy less es → AreDistinct (map view_entry es) → Climbs (map view_entry es)
sort_climbs [] up apart = tt
sort_climbs (e ∷ es) up apart = (
  heads e es (λ k d within. sorted_far less (ranks_by string_cmp_total (λ (x : FolderEntry). x.name)) (e ∷ es) up 0 (suc k) d (omega arith) (omega arith)) (IsDistinct-head same_name (string_bytes e.name) (names (map view_entry es)) apart),
  sort_climbs es (λ k d low within. later e es up k d within) (IsDistinct-tail same_name (string_bytes e.name) (names (map view_entry es)) apart),
)
  where
    later : (e : FolderEntry) (fs : List FolderEntry) → IsSortedBy less (e ∷ fs) → (k : ℕ) (d : FolderEntry) → k + 1 < length fs → less (get_or fs (k + 1) d) (get_or fs k d) ≡ false
    later e fs up k d within = let h = simp unary_clauses at (up (suc k) d (omega arith) (omega arith)) in simp unary_clauses h

    heads : (e : FolderEntry) (fs : List FolderEntry) → All (λ f. less f e ≡ false) fs → AllByRecursion (λ m. same_name (string_bytes e.name) m ≡ false) (names (map view_entry fs)) → AllByRecursion (λ f. name_cmp (string_bytes e.name) f.0 ≡ Less) (map view_entry fs)
    heads e fs far apart = by e fs (recursion_from_All (λ f. less f e ≡ false) fs far) apart where
      by : (e : FolderEntry) (fs : List FolderEntry) → AllByRecursion (λ f. less f e ≡ false) fs → AllByRecursion (λ m. same_name (string_bytes e.name) m ≡ false) (names (map view_entry fs)) → AllByRecursion (λ f. name_cmp (string_bytes e.name) f.0 ≡ Less) (map view_entry fs)
      by e [] far apart = tt
      by e (f ∷ fs) far apart = (stands_behind (string_bytes e.name) (string_bytes f.name) far.0 apart.0, by e fs far.1 apart.1)

abbrev kinds_of : List (Bytes × Entry) → List (Bytes × EntryKind)
kinds_of es = map (λ e. (e.0, kind_of e.1)) es

names_kept : (es : List (Bytes × Entry)) → names (kinds_of es) ≡ names es
names_kept [] = refl
names_kept (e ∷ es) = ap (λ (ns : List Bytes). e.0 ∷ ns) (names_kept es)

kinds_climb : (es : List (Bytes × Entry)) → Climbs es → Climbs (kinds_of es)
kinds_climb [] h = tt
kinds_climb (e ∷ es) h = (by e.0 es h.0, kinds_climb es h.1) where
  by : (n : Bytes) (fs : List (Bytes × Entry)) → AllByRecursion (λ f. name_cmp n f.0 ≡ Less) fs → AllByRecursion (λ f. name_cmp n f.0 ≡ Less) (kinds_of fs)
  by n [] h = tt
  by n (f ∷ fs) h = (h.0, by n fs h.1)

moved_distinct : {A : Type 0} (es fs : List (Bytes × A)) → IsPermutation es fs → AreDistinct es → AreDistinct fs
moved_distinct {A} es fs p h = IsDistinct-IsPermutation same_name same_name-flips (names es) (names fs) (IsPermutation-map (λ (e : Bytes × A). e.0) es fs p) h

moved_in : {A : Type 0} (es fs : List A) (x : A) → IsPermutation es fs → In x es → In x fs
moved_in es fs x p h = in_from fs x (Contains-permutation es fs x p (contains_from es x h))

pub sorted_listing : (t : FolderTree) (path : Bytes) (listed es : List FolderEntry) → IsListed t path (map view_entry listed) → IsPermutation listed es → IsSortedBy less es → IsSortedListing t path (map view_entry es)
sorted_listing t path listed es h moved up =
    let views : List (Bytes × EntryKind) = map view_entry listed in
    let below : List (Bytes × Entry) = entries_below t path in
    let viewed : IsPermutation views (map view_entry es) = IsPermutation-map view_entry listed es moved in
    let apart : AreDistinct views = distinct_from_pairs views h.distinct in
    let apart_after : AreDistinct (map view_entry es) = moved_distinct views (map view_entry es) viewed apart in
    let apart_kinds : AreDistinct (kinds_of below) = moved_distinct views (kinds_of below) h.entries apart in
    let apart_below : AreDistinct below = subst (λ (ns : List Bytes). IsDistinct same_name ns) (names_kept below) apart_kinds in
    record {
      folder = h.folder;
      entries = unique (map view_entry es) (kinds_of (sort_entries below)) (sort_climbs es up apart_after) (kinds_climb (sort_entries below) (sorted_climbs below))
          (λ x i. to_sorted below x apart_below (moved_in views (kinds_of below) x h.entries (moved_in (map view_entry es) views x (IsPermutation-sym views (map view_entry es) viewed) i)))
          (λ x i. moved_in views (map view_entry es) x viewed (moved_in (kinds_of below) views x (IsPermutation-sym views (kinds_of below) h.entries) (from_sorted below x apart_below i)));
      stand = All-from_recursion (λ e. entry_at t (path ++ 47 ∷ e.0) ≡ Some e.1) (sort_entries below) (all_in (λ e. entry_at t (path ++ 47 ∷ e.0) ≡ Some e.1) (sort_entries below) (λ x i. stands t path x apart_below (sorted_only below x apart_below i)));
    }
  where
    to_sorted : (below : List (Bytes × Entry)) (x : Bytes × EntryKind) → AreDistinct below → In x (kinds_of below) → In x (kinds_of (sort_entries below))
    to_sorted below x apart i =
        let r = from_map (λ (e : Bytes × Entry). (e.0, kind_of e.1)) below x i in
        subst (λ (y : Bytes × EntryKind). In y (kinds_of (sort_entries below))) r.1.1 (in_map (λ (e : Bytes × Entry). (e.0, kind_of e.1)) (sort_entries below) r.0 (sorted_all below r.0 apart r.1.0))

    from_sorted : (below : List (Bytes × Entry)) (x : Bytes × EntryKind) → AreDistinct below → In x (kinds_of (sort_entries below)) → In x (kinds_of below)
    from_sorted below x apart i =
        let r = from_map (λ (e : Bytes × Entry). (e.0, kind_of e.1)) (sort_entries below) x i in
        subst (λ (y : Bytes × EntryKind). In y (kinds_of below)) r.1.1 (in_map (λ (e : Bytes × Entry). (e.0, kind_of e.1)) below r.0 (sorted_only below r.0 apart r.1.0))
