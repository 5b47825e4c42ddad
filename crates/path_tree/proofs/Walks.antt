-- What stands at a path of a nesting's entries is what the walk down the nesting meets.
use Rattle.std.proofs.Common.{◌≡◌, Bool, true, false, ◌||◌, ◌&&◌, List, [], ◌∷◌, ◌++◌, map, Option, Some, None, cond, refl, sym, ◌∙◌, ap, subst}
use Rattle.std.specs.List.{cons_option, dedup, dedup_from}
use Rattle.std.specs.declared.cmp.Ordering.TheVariants.{Less}
use Rattle.std.proofs.lemmas.List.Folds.{list_any-append}
use Rattle.std.proofs.lemmas.List.Elements.{filter_map-append}
use Rattle.path_tree.specs.Paths.{Bytes, PathNames, name_cmp, same_name, same_path, is_root, is_below, next_name}
use Rattle.path_tree.specs.Trees.{Tree, Node, File, Folder, NoSuch, file_in, is_kept, entry_at, leads_on, next_names, names_below, node_at}
use Rattle.path_tree.specs.declared.entry.Entry.{Entry}
use Rattle.path_tree.specs.declared.entry.Entry.TheVariants as entries
use Rattle.path_tree.proofs.Order.{names_differ, same_name-is, same_name-refl, same_name-flips}
use Rattle.path_tree.specs.Nestings.{Nesting, Empty, FileThen, FolderThen, names_in, in_file, stands_in, stands_at, under, mark_of, flat, IsAfter, IsKnown, IsNesting}

-- ---- what stands at a path, from the entry there, whether something lies below it, and the names below

abbrev node_of : Option Entry → Bool → List Bytes → Node
node_of (Some (entries.File b)) leads names = File b
node_of (Some entries.Folder) leads names = Folder names
node_of None leads names = cond leads (Folder names) NoSuch

abbrev looked_at : Tree → PathNames → Node
looked_at t p = node_of (entry_at t p) (is_root p || leads_on t p) (names_below t p)

node-looked : (t : Tree) (p : PathNames) → node_at t p ≡ looked_at t p
node-looked t [] = go (entry_at t []) where
  go : (e : Option Entry) → elim (file_in e) as (λ x. Node) [ None ↦ Folder (names_below t []) | Some b ↦ File b ] ≡ node_of e true (names_below t [])
  go (Some (entries.File b)) = refl
  go (Some entries.Folder) = refl
  go None = refl
node-looked t (n ∷ ns) = go (entry_at t (n ∷ ns)) where
  go : (e : Option Entry) → elim (file_in e) as (λ x. Node) [ None ↦ cond (is_kept e || leads_on t (n ∷ ns)) (Folder (names_below t (n ∷ ns))) NoSuch | Some b ↦ File b ] ≡ node_of e (leads_on t (n ∷ ns)) (names_below t (n ∷ ns))
  go (Some (entries.File b)) = refl
  go (Some entries.Folder) = refl
  go None = refl

-- ---- lists that say nothing of a path

pub record IsBlank (t : Tree) (p : PathNames) : Type 0 where
  pub entry : entry_at t p ≡ None
  pub leads : leads_on t p ≡ false
  pub names : next_names t p ≡ []

pub entry-front : (xs ys : Tree) (p : PathNames) → entry_at ys p ≡ None → entry_at (xs ++ ys) p ≡ entry_at xs p
entry-front [] ys p e = e
entry-front (x ∷ xs) ys p e = ap (λ r. cond (same_path p x.0) (Some x.1) r) (entry-front xs ys p e)

pub entry-back : (xs ys : Tree) (p : PathNames) → entry_at xs p ≡ None → entry_at (xs ++ ys) p ≡ entry_at ys p
entry-back [] ys p e = refl
entry-back (x ∷ xs) ys p e = go (same_path p x.0) refl e (entry-back xs ys p) where
  go : (b : Bool) → same_path p x.0 ≡ b → cond b (Some x.1) (entry_at xs p) ≡ None → (entry_at xs p ≡ None → entry_at (xs ++ ys) p ≡ entry_at ys p) → cond (same_path p x.0) (Some x.1) (entry_at (xs ++ ys) p) ≡ entry_at ys p
  go true is e rest = cc
  go false is e rest = rw is (rest e)

or_false : (b : Bool) → (b || false) ≡ b
or_false true = refl
or_false false = refl

append_nil : (xs : List Bytes) → xs ++ [] ≡ xs
append_nil [] = refl
append_nil (x ∷ xs) = ap (λ l. x ∷ l) (append_nil xs)

pub leads-both : (xs ys : Tree) (p : PathNames) → leads_on (xs ++ ys) p ≡ (leads_on xs p || leads_on ys p)
leads-both xs ys p = list_any-append (λ e. is_below p e.0) xs ys

pub next_names-both : (xs ys : Tree) (p : PathNames) → next_names (xs ++ ys) p ≡ next_names xs p ++ next_names ys p
next_names-both xs ys p = filter_map-append (λ e. next_name p e.0) xs ys

pub node-front : (xs ys : Tree) (p : PathNames) → IsBlank ys p → looked_at (xs ++ ys) p ≡ looked_at xs p
node-front xs ys p blank =
    rw (entry-front xs ys p blank.entry, leads-both xs ys p, blank.leads, or_false (leads_on xs p), next_names-both xs ys p, blank.names, append_nil (next_names xs p)) refl

pub node-back : (xs ys : Tree) (p : PathNames) → IsBlank xs p → looked_at (xs ++ ys) p ≡ looked_at ys p
node-back xs ys p blank =
    rw (entry-back xs ys p blank.entry, leads-both xs ys p, blank.leads, next_names-both xs ys p, blank.names) refl

pub blank-append : (xs ys : Tree) (p : PathNames) → IsBlank xs p → IsBlank ys p → IsBlank (xs ++ ys) p
blank-append xs ys p a b = record {
  entry = entry-back xs ys p a.entry ∙ b.entry;
  leads = rw (leads-both xs ys p, a.leads) b.leads;
  names = rw (next_names-both xs ys p, a.names) b.names;
}

blank-nil : (p : PathNames) → IsBlank [] p
blank-nil p = record { entry = refl; leads = refl; names = refl }

-- one entry under another name, or at a prefix that is one name
blank-other : (n m : Bytes) (r q : PathNames) (x : Entry) → same_name n m ≡ false → IsBlank ((m ∷ r, x) ∷ []) (n ∷ q)
blank-other n m r q x e = record { entry = rw e refl; leads = rw e refl; names = rw e refl }

same_path-nil : (k : Bytes) (ks : PathNames) (b : Bool) → (b && same_path (k ∷ ks) []) ≡ false
same_path-nil k ks true = refl
same_path-nil k ks false = refl

next-none : (b : Bool) → cond {A = Option Bytes} b None None ≡ None
next-none true = refl
next-none false = refl

blank-above : (n m k : Bytes) (ks : PathNames) (x : Entry) → IsBlank ((m ∷ [], x) ∷ []) (n ∷ k ∷ ks)
blank-above n m k ks x = go (same_name n m) refl where
  go : (b : Bool) → same_name n m ≡ b → IsBlank ((m ∷ [], x) ∷ []) (n ∷ k ∷ ks)
  go true e = record { entry = rw e refl; leads = rw e refl; names = rw e refl }
  go false e = blank-other n m [] (k ∷ ks) x e

-- ---- entries under a name

under-other : (n m : Bytes) (q : PathNames) (t : Tree) → same_name n m ≡ false → IsBlank (map (under m) t) (n ∷ q)
under-other n m q [] e = blank-nil (n ∷ q)
under-other n m q (x ∷ xs) e = blank-append ((m ∷ x.0, x.1) ∷ []) (map (under m) xs) (n ∷ q) (blank-other n m x.0 q x.1 e) (under-other n m q xs e)

under-entry : (n m : Bytes) (q : PathNames) (t : Tree) → same_name n m ≡ true → entry_at (map (under m) t) (n ∷ q) ≡ entry_at t q
under-entry n m q [] e = refl
under-entry n m q (x ∷ xs) e = rw e (ap (λ r. cond (same_path q x.0) (Some x.1) r) (under-entry n m q xs e))

under-leads : (n m : Bytes) (q : PathNames) (t : Tree) → same_name n m ≡ true → leads_on (map (under m) t) (n ∷ q) ≡ leads_on t q
under-leads n m q [] e = refl
under-leads n m q (x ∷ xs) e = rw e (ap (λ b. is_below q x.0 || b) (under-leads n m q xs e))

under-next_names : (n m : Bytes) (q : PathNames) (t : Tree) → same_name n m ≡ true → next_names (map (under m) t) (n ∷ q) ≡ next_names t q
under-next_names n m q [] e = refl
under-next_names n m q (x ∷ xs) e = rw e (ap (cons_option (next_name q x.0)) (under-next_names n m q xs e))

under-node : (n m k : Bytes) (ks : PathNames) (t : Tree) → same_name n m ≡ true → looked_at (map (under m) t) (n ∷ k ∷ ks) ≡ looked_at t (k ∷ ks)
under-node n m k ks t e = rw (under-entry n m (k ∷ ks) t e, under-leads n m (k ∷ ks) t e, under-next_names n m (k ∷ ks) t e) refl

mark-other : (n m : Bytes) (q : PathNames) (made : Bool) → same_name n m ≡ false → IsBlank (mark_of m made) (n ∷ q)
mark-other n m q true e = blank-other n m [] q entries.Folder e
mark-other n m q false e = blank-nil (n ∷ q)

mark-above : (n m k : Bytes) (ks : PathNames) (made : Bool) → IsBlank (mark_of m made) (n ∷ k ∷ ks)
mark-above n m k ks true = blank-above n m k ks entries.Folder
mark-above n m k ks false = blank-nil (n ∷ k ∷ ks)

-- names that come after another are others
pub after-blank : (n : Bytes) (q : PathNames) (g : Nesting) → IsAfter n g → IsBlank (flat g) (n ∷ q)
after-blank n q Empty after = blank-nil (n ∷ q)
after-blank n q (FileThen m b rest) after = blank-append ((m ∷ [], entries.File b) ∷ []) (flat rest) (n ∷ q) (blank-other n m [] q (entries.File b) (names_differ n m after.0)) (after-blank n q rest after.1)
after-blank n q (FolderThen m made inside rest) after =
    let e = names_differ n m after.0 in
    blank-append (mark_of m made) (map (under m) (flat inside) ++ flat rest) (n ∷ q) (mark-other n m q made e)
    (blank-append (map (under m) (flat inside)) (flat rest) (n ∷ q) (under-other n m q (flat inside) e) (after-blank n q rest after.1))

-- ---- no entry stands at the root

root-under : (m : Bytes) (t : Tree) → entry_at (map (under m) t) [] ≡ None
root-under m [] = refl
root-under m (x ∷ xs) = root-under m xs

root-mark : (m : Bytes) (made : Bool) → entry_at (mark_of m made) [] ≡ None
root-mark m true = refl
root-mark m false = refl

pub root-none : (g : Nesting) → entry_at (flat g) [] ≡ None
root-none Empty = refl
root-none (FileThen n b rest) = root-none rest
root-none (FolderThen n made inside rest) =
    entry-back (mark_of n made) (map (under n) (flat inside) ++ flat rest) [] (root-mark n made)
    ∙ (entry-back (map (under n) (flat inside)) (flat rest) [] (root-under n (flat inside)) ∙ root-none rest)

-- ---- a folder that isn't marked has an entry below it

pub record HasFirst (t : Tree) : Type 0 where
  pub name : Bytes
  pub names : PathNames
  pub entry : Entry
  pub others : Tree
  pub is : t ≡ (name ∷ names, entry) ∷ others

pub has_first : (g : Nesting) → IsKnown false g → IsNesting g → HasFirst (flat g)
has_first Empty known nesting = absurd known
has_first (FileThen n b rest) known nesting = record { name = n; names = []; entry = entries.File b; others = flat rest; is = refl }
has_first (FolderThen n true inside rest) known nesting = record { name = n; names = []; entry = entries.Folder; others = map (under n) (flat inside) ++ flat rest; is = refl }
has_first (FolderThen n false inside rest) known nesting =
    let h = has_first inside nesting.0 nesting.1 in
    record { name = n; names = h.name ∷ h.names; entry = h.entry; others = map (under n) h.others ++ flat rest; is = ap (λ t. map (under n) t ++ flat rest) h.is }

-- ---- names in order

abbrev repeated : Bytes → Tree → List Bytes
repeated m t = map (λ e. m) t

next_names-under : (m : Bytes) (t : Tree) → next_names (map (under m) t) [] ≡ repeated m t
next_names-under m [] = refl
next_names-under m (x ∷ xs) = ap (λ l. m ∷ l) (next_names-under m xs)

once : (m : Bytes) (t : Tree) (rest : List Bytes) → dedup_from same_name m (repeated m t ++ rest) ≡ dedup_from same_name m rest
once m [] rest = refl
once m (x ∷ xs) rest = rw (same_name-refl m) (once m xs rest)

next_names-mark : (m : Bytes) (made : Bool) → next_names (mark_of m made) [] ≡ repeated m (mark_of m made)
next_names-mark m true = refl
next_names-mark m false = refl

-- the names of a folder's entries, and then those of the others
next_names-folder : (m : Bytes) (made : Bool) (inside rest : Nesting) → next_names (flat (FolderThen m made inside rest)) [] ≡ repeated m (mark_of m made) ++ (repeated m (flat inside) ++ next_names (flat rest) [])
next_names-folder m made inside rest =
    next_names-both (mark_of m made) (map (under m) (flat inside) ++ flat rest) []
    ∙ (ap (λ l. l ++ next_names (map (under m) (flat inside) ++ flat rest) []) (next_names-mark m made)
    ∙ ap (λ l. repeated m (mark_of m made) ++ l) (next_names-both (map (under m) (flat inside)) (flat rest) [] ∙ ap (λ l. l ++ next_names (flat rest) []) (next_names-under m (flat inside))))

-- a list that begins with a name, which may be said again
begun : (m : Bytes) (made : Bool) (inside : Nesting) (rest : List Bytes) → IsKnown made inside → IsNesting inside
    → (k : Bytes) → same_name m k ≡ false → dedup_from same_name k (repeated m (mark_of m made) ++ (repeated m (flat inside) ++ rest)) ≡ k ∷ dedup_from same_name m rest
begun m true inside rest known nesting k e = rw e (ap (λ l. k ∷ l) (once m (flat inside) rest))
begun m false inside rest known nesting k e =
    let h = has_first inside known nesting in
    rw (ap (repeated m) h.is, e) (ap (λ l. k ∷ l) (once m h.others rest))

begun-first : (m : Bytes) (made : Bool) (inside : Nesting) (rest : List Bytes) → IsKnown made inside → IsNesting inside
    → dedup same_name (repeated m (mark_of m made) ++ (repeated m (flat inside) ++ rest)) ≡ dedup_from same_name m rest
begun-first m true inside rest known nesting = once m (flat inside) rest
begun-first m false inside rest known nesting =
    let h = has_first inside known nesting in
    rw (ap (repeated m) h.is) (once m h.others rest)

pub later : (k m : Bytes) → name_cmp k m ≡ Less → same_name m k ≡ false
later k m e = same_name-flips m k ∙ names_differ k m e

names-after : (g : Nesting) (k : Bytes) → IsAfter k g → IsNesting g → dedup_from same_name k (next_names (flat g) []) ≡ k ∷ names_in g
names-after Empty k after nesting = refl
names-after (FileThen n b rest) k after nesting = rw (later k n after.0) (ap (λ l. k ∷ l) (names-after rest n nesting.0 nesting.1))
names-after (FolderThen n made inside rest) k after nesting =
    ap (dedup_from same_name k) (next_names-folder n made inside rest)
    ∙ (begun n made inside (next_names (flat rest) []) nesting.0 nesting.1 k (later k n after.0) ∙ ap (λ l. k ∷ l) (names-after rest n nesting.2 nesting.3))

-- the next names below the root of a nesting's entries are the names in it
pub names-root : (g : Nesting) → IsNesting g → names_below (flat g) [] ≡ names_in g
names-root Empty nesting = refl
names-root (FileThen n b rest) nesting = names-after rest n nesting.0 nesting.1
names-root (FolderThen n made inside rest) nesting =
    ap (dedup same_name) (next_names-folder n made inside rest)
    ∙ (begun-first n made inside (next_names (flat rest) []) nesting.0 nesting.1 ∙ names-after rest n nesting.2 nesting.3)

-- ---- the walk

-- a folder right at the path
folder-here : (n m : Bytes) (made : Bool) (inside : Nesting) → same_name n m ≡ true → IsKnown made inside → IsNesting inside
    → looked_at (mark_of m made ++ map (under m) (flat inside)) (n ∷ []) ≡ Folder (names_in inside)
folder-here n m true inside e known nesting =
    rw (e, under-next_names n m [] (flat inside) e) (ap Folder (names-root inside nesting))
folder-here n m false inside e known nesting =
    let h = has_first inside known nesting in
    let leads : leads_on (flat inside) [] ≡ true = ap (λ t. leads_on t []) h.is in
    rw (under-entry n m [] (flat inside) e, root-none inside, under-leads n m [] (flat inside) e, leads, under-next_names n m [] (flat inside) e) (ap Folder (names-root inside nesting))

append_again : (xs ys zs : Tree) → xs ++ (ys ++ zs) ≡ (xs ++ ys) ++ zs
append_again [] ys zs = refl
append_again (x ∷ xs) ys zs = ap (λ l. x ∷ l) (append_again xs ys zs)

pub stands-below : (g : Nesting) (n : Bytes) (q : PathNames) → IsNesting g → looked_at (flat g) (n ∷ q) ≡ stands_in g n q
stands-below Empty n q nesting = refl
stands-below (FileThen m b rest) n q nesting = go (same_name n m) refl q (stands-below rest n q nesting.1) where
  go : (t : Bool) → same_name n m ≡ t → (q : PathNames) → looked_at (flat rest) (n ∷ q) ≡ stands_in rest n q → looked_at ((m ∷ [], entries.File b) ∷ flat rest) (n ∷ q) ≡ cond t (in_file b q) (stands_in rest n q)
  go true e [] ih = rw e refl
  go true e (k ∷ ks) ih =
      let blank = after-blank n (k ∷ ks) rest (subst (λ (x : Bytes). IsAfter x rest) (sym (same_name-is n m e)) nesting.0) in
      node-back ((m ∷ [], entries.File b) ∷ []) (flat rest) (n ∷ k ∷ ks) (blank-above n m k ks (entries.File b))
      ∙ rw (blank.entry, blank.leads) refl
  go false e q ih = node-back ((m ∷ [], entries.File b) ∷ []) (flat rest) (n ∷ q) (blank-other n m [] q (entries.File b) e) ∙ ih
stands-below (FolderThen m made inside rest) n [] nesting = go (same_name n m) refl (stands-below rest n [] nesting.3) where
  go : (t : Bool) → same_name n m ≡ t → looked_at (flat rest) (n ∷ []) ≡ stands_in rest n [] → looked_at (flat (FolderThen m made inside rest)) (n ∷ []) ≡ cond t (Folder (names_in inside)) (stands_in rest n [])
  go true e ih =
      let blank = after-blank n [] rest (subst (λ (x : Bytes). IsAfter x rest) (sym (same_name-is n m e)) nesting.2) in
      ap (λ t. looked_at t (n ∷ [])) (append_again (mark_of m made) (map (under m) (flat inside)) (flat rest))
      ∙ (node-front (mark_of m made ++ map (under m) (flat inside)) (flat rest) (n ∷ []) blank ∙ folder-here n m made inside e nesting.0 nesting.1)
  go false e ih =
      node-back (mark_of m made) (map (under m) (flat inside) ++ flat rest) (n ∷ []) (mark-other n m [] made e)
      ∙ (node-back (map (under m) (flat inside)) (flat rest) (n ∷ []) (under-other n m [] (flat inside) e) ∙ ih)
stands-below (FolderThen m made inside rest) n (k ∷ ks) nesting = go (same_name n m) refl (stands-below inside k ks nesting.1) (stands-below rest n (k ∷ ks) nesting.3) where
  go : (t : Bool) → same_name n m ≡ t → looked_at (flat inside) (k ∷ ks) ≡ stands_in inside k ks → looked_at (flat rest) (n ∷ k ∷ ks) ≡ stands_in rest n (k ∷ ks)
      → looked_at (flat (FolderThen m made inside rest)) (n ∷ k ∷ ks) ≡ cond t (stands_in inside k ks) (stands_in rest n (k ∷ ks))
  go true e down ih =
      let blank = after-blank n (k ∷ ks) rest (subst (λ (x : Bytes). IsAfter x rest) (sym (same_name-is n m e)) nesting.2) in
      node-back (mark_of m made) (map (under m) (flat inside) ++ flat rest) (n ∷ k ∷ ks) (mark-above n m k ks made)
      ∙ (node-front (map (under m) (flat inside)) (flat rest) (n ∷ k ∷ ks) blank ∙ (under-node n m k ks (flat inside) e ∙ down))
  go false e down ih =
      node-back (mark_of m made) (map (under m) (flat inside) ++ flat rest) (n ∷ k ∷ ks) (mark-other n m (k ∷ ks) made e)
      ∙ (node-back (map (under m) (flat inside)) (flat rest) (n ∷ k ∷ ks) (under-other n m (k ∷ ks) (flat inside) e) ∙ ih)

-- what stands at a path of a nesting's entries is what the walk down the nesting meets
pub walk-flat : (g : Nesting) (p : PathNames) → IsNesting g → node_at (flat g) p ≡ stands_at g p
walk-flat g [] nesting = node-looked (flat g) [] ∙ rw (root-none g) (ap Folder (names-root g nesting))
walk-flat g (n ∷ q) nesting = node-looked (flat g) (n ∷ q) ∙ stands-below g n q nesting
