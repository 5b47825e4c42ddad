-- Edits that aren't refused keep a tree a tree.
use Rattle.std.proofs.Common.{◌≡◌, ◌≢◌, ℕ, ◌≤◌, Bool, true, false, ◌||◌, ◌&&◌, [], ◌∷◌, length, Option, Some, None, is_some, cond, nat_lt, if◌then◌else◌, refl, ◌∙◌, ap, subst, arith}
use Rattle.std.specs.List.{AllByRecursion}
use Rattle.std.specs.Ordering.{match_ordering, ordering_reverse}
use Rattle.std.specs.declared.cmp.Ordering.{Ordering}
use Rattle.std.specs.declared.cmp.Ordering.TheVariants.{Less, Equal, Greater}
use Rattle.std.specs.BTreeMap.{insert_entry}
use Rattle.std.specs.Map.{remove_entry}
use Rattle.std.proofs.lemmas.Bool.Decides.{nat_tests}
use Rattle.std.proofs.lemmas.List.Elements.{recursion_from_All}
use Rattle.path_tree.specs.Paths.{Bytes, PathNames, path_cmp, same_path, is_below, IsPath}
use Rattle.path_tree.specs.Trees.{Tree, IsTree, IsApart, HasContent, Fits, is_a_file, is_folder, is_kept, is_through_file, leads_on, entry_at, content_at}
use Rattle.path_tree.specs.Edits.{fault_of, after_edit, IsEdit}
use Rattle.path_tree.specs.declared.entry.Entry.{Entry}
use Rattle.path_tree.specs.declared.entry.Entry.TheVariants as entries
use Rattle.path_tree.specs.declared.tree.TheConstants.{MOST_CONTENT}
use Rattle.path_tree.specs.declared.tree.Edit.{Edit}
use Rattle.path_tree.specs.declared.tree.Edit.TheVariants.{Put, Remove, MakeFolder, RemoveFolder}
use Rattle.path_tree.specs.declared.tree.EditFault.{EditFault}
use Rattle.path_tree.specs.declared.tree.EditFault.TheVariants.{FolderThere, ThroughFile, FileTooLarge, FileThere}
use Rattle.path_tree.proofs.Order.{path_total, path_cmp-is}
use Rattle.path_tree.proofs.Rising.{Item, Apart, Rises, rises_tree, IsItem, ItemHas, ItemFits, tree_from, each_weaker}

-- ---- one entry more

each_insert : (P : Item → Type 0) (t : Tree) (p : PathNames) (x : Entry) → P (p, x) → ((e : Item) → P e → P (e.0, x)) → AllByRecursion P t → AllByRecursion P (insert_entry path_cmp t p x)
each_insert P [] p x here again h = (here, tt)
each_insert P (e ∷ es) p x here again h = go (path_cmp p e.0) (each_insert P es p x here again h.1) where
  go : (o : Ordering) → AllByRecursion P (insert_entry path_cmp es p x) → AllByRecursion P (match_ordering o ((p, x) ∷ e ∷ es) ((e.0, x) ∷ es) (e ∷ insert_entry path_cmp es p x))
  go Less rest = (here, h)
  go Equal rest = (again e h.0, h.1)
  go Greater rest = (h.0, rest)

each_remove : (P : Item → Type 0) (test : PathNames → Bool) (t : Tree) → AllByRecursion P t → AllByRecursion P (remove_entry test t)
each_remove P test [] h = tt
each_remove P test (e ∷ es) h = go (test e.0) (each_remove P test es h.1) where
  go : (b : Bool) → AllByRecursion P (remove_entry test es) → AllByRecursion P (cond b es (e ∷ remove_entry test es))
  go true rest = h.1
  go false rest = (h.0, rest)

rises_remove : (test : PathNames → Bool) (t : Tree) → Rises t → Rises (remove_entry test t)
rises_remove test [] r = tt
rises_remove test (e ∷ es) r = go (test e.0) (rises_remove test es r.1.1) where
  go : (b : Bool) → Rises (remove_entry test es) → Rises (cond b es (e ∷ remove_entry test es))
  go true rest = r.1.1
  go false rest = (r.0, (each_remove (Apart e) test es r.1.0, rest))

-- nothing that the new entry forbids lies below it, and nothing above it forbids it
abbrev Under : PathNames → Entry → Item → Type 0
Under p x e = IsApart x (is_below p e.0)

abbrev Over : PathNames → Item → Type 0
Over p e = IsApart e.1 (is_below e.0 p)

pub rises_insert : (t : Tree) (p : PathNames) (x : Entry) → p ≢ [] → AllByRecursion (Under p x) t → AllByRecursion (Over p) t → Rises t → Rises (insert_entry path_cmp t p x)
rises_insert [] p x deep under over r = (deep, (tt, tt))
rises_insert (e ∷ es) p x deep under over r = go (path_cmp p e.0) refl (rises_insert es p x deep under.1 over.1 r.1.1) where
  both : (fs : Tree) → AllByRecursion (λ f. path_cmp p f.0 ≡ Less) fs → AllByRecursion (Under p x) fs → AllByRecursion (Apart (p, x)) fs
  both [] h k = tt
  both (f ∷ fs) h k = ((h.0, k.0), both fs h.1 k.1)

  same : (fs : Tree) → p ≡ e.0 → AllByRecursion (Apart e) fs → AllByRecursion (Under p x) fs → AllByRecursion (Apart (e.0, x)) fs
  same [] is h k = tt
  same (f ∷ fs) is h k = ((h.0.0, subst (λ (q : PathNames). IsApart x (is_below q f.0)) is k.0), same fs is h.1 k.1)

  go : (o : Ordering) → path_cmp p e.0 ≡ o → Rises (insert_entry path_cmp es p x) → Rises (match_ordering o ((p, x) ∷ e ∷ es) ((e.0, x) ∷ es) (e ∷ insert_entry path_cmp es p x))
  go Less is rest = (deep, (both (e ∷ es) (is, each_weaker es (λ f a. path_total.trans p e.0 f.0 is a.0) r.1.0) under, r))
  go Equal is rest = (r.0, (same es (path_cmp-is p e.0 is) r.1.0 under.1, r.1.1))
  go Greater is rest = (r.0, (each_insert (Apart e) es p x (path_total.antisymm e.0 p ∙ ap ordering_reverse is, over.0) (λ f h. h) r.1.0, rest))

pub tree_insert : (t : Tree) (p : PathNames) (x : Entry) → IsTree t → IsPath p → p ≢ [] → HasContent x → Fits x → AllByRecursion (Under p x) t → AllByRecursion (Over p) t → IsTree (insert_entry path_cmp t p x)
tree_insert t p x h path deep content size under over =
    tree_from (insert_entry path_cmp t p x)
    (each_insert IsItem t p x (path, deep) (λ e k. k) (recursion_from_All IsItem t h.paths))
    (each_insert ItemHas t p x content (λ e k. content) (recursion_from_All ItemHas t h.contents))
    (each_insert ItemFits t p x size (λ e k. size) (recursion_from_All ItemFits t h.sizes))
    (rises_insert t p x deep under over (rises_tree t h))

pub tree_remove : (t : Tree) (p : PathNames) → IsTree t → IsTree (remove_entry (same_path p) t)
tree_remove t p h =
    tree_from (remove_entry (same_path p) t)
    (each_remove IsItem (same_path p) t (recursion_from_All IsItem t h.paths))
    (each_remove ItemHas (same_path p) t (recursion_from_All ItemHas t h.contents))
    (each_remove ItemFits (same_path p) t (recursion_from_All ItemFits t h.sizes))
    (rises_remove (same_path p) t (rises_tree t h))

-- ---- from the tests

or_parts : (a b : Bool) → (a || b) ≡ false → (a ≡ false) × (b ≡ false)
or_parts true b e = cc
or_parts false b e = (refl, e)

over_from : (t : Tree) (p : PathNames) → is_through_file t p ≡ false → AllByRecursion (Over p) t
over_from [] p e = tt
over_from (x ∷ xs) p e =
    let h = or_parts (is_a_file x.1 && is_below x.0 p) (is_through_file xs p) e in
    (go x.1 h.0, over_from xs p h.1)
  where
    go : (y : Entry) → (is_a_file y && is_below x.0 p) ≡ false → IsApart y (is_below x.0 p)
    go (entries.File b) e = e
    go entries.Folder e = tt

under_file : (t : Tree) (p : PathNames) (b : Bytes) → leads_on t p ≡ false → AllByRecursion (Under p (entries.File b)) t
under_file [] p b e = tt
under_file (x ∷ xs) p b e = let h = or_parts (is_below p x.0) (leads_on xs p) e in (h.0, under_file xs p b h.1)

under_folder : (t : Tree) (p : PathNames) → AllByRecursion (Under p entries.Folder) t
under_folder [] p = tt
under_folder (x ∷ xs) p = (tt, under_folder xs p)

-- no test of an edit that isn't refused holds
first_none : (x : Bool) (f : EditFault) (rest : Option EditFault) → (if x then Some f else rest) ≡ None → (x ≡ false) × (rest ≡ None)
first_none true f rest e = cc
first_none false f rest e = (refl, e)

not_over : (a b : ℕ) → nat_lt a b ≡ false → b ≤ a
not_over a b e = grind (arith, nat_tests, e)

no_root : (t : Tree) (p : PathNames) → is_folder t p ≡ false → (p ≢ []) × (leads_on t p ≡ false)
no_root t [] e = cc
no_root t (n ∷ ns) e = (λ is. cc, (or_parts (is_kept (entry_at t (n ∷ ns))) (leads_on t (n ∷ ns)) e).1)

pub edit_keeps : (t : Tree) (e : Edit) → IsTree t → IsEdit e → fault_of t e ≡ None → IsTree (after_edit t e)
edit_keeps t (Put p b) h valid none =
    let first = first_none (is_folder t p) FolderThere (if is_through_file t p then Some ThroughFile else (if nat_lt MOST_CONTENT (length b) then Some FileTooLarge else None)) none in
    let second = first_none (is_through_file t p) ThroughFile (if nat_lt MOST_CONTENT (length b) then Some FileTooLarge else None) first.1 in
    let third = first_none (nat_lt MOST_CONTENT (length b)) FileTooLarge None second.1 in
    let root = no_root t p first.0 in
    tree_insert t p (entries.File b) h valid.0 root.0 valid.1 (not_over MOST_CONTENT (length b) third.0) (under_file t p b root.1) (over_from t p second.0)
edit_keeps t (Remove p) h valid none = tree_remove t p h
edit_keeps t (MakeFolder []) h valid none = cc
edit_keeps t (MakeFolder (n ∷ ns)) h valid none =
    let first = first_none (is_kept (entry_at t (n ∷ ns))) FolderThere (if is_some (content_at t (n ∷ ns)) then Some FileThere else (if is_through_file t (n ∷ ns) then Some ThroughFile else None)) none in
    let second = first_none (is_some (content_at t (n ∷ ns))) FileThere (if is_through_file t (n ∷ ns) then Some ThroughFile else None) first.1 in
    let third = first_none (is_through_file t (n ∷ ns)) ThroughFile None second.1 in
    tree_insert t (n ∷ ns) entries.Folder h valid (λ is. cc) tt tt (under_folder t (n ∷ ns)) (over_from t (n ∷ ns) third.0)
edit_keeps t (RemoveFolder p) h valid none = tree_remove t p h
