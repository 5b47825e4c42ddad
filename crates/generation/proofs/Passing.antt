-- One pass over a tree's entries meets the objects of its nesting.
use Rattle.std.proofs.Common.{drop, ◌≡◌, ℕ, suc, ◌+◌, ◌≤◌, ◌&&◌, Bool, true, false, List, [], ◌∷◌, ◌++◌, length, map, take, get_or, set, zero, ◌<◌, add-one, inl, inr, Some, None, cond, refl, sym, ◌∙◌, ap, subst, arith, append_assoc, append-nil, length-append}
use Rattle.generation.proofs.Words.{drop_more, drop_all, ne_eqb, map-append, Bytes, PathNames, Tree, is_a_file, same_name, same_name-refl, Entry, Nesting, Empty, FileThen, FolderThen, nested, IsAfter, IsNesting, rises_tree, nested-flat, below, spots_in, spots_of, content_in, shared, path_before, spot_at, Keeps, path_at, item_at, view_spot, IsSpotIn, All-push, names_differ, take_all, Less, CodeSpot, length-set, same_name-is, path_cmp, false_from_ne_true, to_come, cases_Bool}
use Rattle.std.proofs.Math.Dec.{eqb-suc-suc}
use Rattle.path_tree.specs.declared.entry.Entry.TheVariants as entries
use Rattle.path_tree.specs.Nestings.{put_before, first_inside, first_made, beside_first}
use Rattle.path_tree.proofs.CallerLemmas.{Rises, no_less, apart_down}
use Rattle.generation.specs.Publication.{count_in}
use Rattle.generation.proofs.Standing.{length-spots}

-- ---- one name more of the entry that stands before all others

-- a folder's own object comes first
folder_met : (n : Bytes) (made : Bool) (inside rest : Nesting) (f h : ℕ) (fs : List ℕ) (next : ℕ)
    → spots_in f next (FolderThen n made inside rest)
    ≡ record { path = n ∷ []; name = n; content = None; number = next; parent = Some f } ∷ to_come (n ∷ []) (f ∷ next ∷ fs) (suc next) (FolderThen n made inside rest)
folder_met n made inside rest f h fs next =
    let e : suc (next + count_in inside) ≡ suc next + length (spots_in next (suc next) inside) = omega (arith, length-spots next (suc next) inside) in
    rw (same_name-refl n) (λ i. record { path = n ∷ []; name = n; content = None; number = next; parent = Some f } ∷ (map (below n) (spots_in next (suc next) inside) ++ spots_in f (e i) rest))

name_met : (p : PathNames) (x : Entry) (depth : ℕ) (fs : List ℕ) (next : ℕ) (g : Nesting) → depth < length p → depth + 1 < length fs
    → to_come (take depth p) fs next (put_before p x g) ≡ spot_at (p, x) depth next (get_or fs depth 0) ∷ to_come (take (suc depth) p) (set fs (suc depth) next) (suc next) (put_before p x g)
name_met [] x depth fs next g lt room = absurd (omega (arith, lt))
name_met (n ∷ r) x depth [] next g lt room = absurd (omega (arith, room))
name_met (n ∷ r) x depth (f ∷ []) next g lt room = absurd (omega (arith, room))
name_met (n ∷ []) (entries.File b) zero (f ∷ h ∷ fs) next g lt room = rw (same_name-refl n) refl
name_met (n ∷ []) entries.Folder zero (f ∷ h ∷ fs) next g lt room = folder_met n true (first_inside n g) (beside_first n g) f h fs next
name_met (n ∷ k ∷ ks) x zero (f ∷ h ∷ fs) next g lt room =
    rw (ne_eqb (suc (suc (length ks))) 1 (λ e. omega (arith, e))) (folder_met n (first_made n g) (put_before (k ∷ ks) x (first_inside n g)) (beside_first n g) f h fs next)
name_met (n ∷ []) x (suc depth) (f ∷ h ∷ fs) next g lt room = absurd (omega (arith, lt))
name_met (n ∷ k ∷ ks) x (suc depth) (f ∷ h ∷ fs) next g lt room =
    let down = name_met (k ∷ ks) x depth (h ∷ fs) next (first_inside n g) (omega (arith, lt)) (omega (arith, room)) in
    let later = to_come (take (suc depth) (k ∷ ks)) (set (h ∷ fs) (suc depth) next) (suc next) (put_before (k ∷ ks) x (first_inside n g)) in
    let content = sym (eqb-suc-suc (length (k ∷ ks)) (suc depth)) in
    let e : next + suc (length later) ≡ suc next + length later = omega arith in
    rw (same_name-refl n) ((λ i. map (below n) (down i) ++ spots_in f (next + length (down i)) (beside_first n g))
    ∙ (λ i. record (below n (spot_at (k ∷ ks, x) depth next (get_or (h ∷ fs) depth 0))) { content = cond (content i && is_a_file x) (Some (content_in x)) None }
    ∷ (map (below n) later ++ spots_in f (e i) (beside_first n g))))

-- ---- all names of it

nothing : (p : PathNames) (fs : List ℕ) (next : ℕ) → to_come p fs next Empty ≡ []
nothing p [] next = refl
nothing [] (f ∷ fs) next = refl
nothing (m ∷ q) (f ∷ fs) next = refl

-- what is to come by what stands under the first name, and beside it
halves : (n : Bytes) (q : PathNames) (f : ℕ) (fs : List ℕ) (next : ℕ) (g : Nesting) → IsAfter n (beside_first n g)
    → let down = to_come q fs next (first_inside n g) in map (below n) down ++ spots_in f (next + length down) (beside_first n g) ≡ to_come (n ∷ q) (f ∷ fs) next g
halves n q f fs next Empty after = rw (nothing q fs next) refl
halves n q f fs next (FileThen m b rest) after =
    let e : next + 0 ≡ next = omega arith in rw (nothing q fs next, names_differ n m after.0) (λ i. spots_in f (e i) (FileThen m b rest))
halves n q f fs next (FolderThen m made inside rest) after = elim (cases_Bool (same_name n m)) [
  | inl is ↦ let down = to_come q fs next inside in rw is (λ i. map (below (same_name-is n m is i)) down ++ spots_in f (next + length down) rest)
  | inr is ↦ let e : next + 0 ≡ next = omega arith in rw (is, nothing q fs next) (λ i. spots_in f (e i) (FolderThen m made inside rest))
]

entry_over : (p : PathNames) (x : Entry) (fs : List ℕ) (next : ℕ) (g : Nesting) → IsNesting (put_before p x g) → to_come p fs next (put_before p x g) ≡ to_come p fs next g
entry_over [] x fs next g nesting = refl
entry_over (n ∷ r) x [] next g nesting = refl
entry_over (n ∷ []) (entries.File b) (f ∷ fs) next g nesting = rw (same_name-refl n) (passed g nesting.0) where
  passed : (g : Nesting) → IsAfter n g → spots_in f next g ≡ to_come (n ∷ []) (f ∷ fs) next g
  passed Empty after = refl
  passed (FileThen m b rest) after = rw (names_differ n m after.0) refl
  passed (FolderThen m made inside rest) after = rw (names_differ n m after.0) refl
entry_over (n ∷ []) entries.Folder (f ∷ fs) next g nesting = rw (same_name-refl n) (halves n [] f fs next g nesting.2)
entry_over (n ∷ k ∷ ks) x (f ∷ fs) next g nesting =
    let down = entry_over (k ∷ ks) x fs next (first_inside n g) nesting.1 in
    rw (same_name-refl n) ((λ i. map (below n) (down i) ++ spots_in f (next + length (down i)) (beside_first n g)) ∙ halves n (k ∷ ks) f fs next g nesting.2)

-- ---- only the names that a path shares with the one before it count

single : (m n : Bytes) (q : PathNames) → path_cmp (m ∷ q) (n ∷ []) ≡ Less → same_name m n ≡ false
single m n q less = false_from_ne_true (same_name m n) (λ is. no_less q (apart_down m n q [] entries.Folder entries.Folder is (less, tt)).0)

begun : (last p : PathNames) (x : Entry) (fs : List ℕ) (next : ℕ) (g : Nesting) → path_cmp last p ≡ Less
    → to_come last fs next (put_before p x g) ≡ to_come (take (shared last p) p) fs next (put_before p x g)
begun last p x [] next g less = refl
begun [] p x (f ∷ fs) next g less = refl
begun (m ∷ q) [] x (f ∷ fs) next g less = absurd (no_less (m ∷ q) less)
begun (m ∷ q) (n ∷ []) (entries.File b) (f ∷ fs) next g less = rw (single m n q less) refl
begun (m ∷ q) (n ∷ []) entries.Folder (f ∷ fs) next g less = rw (single m n q less) refl
begun (m ∷ q) (n ∷ k ∷ ks) x (f ∷ fs) next g less = elim (cases_Bool (same_name m n)) [
  | inl is ↦
      let down = begun q (k ∷ ks) x fs next (first_inside n g) (apart_down m n q (k ∷ ks) entries.Folder x is (less, tt)).0 in
      rw (is, same_name-refl n) (λ i. map (below n) (down i) ++ spots_in f (next + length (down i)) (beside_first n g))
  | inr is ↦ rw is refl
]

-- ---- as the code goes on

left_is : (t : Tree) (at : ℕ) → at < length t → nested (drop at t) ≡ put_before (path_at t at) (item_at t at).1 (nested (drop (at + 1) t))
left_is t at lt = ap nested (drop_more t at ([], entries.Folder) lt)

-- the same objects, said of another path and other entries
kept_as : (t : Tree) (p q : PathNames) (left rest : Tree) (spots : List CodeSpot) (folders : List ℕ) → Keeps t p left spots folders
    → to_come q folders (length spots) (nested rest) ≡ to_come p folders (length spots) (nested left) → Keeps t q rest spots folders
kept_as t p q left rest spots folders h e = record { tree = h.tree; each = ap (λ l. map (view_spot t) spots ++ l) e ∙ h.each; valid = h.valid; many = h.many }

pub entry_begun : (t : Tree) (at : ℕ) (spots : List CodeSpot) (folders : List ℕ) → at < length t → Keeps t (path_before t at) (drop at t) spots folders
    → Keeps t (take (shared (path_before t at) (path_at t at)) (path_at t at)) (drop at t) spots folders
entry_begun t zero spots folders lt h = h
entry_begun t (suc at) spots folders lt h =
    let less = h.tree.in_order at (suc at) ([], entries.Folder) (omega arith) lt in
    kept_as t (path_at t at) (take (shared (path_at t at) (path_at t (suc at))) (path_at t (suc at))) (drop (suc at) t) (drop (suc at) t) spots folders h
    (rw (left_is t (suc at) lt) (sym (begun (path_at t at) (path_at t (suc at)) (item_at t (suc at)).1 folders (length spots) (nested (drop (suc at + 1) t)) less)))

-- one object more
pub name_kept : (t : Tree) (at depth : ℕ) (spots : List CodeSpot) (folders : List ℕ) (spot : CodeSpot) (number parent : ℕ) → at < length t → depth < length (path_at t at) → depth < 16
    → Keeps t (take depth (path_at t at)) (drop at t) spots folders → number ≡ length spots → view_spot t spot ≡ spot_at (item_at t at) depth number parent → parent ≡ get_or folders depth 0
    → IsSpotIn t spot → Keeps t (take (depth + 1) (path_at t at)) (drop at t) (spots ++ spot ∷ []) (set folders (depth + 1) number)
name_kept t at depth spots folders spot number parent lt within small h en is ep valid =
    let e = item_at t at in
    let met = name_met e.0 e.1 depth folders (length spots) (nested (drop (at + 1) t)) within (omega (arith, small, h.many)) in
    let left = left_is t at lt in
    let own : view_spot t spot ≡ spot_at e depth (length spots) (get_or folders depth 0) = is ∙ (λ i. spot_at e depth (en i) (ep i)) in
    let long : length (spots ++ spot ∷ []) ≡ suc (length spots) = omega (arith, length-append spots (spot ∷ [])) in
    record {
      tree = h.tree;
      each = (λ i. map-append (view_spot t) spots (spot ∷ []) i ++ to_come (take (add-one depth i) e.0) (set folders (add-one depth i) (en i)) (long i) (left i))
          ∙ append_assoc (map (view_spot t) spots) (view_spot t spot ∷ []) _
          ∙ (λ i. map (view_spot t) spots ++ own i ∷ to_come (take (suc depth) e.0) (set folders (suc depth) (length spots)) (suc (length spots)) (put_before e.0 e.1 (nested (drop (at + 1) t))))
          ∙ (λ i. map (view_spot t) spots ++ sym met i) ∙ (λ i. map (view_spot t) spots ++ to_come (take depth e.0) folders (length spots) (sym left i)) ∙ h.each;
      valid = All-push (IsSpotIn t) spots spot h.valid valid;
      many = length-set folders (depth + 1) number ∙ h.many;
    }

rises_drop : (k : ℕ) (t : Tree) → Rises t → Rises (drop k t)
rises_drop zero t r = r
rises_drop (suc k) [] r = r
rises_drop (suc k) (e ∷ es) r = rises_drop k es r.1.1

-- one entry more
pub entry_kept : (t : Tree) (at depth : ℕ) (spots : List CodeSpot) (folders : List ℕ) → at < length t → length (path_at t at) ≤ depth
    → Keeps t (take depth (path_at t at)) (drop at t) spots folders → Keeps t (path_before t (at + 1)) (drop (at + 1) t) spots folders
entry_kept t at depth spots folders lt over h =
    let e = item_at t at in
    let left = left_is t at lt in
    let nesting = subst IsNesting left (nested-flat (drop at t) (rises_drop at t (rises_tree t h.tree))).1 in
    kept_as t (take depth e.0) (path_before t (at + 1)) (drop at t) (drop (at + 1) t) spots folders h
    ((λ i. to_come (path_before t (add-one at i)) folders (length spots) (nested (drop (at + 1) t)))
    ∙ sym (entry_over e.0 e.1 folders (length spots) (nested (drop (at + 1) t)) nesting) ∙ (λ i. to_come (sym (take_all depth e.0 over) i) folders (length spots) (sym left i)))

pub all_kept : (es t : Tree) (path : PathNames) (at : ℕ) (spots : List CodeSpot) (folders : List ℕ) → es ≡ t → length es ≤ at → Keeps es path (drop at es) spots folders → map (view_spot t) spots ≡ spots_of t
all_kept es t path at spots folders same over h =
    subst (λ u. map (view_spot u) spots ≡ spots_of u) same (sym (append-nil _) ∙ ap (λ l. map (view_spot es) spots ++ l) (sym (ap (λ l. to_come path folders (length spots) (nested l)) (drop_all at es over) ∙ nothing path folders (length spots))) ∙ h.each)
