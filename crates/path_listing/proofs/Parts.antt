-- A walk in parts: the paths below a path by more and more of its folder's names.
use Rattle.std.proofs.Common.{◌≡◌, ℕ, zero, suc, ◌+◌, ◌-◌, ◌<◌, ◌≤◌, Bool, true, false, cond, not, ◌&&◌, nat_le, nat_lt, List, [], ◌∷◌, ◌++◌, length, take, drop, Some, None, Ok, refl, sym, ap, ◌∙◌, subst, arith, append-nil, append_assoc, length-append}
use Rattle.std.specs.Prelude.{slice_get}
use Rattle.std.specs.List.{flat_map, list_any, filter}
use Rattle.std.proofs.lemmas.List.{take-append-le, take_all, take-append-drop, take_more, length-take}
use Rattle.std.proofs.lemmas.List.Elements.{filter-append}
use Rattle.std.proofs.lemmas.Grind.{flat_map-append}
use Rattle.std.proofs.lemmas.Bool.{le-leb, leb-true, lt-leb, leb-false, ltb-false, not-true, not-false}
use Rattle.std.proofs.lemmas.Option.{same_Some, slice_get_within, get_or_from_slice_get}
use Rattle.path_tree.specs.Paths.{Bytes, PathNames, same_name}
use Rattle.path_tree.specs.Texts.{is_name, with_below, path_of}
use Rattle.path_resolver.specs.Names.{is_first_in}
use Rattle.path_resolver.specs.declared.answer.Answer.{Answer}
use Rattle.path_resolver.specs.declared.answer.Answer.TheVariants as answers
use Rattle.path_listing.specs.Firsts.{first_only}
use Rattle.path_listing.specs.Walk.{names_in, walk, all_paths}
use Rattle.path_listing.specs.Inner.Walk.{folder_in, paths_below, paths_by, Lists}
use Rattle.path_listing.proofs.Firsts.{rest_of, first_only-append, rest_of-one}

-- ---- listings one after another

pub lists_nothing : (b : List PathNames) → length b ≤ 65536 → Lists [] b b true
lists_nothing b few = record {
  after_is = sym (ap (take 65536) (append-nil b) ∙ take_all 65536 b few);
  whole_is = sym (le-leb (length b + 0) 65536 (omega (arith, few)));
}

-- the same paths in other words
pub lists_as : {ps qs b m : List PathNames} {w : Bool} → ps ≡ qs → Lists ps b m w → Lists qs b m w
lists_as {b = b} {m = m} {w = w} e s = let P : List PathNames → Type 0 = λ ps. Lists ps b m w in subst P e s

-- all paths found room
room_for : {ps b m : List PathNames} → Lists ps b m true → length b + length ps ≤ 65536
room_for {ps} {b} s = leb-true (length b + length ps) 65536 (sym s.whole_is)

pub all_after : {ps b m : List PathNames} → Lists ps b m true → m ≡ b ++ ps
all_after {ps} {b} s = s.after_is ∙ take_all 65536 (b ++ ps) (omega (arith, room_for s, length-append b ps))

pub few_after : {ps b m : List PathNames} {w : Bool} → Lists ps b m w → length m ≤ 65536
few_after {ps} {b} s = omega (arith, ap length s.after_is, length-take 65536 (b ++ ps))

pub lists_then : (ps qs b m n : List PathNames) (w : Bool) → Lists ps b m true → Lists qs m n w → Lists (ps ++ qs) b n w
lists_then ps qs b m n w s t =
    let e : m ≡ b ++ ps = all_after s in
    let all : length m + length qs ≡ length b + length (ps ++ qs) = omega (arith, ap length e, length-append b ps, length-append ps qs) in
    record {
      after_is = t.after_is ∙ ap (λ (xs : List PathNames). take 65536 (xs ++ qs)) e ∙ ap (take 65536) (append_assoc b ps qs);
      whole_is = t.whole_is ∙ ap (λ k. nat_le k 65536) all;
    }

-- where there wasn't room, nothing more is listed
pub lists_full : (ps qs b m : List PathNames) → Lists ps b m false → Lists (ps ++ qs) b m false
lists_full ps qs b m s =
    let full : 65536 < length b + length ps = leb-false (length b + length ps) 65536 (sym s.whole_is) in
    record {
      after_is = s.after_is ∙ sym (take-append-le 65536 (b ++ ps) qs (omega (arith, full, length-append b ps))) ∙ ap (take 65536) (append_assoc b ps qs);
      whole_is = sym (lt-leb (length b + length (ps ++ qs)) 65536 (omega (arith, full, length-append ps qs)));
    }

pub lists_one : (p : PathNames) (b : List PathNames) → length b < 65536 → Lists (p ∷ []) b (b ++ p ∷ []) true
lists_one p b few = record {
  after_is = sym (take_all 65536 (b ++ p ∷ []) (omega (arith, few, length-append b (p ∷ []))));
  whole_is = sym (le-leb (length b + 1) 65536 (omega (arith, few)));
}

pub lists_pushed : (p : PathNames) (b m : List PathNames) → length b < 65536 → m ≡ b ++ p ∷ [] → Lists (p ∷ []) b m true
lists_pushed p b m few e = rw e (lists_one p b few)

-- ---- the names of a folder, one after another

below_append : (answer : PathNames → Answer) (room : ℕ) (p : PathNames) (xs ys : List Bytes) → paths_below answer room p (xs ++ ys) ≡ paths_below answer room p xs ++ flat_map (λ n. walk answer room (p ++ n ∷ [])) (filter is_name (rest_of same_name xs ys))
below_append answer room p xs ys =
    ap (λ (ns : List Bytes). flat_map (λ n. walk answer room (p ++ n ∷ [])) (filter is_name ns)) (first_only-append same_name xs ys)
    ∙ ap (flat_map (λ n. walk answer room (p ++ n ∷ []))) (filter-append is_name (first_only same_name xs) (rest_of same_name xs ys))
    ∙ flat_map-append (λ n. walk answer room (p ++ n ∷ [])) (filter is_name (first_only same_name xs)) (filter is_name (rest_of same_name xs ys))

by_one : (answer : PathNames → Answer) (room : ℕ) (p : PathNames) (n : Bytes) → flat_map (λ m. walk answer room (p ++ m ∷ [])) (filter is_name (n ∷ [])) ≡ paths_by answer room p n
by_one answer room p n = go (is_name n) where
  go : (b : Bool) → flat_map (λ m. walk answer room (p ++ m ∷ [])) (cond b (n ∷ []) []) ≡ cond b (walk answer room (p ++ n ∷ [])) []
  go true = append-nil (walk answer room (p ++ n ∷ []))
  go false = refl

front_more : (xs : List Bytes) (i : ℕ) (n : Bytes) → slice_get xs i ≡ Some n → take (i + 1) xs ≡ take i xs ++ n ∷ []
front_more xs i n e = take_more xs i n (slice_get_within xs i n e) ∙ ap (λ (m : Bytes). take i xs ++ m ∷ []) (get_or_from_slice_get xs i n n e)

-- a name that stood before
pub below_met : (answer : PathNames → Answer) (room : ℕ) (p : PathNames) (xs : List Bytes) (i : ℕ) (n : Bytes) → slice_get xs i ≡ Some n → list_any (λ m. same_name m n) (take i xs) ≡ true → paths_below answer room p (take (i + 1) xs) ≡ paths_below answer room p (take i xs)
below_met answer room p xs i n e met =
    ap (paths_below answer room p) (front_more xs i n e) ∙ below_append answer room p (take i xs) (n ∷ [])
    ∙ ap (λ (ns : List Bytes). paths_below answer room p (take i xs) ++ flat_map (λ m. walk answer room (p ++ m ∷ [])) (filter is_name ns)) (rest_of-one same_name (take i xs) n ∙ ap (λ b. cond b [] (n ∷ [])) met)
    ∙ append-nil (paths_below answer room p (take i xs))

-- a name that stands for the first time
pub below_new : (answer : PathNames → Answer) (room : ℕ) (p : PathNames) (xs : List Bytes) (i : ℕ) (n : Bytes) → slice_get xs i ≡ Some n → list_any (λ m. same_name m n) (take i xs) ≡ false → paths_below answer room p (take (i + 1) xs) ≡ paths_below answer room p (take i xs) ++ paths_by answer room p n
below_new answer room p xs i n e new =
    ap (paths_below answer room p) (front_more xs i n e) ∙ below_append answer room p (take i xs) (n ∷ [])
    ∙ ap (λ (ns : List Bytes). paths_below answer room p (take i xs) ++ flat_map (λ m. walk answer room (p ++ m ∷ [])) (filter is_name ns)) (rest_of-one same_name (take i xs) n ∙ ap (λ b. cond b [] (n ∷ [])) new)
    ∙ ap (λ (qs : List PathNames). paths_below answer room p (take i xs) ++ qs) (by_one answer room p n)

-- the paths by a prefix of the names are a prefix of all
below_rest : (answer : PathNames → Answer) (room : ℕ) (p : PathNames) (xs : List Bytes) (i : ℕ) → (rest : List PathNames) × (paths_below answer room p xs ≡ paths_below answer room p (take i xs) ++ rest)
below_rest answer room p xs i = (
  flat_map (λ n. walk answer room (p ++ n ∷ [])) (filter is_name (rest_of same_name (take i xs) (drop i xs))),
  ap (paths_below answer room p) (sym (take-append-drop i xs)) ∙ below_append answer room p (take i xs) (drop i xs),
)

-- ---- one path

-- a path whose answer is no folder, or that has sixteen names
walk_end : (answer : PathNames → Answer) (room : ℕ) (p : PathNames) → names_in (answer p) ≡ [] → walk answer room p ≡ p ∷ []
unfolding walk
walk_end answer zero p e = refl
walk_end answer (suc room) p e = ap (λ (ns : List Bytes). p ∷ flat_map (λ n. walk answer room (p ++ n ∷ [])) ns) e

pub walk_deep : (answer : PathNames → Answer) (room : ℕ) (p : PathNames) → room ≡ 0 → walk answer room p ≡ p ∷ []
unfolding walk
walk_deep answer zero p e = refl
walk_deep answer (suc room) p e = absurd (omega (arith, e))

walk_suc : (answer : PathNames → Answer) (room : ℕ) (p : PathNames) → walk answer (suc room) p ≡ p ∷ flat_map (λ n. walk answer room (p ++ n ∷ [])) (names_in (answer p))
unfolding walk
walk_suc answer room p = refl

pub walk_folder : (answer : PathNames → Answer) (p : PathNames) (ns : List Bytes) → length p < 16 → answer p ≡ answers.Folder ns → walk answer (16 - length p) p ≡ (p ∷ []) ++ paths_below answer (15 - length p) p ns
walk_folder answer p ns few e =
    let s : 16 - length p ≡ suc (15 - length p) = omega (arith, few) in
    ap (λ r. walk answer r p) s ∙ walk_suc answer (15 - length p) p ∙ ap (λ a. p ∷ flat_map (λ n. walk answer (15 - length p) (p ++ n ∷ [])) (names_in a)) e

pub walk_none : (answer : PathNames → Answer) (room : ℕ) (p : PathNames) → folder_in (answer p) ≡ None → walk answer room p ≡ p ∷ []
walk_none answer room p e = walk_end answer room p (go (answer p) e) where
  go : (a : Answer) → folder_in a ≡ None → names_in a ≡ []
  go (answers.File b) e = refl
  go (answers.Folder ns) e = cc
  go answers.NoSuch e = refl
  go (answers.NotYet m) e = refl
  go answers.NoCarousel e = refl
  go answers.Elsewhere e = refl
  go (answers.Compressed m) e = refl
  go (answers.Bad m place) e = refl
  go (answers.Dangling m) e = refl
  go (answers.OtherKind m) e = refl

pub folder_is : (a : Answer) (ns : List Bytes) → folder_in a ≡ Some ns → a ≡ answers.Folder ns
folder_is (answers.File b) ns e = cc
folder_is (answers.Folder ms) ns e = ap answers.Folder (same_Some ms ns e)
folder_is answers.NoSuch ns e = cc
folder_is (answers.NotYet m) ns e = cc
folder_is answers.NoCarousel ns e = cc
folder_is answers.Elsewhere ns e = cc
folder_is (answers.Compressed m) ns e = cc
folder_is (answers.Bad m place) ns e = cc
folder_is (answers.Dangling m) ns e = cc
folder_is (answers.OtherKind m) ns e = cc

walk_some : (answer : PathNames → Answer) (room : ℕ) (p : PathNames) → (rest : List PathNames) × (walk answer room p ≡ (p ∷ []) ++ rest)
unfolding walk
walk_some answer zero p = ([], refl)
walk_some answer (suc room) p = (flat_map (λ n. walk answer room (p ++ n ∷ [])) (names_in (answer p)), refl)

-- there is no room, and the path is due
pub lists_none : (answer : PathNames → Answer) (room : ℕ) (p : PathNames) (b : List PathNames) → length b ≡ 65536 → Lists (walk answer room p) b b false
lists_none answer room p b e =
    let some = walk_some answer room p in
    let long : 0 < length (walk answer room p) = rw some.1 (omega (arith, length-append (p ∷ []) some.0)) in
    record {
      after_is = sym (take-append-le 65536 b (walk answer room p) (omega (arith, e)) ∙ take_all 65536 b (omega (arith, e)));
      whole_is = sym (lt-leb (length b + length (walk answer room p)) 65536 (omega (arith, e, long)));
    }

pub lists_at : (answer : PathNames → Answer) (q p : PathNames) (ns : List Bytes) (b m : List PathNames) (w : Bool) → q ≡ p → Lists (paths_below answer (15 - length q) q ns) b m w
    → Lists (paths_below answer (15 - length p) p ns) b m w
lists_at answer q p ns b m w e s = lists_as (ap (λ r. paths_below answer (15 - length r) r ns) e) s

pub lists_folder : (answer : PathNames → Answer) (p : PathNames) (ns : List Bytes) (b m n : List PathNames) (w : Bool) → length p < 16 → folder_in (answer p) ≡ Some ns → length b < 65536
    → m ≡ b ++ p ∷ [] → Lists (paths_below answer (15 - length p) p ns) m n w → Lists (walk answer (16 - length p) p) b n w
lists_folder answer p ns b m n w few e room f s =
    let one : Lists (p ∷ []) b m true = rw f (lists_one p b room) in
    rw (walk_folder answer p ns few (folder_is (answer p) ns e)) (lists_then (p ∷ []) (paths_below answer (15 - length p) p ns) b m n w one s)

-- a path by one name
pub below_some : (answer : PathNames → Answer) (p : PathNames) (n : Bytes) (q : PathNames) → length p < 16 → Some q ≡ with_below p n → walk answer (16 - length q) q ≡ paths_by answer (15 - length p) p n
below_some answer p n q few e = go (is_name n) refl (nat_lt (length p) 16) e where
  go : (b : Bool) → is_name n ≡ b → (c : Bool) → Some q ≡ cond (b && c) (Some (p ++ n ∷ [])) None → walk answer (16 - length q) q ≡ cond b (walk answer (15 - length p) (p ++ n ∷ [])) []
  go true i true e =
      let same : q ≡ p ++ n ∷ [] = same_Some q (p ++ n ∷ []) e in
      let room : 16 - length (p ++ n ∷ []) ≡ 15 - length p = omega (arith, length-append p (n ∷ [])) in
      ap (λ (r : PathNames). walk answer (16 - length r) r) same ∙ ap (λ k. walk answer k (p ++ n ∷ [])) room
  go true i false e = cc
  go false i c e = cc

-- a name that leads to no path
pub below_none : (answer : PathNames → Answer) (p : PathNames) (n : Bytes) → length p < 16 → None ≡ with_below p n → paths_by answer (15 - length p) p n ≡ []
below_none answer p n few e = go (is_name n) (nat_lt (length p) 16) refl e where
  go : (b c : Bool) → nat_lt (length p) 16 ≡ c → None ≡ cond (b && c) (Some (p ++ n ∷ [])) None → cond b (walk answer (15 - length p) (p ++ n ∷ [])) [] ≡ []
  go true true l e = cc
  go true false l e = absurd (omega (arith, few, ltb-false (length p) 16 l))
  go false c l e = refl

-- ---- whether a name stood before

unmet_or_met : (xs : List Bytes) (i : ℕ) (n : Bytes) (b : Bool) → slice_get xs i ≡ Some n → is_first_in xs i ≡ b → not (list_any (λ m. same_name m n) (take i xs)) ≡ b
unmet_or_met xs i n b at e = ap (λ (k : Bytes). not (list_any (λ m. same_name m k) (take i xs))) (sym (get_or_from_slice_get xs i n [] at)) ∙ e

pub unmet : (xs : List Bytes) (i : ℕ) (n : Bytes) → slice_get xs i ≡ Some n → is_first_in xs i ≡ true → list_any (λ m. same_name m n) (take i xs) ≡ false
unmet xs i n at e = not-true _ (unmet_or_met xs i n true at e)

pub met : (xs : List Bytes) (i : ℕ) (n : Bytes) → slice_get xs i ≡ Some n → is_first_in xs i ≡ false → list_any (λ m. same_name m n) (take i xs) ≡ true
met xs i n at e = not-false _ (unmet_or_met xs i n false at e)

-- ---- one name more of a folder

front_by : (answer : PathNames → Answer) (room : ℕ) (p : PathNames) (xs : List Bytes) (i : ℕ) (n : Bytes) → slice_get xs i ≡ Some n → list_any (λ m. same_name m n) (take i xs) ≡ false
    → (rest : List PathNames) × (paths_below answer room p xs ≡ (paths_below answer room p (take i xs) ++ paths_by answer room p n) ++ rest)
front_by answer room p xs i n e new =
    let rest = below_rest answer room p xs (i + 1) in
    (rest.0, rest.1 ∙ ap (λ (ps : List PathNames). ps ++ rest.0) (below_new answer room p xs i n e new))

pub next_lists : (answer : PathNames → Answer) (room : ℕ) (p : PathNames) (xs : List Bytes) (i : ℕ) (n : Bytes) (b m k : List PathNames) → slice_get xs i ≡ Some n → list_any (λ m. same_name m n) (take i xs) ≡ false
    → Lists (paths_below answer room p (take i xs)) b m true → Lists (paths_by answer room p n) m k true → Lists (paths_below answer room p (take (i + 1) xs)) b k true
next_lists answer room p xs i n b m k e new s t =
    subst (λ (ps : List PathNames). Lists ps b k true) (sym (below_new answer room p xs i n e new))
    (lists_then (paths_below answer room p (take i xs)) (paths_by answer room p n) b m k true s t)

pub full_lists : (answer : PathNames → Answer) (room : ℕ) (p : PathNames) (xs : List Bytes) (i : ℕ) (n : Bytes) (b m k : List PathNames) → slice_get xs i ≡ Some n → list_any (λ m. same_name m n) (take i xs) ≡ false
    → Lists (paths_below answer room p (take i xs)) b m true → Lists (paths_by answer room p n) m k false → Lists (paths_below answer room p xs) b k false
full_lists answer room p xs i n b m k e new s t =
    let rest = front_by answer room p xs i n e new in
    let front = paths_below answer room p (take i xs) ++ paths_by answer room p n in
    subst (λ (ps : List PathNames). Lists ps b k false) (sym rest.1)
    (lists_full front rest.0 b k (lists_then (paths_below answer room p (take i xs)) (paths_by answer room p n) b m k false s t))

-- ---- the whole listing, from the root on

pub root_is : (root : PathNames) → path_of (47 ∷ []) ≡ Ok root → root ≡ []
root_is root e = cc

pub all_listed : (answer : PathNames → Answer) (root : PathNames) (before after : List PathNames) (w : Bool) → root ≡ [] → before ≡ [] → Lists (walk answer (16 - length root) root) before after w
    → (after ≡ take 65536 (all_paths answer)) × (w ≡ nat_le (length (all_paths answer)) 65536)
all_listed answer root before after w e none s =
    let from_root : Lists (walk answer 16 []) [] after w = subst (λ (r : PathNames). Lists (walk answer (16 - length r) r) [] after w) e (rw none at s) in
    let n : 0 + length (walk answer 16 []) ≡ length (walk answer 16 []) = omega arith in
    (from_root.after_is, from_root.whole_is ∙ ap (λ k. nat_le k 65536) n)
