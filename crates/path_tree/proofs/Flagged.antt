-- A tree's entries by number, and which of them edits name.
use Rattle.std.proofs.Common.{◌≡◌, ℕ, zero, suc, ◌<◌, ◌+◌, Bool, true, false, ◌||◌, List, [], ◌∷◌, length, map, take, get_or, set, Some, None, Ok, cond, refl, ap, sym, ◌∙◌, subst, inl, arith}
use Rattle.std.proofs.Math.Bool.{or-false, or-true}
use Rattle.std.specs.Prelude.{slice_get}
use Rattle.std.specs.List.{AllByRecursion}
use Rattle.std.specs.Option.{option_map}
use Rattle.std.specs.declared.cmp.Ordering.TheVariants.{Less}
use Rattle.std.proofs.lemmas.Bool.{true≢false, false_from_ne_true}
use Rattle.std.proofs.lemmas.List.{get_or-map}
use Rattle.std.proofs.lemmas.List.Elements.{All-from_recursion}
use Rattle.std.proofs.lemmas.List.Folds.{list_any_at, list_any_more}
use Rattle.std.proofs.lemmas.Option.{same_Some}
use Rattle.path_tree.specs.Paths.{PathNames, path_cmp, same_path}
use Rattle.path_tree.specs.Trees.{Tree, IsTree, is_a_file, file_in, entry_at, content_at, content_in, item_at, path_at, bytes_at, is_file_at}
use Rattle.path_tree.specs.Edits.{apply_all, path_in, is_edited, OthersStay, AreAsBefore}
use Rattle.path_tree.specs.declared.entry.Entry.{Entry}
use Rattle.path_tree.specs.declared.entry.Entry.TheVariants as entries
use Rattle.path_tree.specs.declared.tree.Edit.{Edit}
use Rattle.path_tree.proofs.Order.{same_path-refl, same_path-flips, less_not_same, more_not_same}
use Rattle.path_tree.proofs.Rising.{Item, Apart, Rises, rises_tree, each_weaker}
use Rattle.path_tree.proofs.Places.{later}

-- ---- an entry by its number

abbrev no_item : Item
no_item = ([], entries.Folder)

entry_here : (t : Tree) (i : ℕ) → Rises t → i < length t → entry_at t (path_at t i) ≡ Some (item_at t i).1
entry_here [] i r within = absurd (omega (arith, within))
entry_here (e ∷ es) zero r within = rw (same_path-refl e.0) refl
entry_here (e ∷ es) (suc i) r within =
    let below : i < length es = omega (arith, within) in
    rw (more_not_same (path_at es i) e.0 (All-from_recursion (Apart e) es r.1.0 i no_item below).0) (entry_here es i r.1.1 below)

file_here : (x : Entry) → is_a_file x ≡ true → file_in (Some x) ≡ Some (content_in x)
file_here (entries.File b) file = refl
file_here entries.Folder file = cc

-- the bytes of an entry that is a file stand at its path
pub content_here : (t : Tree) (i : ℕ) → IsTree t → i < length t → is_file_at t i ≡ true → content_at t (path_at t i) ≡ Some (bytes_at t i)
content_here t i tree within file = ap file_in (entry_here t i (rises_tree t tree) within) ∙ file_here (item_at t i).1 file

-- ---- which entries edits name

same_flags : (f g : Item → Bool) (t : Tree) → AllByRecursion (λ e. f e ≡ g e) t → map f t ≡ map g t
same_flags f g [] h = refl
same_flags f g (e ∷ es) h = λ i. h.0 i ∷ same_flags f g es h.1 i

abbrev pub flag : List Edit → Item → Bool
flag edits e = is_edited edits e.0

-- flags with those of one path
abbrev pub or_at : (Item → Bool) → PathNames → Item → Bool
or_at f p e = f e || same_path e.0 p

-- an entry at another path keeps its flag
off : (f : Item → Bool) (p : PathNames) (e : Item) → same_path p e.0 ≡ false → f e ≡ or_at f p e
off f p e apart = sym (ap (λ b. f e || b) (same_path-flips e.0 p ∙ apart) ∙ or-false (f e))

none_at : (f : Item → Bool) (p : PathNames) (t : Tree) → entry_at t p ≡ None → AllByRecursion (λ e. f e ≡ or_at f p e) t
none_at f p [] none = tt
none_at f p (e ∷ es) none = go (same_path p e.0) refl none (none_at f p es) where
  go : (b : Bool) → same_path p e.0 ≡ b → cond b (Some e.1) (entry_at es p) ≡ None → (entry_at es p ≡ None → AllByRecursion (λ x. f x ≡ or_at f p x) es) → AllByRecursion (λ x. f x ≡ or_at f p x) (e ∷ es)
  go true is bad rest = cc
  go false is none rest = (off f p e is, rest none)

one_at : (f : Item → Bool) (p : PathNames) (t : Tree) (i : ℕ) → Rises t → option_map (λ e. e.0) (slice_get t i) ≡ Some p → set (map f t) i true ≡ map (or_at f p) t
one_at f p [] i r is = cc
one_at f p (e ∷ es) zero r is =
    let same : e.0 ≡ p = same_Some e.0 p is in
    let on : true ≡ or_at f p e = sym (ap (λ b. f e || b) (ap (same_path e.0) (sym same) ∙ same_path-refl e.0) ∙ or-true (f e)) in
    let others = same_flags f (or_at f p) es (each_weaker es (λ x less. off f p x (less_not_same p x.0 less)) (later p e es (inl same) r.1.0)) in
    λ j. on j ∷ others j
one_at f p (e ∷ es) (suc i) r is = λ j. off f p e (more_not_same p e.0 (before es i r.1.0 is)) j ∷ one_at f p es i r.1.1 is j where
  before : (xs : Tree) (k : ℕ) → AllByRecursion (Apart e) xs → option_map (λ x. x.0) (slice_get xs k) ≡ Some p → path_cmp e.0 p ≡ Less
  before [] k h is = cc
  before (x ∷ xs) zero h is = subst (λ q. path_cmp e.0 q ≡ Less) (same_Some x.0 p is) h.0.0
  before (x ∷ xs) (suc k) h is = before xs k h.1 is

pub found_within : (t : Tree) (p : PathNames) (i : ℕ) → option_map (λ e. e.0) (slice_get t i) ≡ Some p → i < length t
found_within [] p i is = cc
found_within (e ∷ es) p zero is = omega arith
found_within (e ∷ es) p (suc i) is = omega (arith, found_within es p i is)

-- one edit more, whose path was found among the entries or wasn't
next_flags : (t : Tree) (edits : List Edit) (i : ℕ) (d : Edit) → i < length edits → map (or_at (flag (take i edits)) (path_in (get_or edits i d))) t ≡ map (flag (take (i + 1) edits)) t
next_flags t edits i d within = λ j. map (λ (e : Item). sym (list_any_more (λ x. same_path e.0 (path_in x)) edits i d within) j) t

pub one_flagged : (t : Tree) (edits : List Edit) (i entry : ℕ) (e : Edit) → IsTree t → i < length edits → e ≡ get_or edits i e
    → option_map (λ x. x.0) (slice_get t entry) ≡ Some (path_in e) → set (map (flag (take i edits)) t) entry true ≡ map (flag (take (i + 1) edits)) t
one_flagged t edits i entry e tree within is found =
    one_at (flag (take i edits)) (path_in (get_or edits i e)) t entry (rises_tree t tree) (found ∙ ap (λ x. Some (path_in x)) is) ∙ next_flags t edits i e within

pub none_flagged : (t : Tree) (edits : List Edit) (i : ℕ) (e : Edit) → i < length edits → e ≡ get_or edits i e → entry_at t (path_in e) ≡ None → map (flag (take i edits)) t ≡ map (flag (take (i + 1) edits)) t
none_flagged t edits i e within is none =
    let p = path_in (get_or edits i e) in
    same_flags (flag (take i edits)) (or_at (flag (take i edits)) p) t (none_at (flag (take i edits)) p t (ap (λ x. entry_at t (path_in x)) (sym is) ∙ none)) ∙ next_flags t edits i e within

pub as_before : OthersStay → (t : Tree) (edits : List Edit) → IsTree t → (old : Tree) → apply_all old edits ≡ Ok t → AreAsBefore old t (map (flag edits) t)
as_before law t edits tree old applied = λ i within file still.
    let p = path_at t i in
    let none : is_edited edits p ≡ false = sym (get_or-map (flag edits) t i no_item true within) ∙ still in
    ap file_in (sym (law old t edits p applied (λ k d inside. false_from_ne_true (same_path p (path_in (get_or edits k d)))
    (λ e. true≢false (sym (list_any_at (λ x. same_path p (path_in x)) edits k d inside e) ∙ none)))))
    ∙ content_here t i tree within file
