-- Trees that are the same, and trees that follow each other on the air.
use Rattle.std.proofs.Common.{◌≡◌, ℕ, Bool, true, false, ◌&&◌, List, [], ◌∷◌, ◌++◌, Option, Some, None, refl, sym, ap, ◌∙◌, cond, subst, length, nat_eq}
use Rattle.std.specs.List.{fold, last_or}
use Rattle.std.proofs.lemmas.Option.{same_Some}
use Rattle.std.proofs.lemmas.Bool.{ne_eqb}
use Rattle.path_tree.specs.Paths.{Bytes, PathNames, same_path}
use Rattle.path_tree.specs.Trees.{Tree}
use Rattle.path_tree.specs.declared.entry.Entry.{Entry}
use Rattle.path_tree.specs.declared.entry.Entry.TheVariants as entries
use Rattle.path_tree.proofs.CallerLemmas.{same_name-is, same_name-refl, same_path-is, same_path-refl}
use Rattle.std.specs.Bool.{Decides}
use Rattle.folder_playout.specs.OnAir.{OnAir, begun, on_air, same_entry, same_node, same_tree, taken, turn, with_cycle, with_tree}
use Rattle.folder_playout.specs.Readings.{Reading, Found, Refused, Failed}
use Rattle.folder_playout.specs.Laws.{Change}

both : (a b : Bool) → (a && b) ≡ true → (a ≡ true) × (b ≡ true)
both true true e = (refl, refl)
both true false e = absurd (cc)
both false b e = absurd (cc)

node_is : (x y : Entry) → same_node x y ≡ true → x ≡ y
node_is (entries.File b) (entries.File c) h = ap (λ (bytes : Bytes). entries.File bytes) (same_name-is b c h)
node_is (entries.File b) entries.Folder h = absurd (cc)
node_is entries.Folder (entries.File c) h = absurd (cc)
node_is entries.Folder entries.Folder h = refl

node_alike : (x : Entry) → same_node x x ≡ true
node_alike (entries.File b) = same_name-refl b
node_alike entries.Folder = refl

pub entry_is : (e f : PathNames × Entry) → same_entry e f ≡ true → e ≡ f
entry_is e f h =
    let parts = both (same_path e.0 f.0) (same_node e.1 f.1) h in
    ap (λ (p : PathNames). (p, e.1)) (same_path-is e.0 f.0 parts.0) ∙ ap (λ (x : Entry). (f.0, x)) (node_is e.1 f.1 parts.1)

pub entry_alike : (e : PathNames × Entry) → same_entry e e ≡ true
entry_alike e = rw (same_path-refl e.0, node_alike e.1) refl

pub same_is : (t u : Tree) → same_tree t u ≡ true → t ≡ u
same_is [] [] e = refl
same_is [] (f ∷ fs) e = absurd (cc)
same_is (e ∷ es) [] h = absurd (cc)
same_is (e ∷ es) (f ∷ fs) h =
    let first = both (same_entry e f) (same_tree es fs) h in
    ap (λ x. x ∷ es) (entry_is e f first.0) ∙ ap (λ ts. f ∷ ts) (same_is es fs first.1)

pub same_alike : (t : Tree) → same_tree t t ≡ true
same_alike [] = refl
same_alike (e ∷ es) = rw (entry_alike e) (same_alike es)

-- a test that answers whether two trees are one answers `same_tree`
pub same_by : (t u : Tree) (r : Bool) → Decides r (t ≡ u) → r ≡ same_tree t u
same_by t u true d = sym (subst (λ v. same_tree t v ≡ true) (d.0 refl) (same_alike t))
same_by t u false d = by (same_tree t u) refl where
  by : (b : Bool) → same_tree t u ≡ b → false ≡ b
  by true e = d.1 (same_is t u e)
  by false e = refl

-- after a reading of a tree the generation on the air carries it
pub carried : (s : OnAir) (t : Tree) → (taken s (Found t)).generation.tree ≡ t
carried s t = by (same_tree t s.generation.tree) refl where
  by : (b : Bool) → same_tree t s.generation.tree ≡ b → (cond b s (with_tree t s)).generation.tree ≡ t
  by true e = sym (same_is t s.generation.tree e)
  by false e = refl

-- the last of the trees is that on the air, and neighbours differ
record Stands (s : OnAir) : Type 0 where
  pub last : last_or None s.trees ≡ Some s.generation.tree
  pub change : Change s.trees

last_push : (before : Option Tree) (ts : List Tree) (t : Tree) → last_or before (ts ++ t ∷ []) ≡ Some t
last_push before [] t = refl
last_push before (u ∷ us) t = last_push (Some u) us t

change_push : (before : Option Tree) (ts : List Tree) (t u : Tree) → last_or before ts ≡ Some u → same_tree t u ≡ false → Change ts → Change (ts ++ t ∷ [])
change_push before [] t u last other c = tt
change_push before (v ∷ []) t u last other c = (rw (same_Some v u last) other, tt)
change_push before (v ∷ w ∷ ws) t u last other c = (c.0, change_push (Some v) (w ∷ ws) t u last other c.1)

taken_stands : (s : OnAir) (reading : Reading) → Stands s → Stands (taken s reading)
taken_stands s (Found tree) h = by (same_tree tree s.generation.tree) refl where
  by : (b : Bool) → same_tree tree s.generation.tree ≡ b → Stands (cond b s (with_tree tree s))
  by true e = h
  by false e = record { last = last_push None s.trees tree; change = change_push None s.trees tree s.generation.tree h.last e h.change }
taken_stands s (Refused fault path) h = h
taken_stands s (Failed path) h = h

turns_stand : (weights : List ℕ) (s : OnAir) (readings : List Reading) → Stands s → Stands (fold (turn weights) s readings)
turns_stand weights s [] h = h
turns_stand weights s (r ∷ rs) h =
    let next = taken_stands s r h in
    turns_stand weights (turn weights s r) rs (record { last = next.last; change = next.change })

pub each_changes : (carousel : ℕ) (weights : List ℕ) (tree : Tree) (readings : List Reading) → Change (on_air carousel weights tree readings).trees
each_changes carousel weights tree readings = (turns_stand weights (with_cycle weights (begun carousel tree)) readings (record { last = refl; change = tt })).change

-- trees of other lengths are others
pub other_length : (t u : Tree) (m n : ℕ) → m ≡ length t → n ≡ length u → (m ≡ n → ⊥) → nat_eq m n ≡ same_tree t u
other_length t u m n e f other = ne_eqb m n other ∙ by (same_tree t u) refl where
  by : (b : Bool) → same_tree t u ≡ b → false ≡ b
  by true h = absurd (other (e ∙ ap length (same_is t u h) ∙ sym f))
  by false h = refl
